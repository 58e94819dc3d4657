-- The form of a predicate, level by level: what only proofs and private contracts use.
use Rattle.std.specs.Prelude.{map}
use Rattle.toml.specs.View.{view}
use Rattle.wh_text_catalogue.specs.declared.definitions.pred_form.PredForm.{PredForm}
use Rattle.wh_text_catalogue.specs.declared.definitions.pred_form.PredForm.TheVariants as lent
use Rattle.wh_text_catalogue.specs.PredForm.{WrittenPred, Always, Compare, All, Any, Not}

-- the level that lent parts make
abbrev pub seen : PredForm → WrittenPred
seen lent.Always = Always
seen (lent.Compare comparison left right) = Compare comparison (view left.now) (view right.now)
seen (lent.All parts) = All (map view parts.now)
seen (lent.Any parts) = Any (map view parts.now)
seen (lent.Not part) = Not (view part.now)
