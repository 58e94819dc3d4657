use Rattle.std.proofs.Common.{◌≡◌, ◌≤◌, ◌+◌, ◌*◌, [], drop, map, All}
use Rattle.toml.specs.View.{view}
use Rattle.wh_formula.specs.Pred.{depth}
use Rattle.wh_text.specs.Inner.Dict.{Grows}
use Rattle.wh_text_catalogue.specs.FormulaKinds.{typed_parts, typed_pred}
use Rattle.wh_text_catalogue.proofs.definitions.formula_kinds.+pred_kinds.Given as goal

abbrev pub decreases-typed_pred : goal.decreases-typed_pred
decreases-typed_pred l = 3 * l.levels

abbrev pub decreases-typed_parts : goal.decreases-typed_parts
decreases-typed_parts l = 3 * l.levels + 1

abbrev pub invariant-typed_parts-loop-value : goal.invariant-typed_parts-loop-value
invariant-typed_parts-loop-value l = record {
  read : typed_parts (typed_pred l.header l.levels) [] (map view l.values) l.initial.texts ≡ typed_parts (typed_pred l.header l.levels) l.parts.items (map view (drop l.value-index l.values)) l.texts;
  within : All (λ part. depth part ≤ l.levels) l.parts.items;
  grows : Grows l.initial.texts l.texts;
}

abbrev pub decreases-typed_all : goal.decreases-typed_all
decreases-typed_all l = 3 * l.levels + 2

abbrev pub decreases-typed_any : goal.decreases-typed_any
decreases-typed_any l = 3 * l.levels + 2

abbrev pub decreases-typed_not : goal.decreases-typed_not
decreases-typed_not l = 3 * l.levels + 1
