-- The form of an expression, level by level: what only proofs and private contracts use.
use Rattle.toml.specs.View.{view}
use Rattle.wh_text_catalogue.specs.declared.definitions.expr_form.ExprForm.{ExprForm}
use Rattle.wh_text_catalogue.specs.declared.definitions.expr_form.ExprForm.TheVariants as lent
use Rattle.wh_text_catalogue.specs.ExprForm.{WrittenExpr, Number, Reference, Literal, Operation}

-- the level that lent parts make
abbrev pub seen : ExprForm → WrittenExpr
seen (lent.Number n) = Number n
seen (lent.Reference text) = Reference text.now
seen (lent.Literal text) = Literal text.now
seen (lent.Operation sign left right) = Operation sign (view left.now) (view right.now)
