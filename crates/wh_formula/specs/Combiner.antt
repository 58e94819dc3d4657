-- What a stored closure knows: that it answers an expression on each row of a width.
use Rattle.std.specs.Prelude.{◌≡◌, ℕ, List, ℤ, Option, length}
use Rattle.wh_formula.specs.Expr.{ExprTree, value}

-- what a `Combiner` is seen as: the expression that it answers, and how many cells its rows have
pub record CombinerOf : Type 0 where
  pub expr : ExprTree
  pub width : ℕ

-- what a closure gives on a row of that width is the expression's value there
abbrev pub AnswersExpr : ExprTree → ℕ → (List ℤ → Option ℤ → Type 0) → Type 0
AnswersExpr expr width gives =
    (row : List ℤ) (answer : Option ℤ) → length row ≡ width → gives row answer → answer ≡ value row expr
