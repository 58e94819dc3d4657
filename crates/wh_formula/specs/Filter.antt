-- What a stored closure knows: that it answers a test on each row of a width.
use Rattle.std.specs.Prelude.{◌≡◌, ℕ, List, ℤ, Bool, length}
use Rattle.wh_formula.specs.Pred.{PredTree, holds}

-- what a `Filter` is seen as: the test that it answers, and how many cells its rows have
pub record FilterOf : Type 0 where
  pub pred : PredTree
  pub width : ℕ

-- what a closure gives on a row of that width is whether the row meets the test
abbrev pub AnswersPred : PredTree → ℕ → (List ℤ → Bool → Type 0) → Type 0
AnswersPred pred width gives =
    (row : List ℤ) (answer : Bool) → length row ≡ width → gives row answer → answer ≡ holds row pred
