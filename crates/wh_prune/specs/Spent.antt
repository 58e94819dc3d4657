-- What is known where a search has spent its budget.
use Rattle.std.specs.Prelude.{◌≡◌, ℕ, ◌+◌, ◌^◌, ◌<◌, List, [], ◌∷◌, length}
use Rattle.wh_dag.specs.Siblings.{IsCouple, couples_of}
use Rattle.wh_strategy.specs.declared.expression.Expression.{Expression}
use Rattle.wh_strategy.specs.declared.expression.Expression.TheVariants.{Inst}
use Rattle.wh_strategy.specs.Expression.{At}
use Rattle.wh_strategy.specs.Prices.{Prices}
use Rattle.wh_strategy.specs.Rules.{IsCorrect, IsOneWay}
use Rattle.wh_strategy.specs.declared.sizes.Size.{Size}
use Rattle.wh_strategy.specs.Work.{work_of}
use Rattle.wh_cert.specs.declared.tree.TreeNode.{TreeNode}
use Rattle.wh_prune.specs.Opening.{HasOpened}

-- of two views that have a common parent, the one of the lower number is installed first
abbrev pub InstallsLowerFirst : List (List ℕ) → List Expression → Type 0
InstallsLowerFirst shape list = (u w p q : ℕ) → IsCouple shape u w → u < w → At list p (Inst u) → At list q (Inst w) → p < q

-- a search begins with this work: that of a one-way strategy in which the lower number of each couple is installed first
pub record BeginsWith (shape : List (List ℕ)) (sizes : ℕ → Size) (prices : Prices) (work : ℕ) : Type 0 where
  pub list : List Expression
  pub correct : IsCorrect shape list
  pub one_way : IsOneWay list
  pub lower_first : InstallsLowerFirst shape list
  pub costs : work_of shape sizes prices list ≡ work

-- The budget was spent: from the root of the tree on as many nodes as it says were opened, and one more waits. The least work of
-- the lists that were found is `best`, that of a one-way strategy. The full tree of all couples has more nodes than the budget.
pub record IsSpent (shape : List (List ℕ)) (sizes : ℕ → Size) (prices : Prices) (budget opened best : ℕ) : Type 0 where
  pub all : opened ≡ budget
  pub first : ℕ
  pub begins : BeginsWith shape sizes prices first
  pub nodes : List TreeNode
  pub many : length nodes ≡ opened
  pub waits : List (ℕ × ℕ)
  pub others : List (List (ℕ × ℕ))
  pub searched : HasOpened shape sizes prices first ([] ∷ []) nodes best (waits ∷ others)
  pub known : (list : List Expression) × IsCorrect shape list × IsOneWay list × (work_of shape sizes prices list ≡ best)
  pub few : budget + 1 < 2 ^ (length (couples_of shape) + 1)
