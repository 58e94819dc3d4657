-- Where a search stands, and what it has found.
use Rattle.std.specs.Prelude.{◌≡◌, ℕ, ◌+◌, ◌<◌, ◌≤◌, List, ◌∷◌, ◌++◌, length, map, true, reverse, if◌then◌else◌, nat_lt}
use Rattle.std.specs.List.{All}
use Rattle.wh_dag.specs.Siblings.{couples_of}
use Rattle.wh_dag.specs.declared.siblings.Couple.{Couple}
use Rattle.wh_strategy.specs.declared.expression.Expression.{Expression}
use Rattle.wh_strategy.specs.Prices.{Prices}
use Rattle.wh_strategy.specs.Rules.{IsCorrect, IsOneWay}
use Rattle.wh_strategy.specs.declared.sizes.Size.{Size}
use Rattle.wh_strategy.specs.Work.{work_of}
use Rattle.wh_cert.specs.Graph.{decides}
use Rattle.wh_cert.specs.Search.{IsGoodNode, nodes_below}
use Rattle.wh_cert.specs.Tree.{CaseTree, preorder, depth}
use Rattle.wh_cert.specs.declared.tree.TreeNode.{TreeNode}
use Rattle.wh_prune.specs.Branching.{BranchesOnCycle}
use Rattle.wh_prune.specs.Opening.{HasOpened}
use Rattle.wh_prune.specs.declared.fault.PruneFault.{PruneFault}
use Rattle.wh_prune.specs.declared.fault.PruneFault.TheVariants.{Budget, Memory}

-- the couple that a decision is on
abbrev pub couple_of : ℕ × ℕ → Couple
couple_of decision =
    if nat_lt decision.0 decision.1 then record { lower = decision.0; higher = decision.1 }
    else record { lower = decision.1; higher = decision.0 }

-- of the shape's couples in their order, the first ones are decided, each once, and these are left
abbrev pub AreLeft : List (List ℕ) → List (ℕ × ℕ) → List Couple → Type 0
AreLeft shape decided rest = map couple_of decided ++ rest ≡ couples_of shape

-- each decision is to install the view of the lower number first
abbrev pub DecidesLowerFirst : List (ℕ × ℕ) → Type 0
DecidesLowerFirst decided = (u w : ℕ) → decides decided u w ≡ true → u < w

-- the list is a one-way strategy of this work
pub record IsHeld (shape : List (List ℕ)) (sizes : ℕ → Size) (prices : Prices) (work : ℕ) (list : List Expression) : Type 0 where
  pub correct : IsCorrect shape list
  pub one_way : IsOneWay list
  pub costs : work_of shape sizes prices list ≡ work

-- After the nodes of before come those of a tree, and nothing else. It is at most so deep, and below these decisions, the last
-- of which is the nearest, each of its nodes is good for a strategy of this work, and each of its branches is on a couple of a cycle.
pub record IsExplored (shape : List (List ℕ)) (sizes : ℕ → Size) (prices : Prices) (work deep : ℕ) (decided : List (ℕ × ℕ)) (before after : List TreeNode) : Type 0 where
  pub tree : CaseTree
  pub nodes : after ≡ before ++ preorder tree
  pub within : depth tree ≤ deep
  pub good : All (IsGoodNode shape sizes prices work) (nodes_below (reverse decided) tree)
  pub branches : All (BranchesOnCycle shape sizes) (nodes_below (reverse decided) tree)

-- Below these decisions a search that had found `least` opened nodes, which come after those of before and nothing else does. It has
-- found `best` then, and the nodes of `left` wait, before all that waited behind this one.
pub record HasRun (shape : List (List ℕ)) (sizes : ℕ → Size) (prices : Prices) (decided : List (ℕ × ℕ)) (least best : ℕ) (left : List (List (ℕ × ℕ))) (before after : List TreeNode) : Type 0 where
  pub opened : List TreeNode
  pub nodes : after ≡ before ++ opened
  pub run : (rest : List (List (ℕ × ℕ))) → HasOpened shape sizes prices least (decided ∷ rest) opened best (left ++ rest)

-- Why a search below these decisions stopped. As many nodes are open as its budget says, this is the least work so far, a node waits,
-- and the whole tree has more nodes than the budget, namely one fewer than `all`. Or memory was refused.
abbrev pub IsStopped : List (List ℕ) → (ℕ → Size) → Prices → ℕ → ℕ → List (ℕ × ℕ) → ℕ → ℕ → List TreeNode → List TreeNode → PruneFault → Type 0
IsStopped shape sizes prices budget all decided least best before after (Budget opened work) =
    (opened ≡ budget) × (work ≡ best) × (budget + 1 < all) × (length after ≡ budget)
    × (waits : List (ℕ × ℕ)) × (others : List (List (ℕ × ℕ))) × HasRun shape sizes prices decided least best (waits ∷ others) before after
IsStopped shape sizes prices budget all decided least best before after Memory = Unit {0}
