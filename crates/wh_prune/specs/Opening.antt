-- How a search opens the nodes of a tree of decisions, one after another.
use Rattle.std.specs.Prelude.{◌≡◌, ℕ, ◌<◌, ◌≤◌, List, [], ◌∷◌, ◌++◌}
use Rattle.wh_dag.specs.declared.siblings.Couple.{Couple}
use Rattle.wh_strategy.specs.declared.expression.Expression.{Expression}
use Rattle.wh_strategy.specs.Prices.{Prices}
use Rattle.wh_strategy.specs.Rules.{IsCorrect, IsOneWay}
use Rattle.wh_strategy.specs.declared.sizes.Size.{Size}
use Rattle.wh_strategy.specs.Work.{work_of}
use Rattle.wh_cert.specs.Bound.{decided_bound_of}
use Rattle.wh_cert.specs.Graph.{IsCycle, IsOrdered}
use Rattle.wh_cert.specs.Search.{lower_first, higher_first}
use Rattle.wh_cert.specs.declared.tree.TreeNode.{TreeNode}
use Rattle.wh_cert.specs.declared.tree.TreeNode.TheVariants as node
use Rattle.wh_minwork.specs.Draft.{completed}
use Rattle.wh_minwork.specs.Sorted.{IsSorted}
use Rattle.wh_prune.specs.Branching.{IsOnCycle}

-- A node that waits to be opened is given by the decisions above it, the nearest last.

-- the nodes right below a node: of a branch the one where the couple's lower view is installed first, and the other one
abbrev pub below : List (ℕ × ℕ) → TreeNode → List (List (ℕ × ℕ))
below decided node.Bound = []
below decided (node.Cycle list) = []
below decided (node.Branch couple) = (decided ++ lower_first couple ∷ []) ∷ (decided ++ higher_first couple ∷ []) ∷ []

-- the list is a correct one-way strategy of this work: the graph sorted in which the couples that the decisions leave open stand in
-- the desired order
pub record IsListOf (shape : List (List ℕ)) (sizes : ℕ → Size) (prices : Prices) (decided : List (ℕ × ℕ)) (work : ℕ) (list : List Expression) : Type 0 where
  pub correct : IsCorrect shape list
  pub one_way : IsOneWay list
  pub costs : work_of shape sizes prices list ≡ work
  pub sorted : (ordered : List (ℕ × ℕ)) × IsOrdered shape sizes ordered × IsSorted shape (completed ordered decided) list

-- A search that has found `least` opens a node below these decisions, and has found `next` then. Where the decided bound is no less
-- than `least`, nothing below the node is worth a look. Where it is less, a list is found that costs less; or the decided couples
-- have a cycle; or the node is a branch, on a couple of a cycle.
pub data Opens (shape : List (List ℕ)) (sizes : ℕ → Size) (prices : Prices) (decided : List (ℕ × ℕ)) (least next : ℕ) (opened : TreeNode) : Type 0 where
  cut : least ≤ decided_bound_of shape sizes prices decided → next ≡ least → opened ≡ node.Bound → Opens shape sizes prices decided least next opened
  found : (list : List Expression) → decided_bound_of shape sizes prices decided < least → IsListOf shape sizes prices decided next list → next < least
      → opened ≡ node.Bound → Opens shape sizes prices decided least next opened
  cycle : (list : List Expression) → decided_bound_of shape sizes prices decided < least → IsCycle shape decided list → next ≡ least
      → opened ≡ node.Cycle list → Opens shape sizes prices decided least next opened
  branch : (couple : Couple) → decided_bound_of shape sizes prices decided < least → IsOnCycle shape sizes decided couple → next ≡ least
      → opened ≡ node.Branch couple → Opens shape sizes prices decided least next opened

-- A search that has found `least`, where these nodes wait, opens these nodes, one after another, always the first that waits; those
-- right below it wait before all others then. At the end it has found `best`, and the nodes of `left` wait.
abbrev pub HasOpened : List (List ℕ) → (ℕ → Size) → Prices → ℕ → List (List (ℕ × ℕ)) → List TreeNode → ℕ → List (List (ℕ × ℕ)) → Type 0
HasOpened shape sizes prices least waiting [] best left = (best ≡ least) × (left ≡ waiting)
HasOpened shape sizes prices least [] (opened ∷ nodes) best left = ⊥
HasOpened shape sizes prices least (decided ∷ waiting) (opened ∷ nodes) best left =
    (next : ℕ) × Opens shape sizes prices decided least next opened × HasOpened shape sizes prices next (below decided opened ++ waiting) nodes best left
