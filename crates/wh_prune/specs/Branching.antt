-- The couples on which a search branches.
use Rattle.std.specs.Prelude.{ℕ, List}
use Rattle.wh_dag.specs.declared.siblings.Couple.{Couple}
use Rattle.wh_strategy.specs.declared.sizes.Size.{Size}
use Rattle.wh_cert.specs.Graph.{IsOrdered}
use Rattle.wh_cert.specs.Search.{Placed}
use Rattle.wh_cert.specs.declared.tree.TreeNode.{TreeNode}
use Rattle.wh_cert.specs.declared.tree.TreeNode.TheVariants as node
use Rattle.wh_minwork.specs.Draft.{OpensCycle}

-- the couple is the first one along a cycle that is not decided, below these decisions, where each couple that is not decided stands in the
-- desired order
abbrev pub IsOnCycle : List (List ℕ) → (ℕ → Size) → List (ℕ × ℕ) → Couple → Type 0
IsOnCycle shape sizes decided couple = (ordered : List (ℕ × ℕ)) × IsOrdered shape sizes ordered × OpensCycle shape ordered decided couple

-- a node of a tree, if it is a branch, takes its couple from such a cycle below these decisions
abbrev pub TakesFromCycle : List (List ℕ) → (ℕ → Size) → List (ℕ × ℕ) → TreeNode → Type 0
TakesFromCycle shape sizes above node.Bound = Unit {0}
TakesFromCycle shape sizes above (node.Cycle list) = Unit {0}
TakesFromCycle shape sizes above (node.Branch couple) = IsOnCycle shape sizes above couple

-- a node, if it is a branch, takes its couple from such a cycle where it stands
abbrev pub BranchesOnCycle : List (List ℕ) → (ℕ → Size) → Placed → Type 0
BranchesOnCycle shape sizes placed = TakesFromCycle shape sizes placed.above placed.node
