-- The way from a node of a tree to the next one in preorder, as the couples that are decided above them, the nearest first.
use Rattle.std.specs.Prelude.{ℕ, List, [], ◌∷◌, nat_lt, if◌then◌else◌}
use Rattle.wh_cert.specs.Search.{lower_first}
use Rattle.wh_cert.specs.declared.tree.TreeNode.{TreeNode}
use Rattle.wh_cert.specs.declared.tree.TreeNode.TheVariants as node

-- from the end of a subtree: the nearest decision whose lower view is first is turned, and those below it are over
abbrev pub turned : List (ℕ × ℕ) → List (ℕ × ℕ)
turned [] = []
turned (d ∷ above) = if nat_lt d.0 d.1 then (d.1, d.0) ∷ above else turned above

-- past a node: below a branch its lower view is first
abbrev pub past : TreeNode → List (ℕ × ℕ) → List (ℕ × ℕ)
past node.Bound above = turned above
past (node.Cycle list) above = turned above
past (node.Branch couple) above = lower_first couple ∷ above
