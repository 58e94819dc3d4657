-- Lists of nodes that begin with those of a tree.
use Rattle.std.specs.Prelude.{◌≡◌, ℕ, ◌≤◌, List, ◌++◌}
use Rattle.wh_cert.specs.Tree.{CaseTree, preorder, depth}
use Rattle.wh_cert.specs.declared.tree.TreeNode.{TreeNode}

-- the list begins with the nodes of a tree that is at most so deep, and these are the nodes after them
pub record IsTreeFirst (deep : ℕ) (nodes rest : List TreeNode) : Type 0 where
  pub tree : CaseTree
  pub first : preorder tree ++ rest ≡ nodes
  pub within : depth tree ≤ deep

-- it begins with those of no such tree
abbrev pub NoTreeFirst : ℕ → List TreeNode → Type 0
NoTreeFirst deep nodes = (rest : List TreeNode) → IsTreeFirst deep nodes rest → ⊥
