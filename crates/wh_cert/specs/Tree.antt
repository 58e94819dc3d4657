-- Trees that say why no one-way strategy costs less, and the lists of their nodes.
use Rattle.std.specs.Prelude.{◌≡◌, ℕ, ◌+◌, ◌≤◌, List, [], ◌∷◌, ◌++◌, max}
use Rattle.wh_dag.specs.declared.siblings.Couple.{Couple}
use Rattle.wh_strategy.specs.declared.expression.Expression.{Expression}
use Rattle.wh_cert.specs.declared.tree.TreeNode.{TreeNode}
use Rattle.wh_cert.specs.declared.tree.TreeNode.TheVariants as node

-- a tree: the bound, or a cycle, or a couple with two trees, the one where its lower view is installed first and the one where its higher
-- view is
pub data CaseTree : Type 0 where
  Bound : CaseTree
  Cycle : List Expression → CaseTree
  Branch : Couple → CaseTree → CaseTree → CaseTree

-- the nodes of a tree in preorder
abbrev pub preorder : CaseTree → List TreeNode
preorder Bound = node.Bound ∷ []
preorder (Cycle list) = node.Cycle list ∷ []
preorder (Branch couple left right) = node.Branch couple ∷ (preorder left ++ preorder right)

-- how deep a tree is: a root alone is 1 deep
abbrev pub depth : CaseTree → ℕ
depth Bound = 1
depth (Cycle list) = 1
depth (Branch couple left right) = 1 + max (depth left) (depth right)

-- the nodes are those of a tree at most 1,000 deep, in preorder
abbrev pub IsTreeOf : List TreeNode → CaseTree → Type 0
IsTreeOf nodes tree = (preorder tree ≡ nodes) × (depth tree ≤ 1000)

-- the couple with the two trees that come first, and the trees after them; nothing where there are no two
abbrev pub joined : Couple → List CaseTree → List CaseTree
joined couple (left ∷ right ∷ trees) = Branch couple left right ∷ trees
joined couple (tree ∷ []) = []
joined couple [] = []

-- the trees that the nodes are, one after another, read from the last node on
unfoldable pub forest_of : List TreeNode → List CaseTree
forest_of [] = []
forest_of (node.Bound ∷ nodes) = Bound ∷ forest_of nodes
forest_of (node.Cycle list ∷ nodes) = Cycle list ∷ forest_of nodes
forest_of (node.Branch couple ∷ nodes) = joined couple (forest_of nodes)

abbrev pub first_tree : List CaseTree → CaseTree
first_tree [] = Bound
first_tree (tree ∷ trees) = tree

-- the tree whose nodes these are
abbrev pub tree_of : List TreeNode → CaseTree
tree_of nodes = first_tree (forest_of nodes)
