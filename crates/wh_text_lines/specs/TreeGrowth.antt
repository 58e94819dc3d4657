-- Trees node by node: where, after some nodes in preorder, trees are still to stand.
use Rattle.std.specs.Prelude.{◌≡◌, ◌↔◌, ◌+◌, ◌++◌, ◌==◌, ℕ, Bool, true, false, nat_le, List, [], ◌∷◌, length, take, Option, Some, None, is_some, option_and_then, if◌then◌else◌}
use Rattle.std.specs.List.{list_all}
use Rattle.wh_cert.specs.Tree.{CaseTree, Bound, Cycle, Branch, IsTreeOf, preorder}
use Rattle.wh_cert.specs.declared.tree.TreeNode.{TreeNode}
use Rattle.wh_cert.specs.declared.tree.TreeNode.TheVariants as node

-- the places right below a node that is so deep, each as its depth
abbrev pub below : ℕ → TreeNode → List ℕ
below depth node.Bound = []
below depth (node.Cycle list) = []
below depth (node.Branch couple) = (depth + 1) ∷ (depth + 1) ∷ []

-- The places where trees are still to stand, the next one first, after this node at the next of these. None where there is none, or it lies
-- more than 1,000 deep.
abbrev pub after_node : TreeNode → List ℕ → Option (List ℕ)
after_node own [] = None
after_node own (depth ∷ places) = if nat_le depth 1000 then Some (below depth own ++ places) else None

-- these places after nodes, each at the next one that the nodes before it leave
abbrev pub after_nodes : List TreeNode → List ℕ → Option (List ℕ)
after_nodes [] places = Some places
after_nodes (own ∷ nodes) places = option_and_then (after_nodes nodes) (after_node own places)

-- the places that the nodes leave where the first of them is a root, which is 1 deep
abbrev pub places_after : List TreeNode → Option (List ℕ)
places_after nodes = after_nodes nodes (1 ∷ [])

-- the nodes begin a tree in preorder, and none of them is more than 1,000 deep
abbrev pub begins_tree : List TreeNode → Bool
begins_tree nodes = is_some (places_after nodes)

-- no place is left
abbrev pub are_taken : Option (List ℕ) → Bool
are_taken None = false
are_taken (Some places) = length places == 0

-- the nodes are those of a whole tree, at most 1,000 deep
abbrev pub is_tree : List TreeNode → Bool
is_tree nodes = are_taken (places_after nodes)

-- how deep the nodes of a tree lie, in preorder, where its root lies so deep
abbrev pub depths : ℕ → CaseTree → List ℕ
depths deep Bound = deep ∷ []
depths deep (Cycle list) = deep ∷ []
depths deep (Branch couple left right) = deep ∷ (depths (deep + 1) left ++ depths (deep + 1) right)

-- the nodes begin a tree in preorder, and none of them lies more than 1,000 deep in it
pub record IsBegun (nodes : List TreeNode) : Type 0 where
  pub tree : CaseTree
  pub rest : List TreeNode
  pub begins : preorder tree ≡ nodes ++ rest
  pub within : list_all (λ deep. nat_le deep 1000) (take (length nodes) (depths 1 tree)) ≡ true

-- the test whether nodes begin a tree passes exactly those that do
abbrev pub BegunTrees : Type 0
BegunTrees = (nodes : List TreeNode) → (begins_tree nodes ≡ true) ↔ IsBegun nodes

-- the test whether nodes are those of a whole tree passes exactly those that are
abbrev pub WholeTrees : Type 0
WholeTrees = (nodes : List TreeNode) → (is_tree nodes ≡ true) ↔ ((tree : CaseTree) × IsTreeOf nodes tree)
