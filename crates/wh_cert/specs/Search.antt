-- When a tree is accepted, and which of its nodes is the first bad one.
use Rattle.std.specs.Prelude.{◌≡◌, ℕ, ◌+◌, ◌≤◌, List, [], ◌∷◌, ◌++◌, Some, slice_get, take, true, false}
use Rattle.std.specs.List.{All}
use Rattle.wh_dag.specs.Siblings.{is_couple}
use Rattle.wh_dag.specs.declared.siblings.Couple.{Couple}
use Rattle.wh_strategy.specs.Prices.{Prices}
use Rattle.wh_strategy.specs.declared.sizes.Size.{Size}
use Rattle.wh_cert.specs.Bound.{decided_bound_of}
use Rattle.wh_cert.specs.Graph.{decides, IsCycle}
use Rattle.wh_cert.specs.Tree.{CaseTree, Bound, Cycle, Branch}
use Rattle.wh_cert.specs.declared.tree.TreeNode.{TreeNode}
use Rattle.wh_cert.specs.declared.tree.TreeNode.TheVariants as node

-- a node where it stands in a tree: the couples that are decided above it, the nearest first
pub record Placed : Type 0 where
  pub above : List (ℕ × ℕ)
  pub node : TreeNode

-- the decision that a couple's lower view is installed first, and the one that its higher view is
abbrev pub lower_first : Couple → ℕ × ℕ
lower_first couple = (couple.lower, couple.higher)

abbrev pub higher_first : Couple → ℕ × ℕ
higher_first couple = (couple.higher, couple.lower)

-- the nodes of a tree in preorder, each where it stands, below these decisions
abbrev pub nodes_below : List (ℕ × ℕ) → CaseTree → List Placed
nodes_below above Bound = record { above = above; node = node.Bound } ∷ []
nodes_below above (Cycle list) = record { above = above; node = node.Cycle list } ∷ []
nodes_below above (Branch couple left right) =
    record { above = above; node = node.Branch couple } ∷ (nodes_below (lower_first couple ∷ above) left ++ nodes_below (higher_first couple ∷ above) right)

-- the nodes of a whole tree in preorder, each where it stands
abbrev pub nodes_of : CaseTree → List Placed
nodes_of tree = nodes_below [] tree

-- the pair is a couple, the lower number first, and it is decided neither way
pub record IsOpen (shape : List (List ℕ)) (above : List (ℕ × ℕ)) (pair : Couple) : Type 0 where
  pub couple : is_couple shape pair ≡ true
  pub not_lower_first : decides above pair.lower pair.higher ≡ false
  pub not_higher_first : decides above pair.higher pair.lower ≡ false

-- A node is good below these decisions, for a strategy of this work. Under them the bound is at least the work, the list is a cycle of
-- their graph, or the pair is a couple that they leave open.
abbrev pub IsGood : List (List ℕ) → (ℕ → Size) → Prices → ℕ → List (ℕ × ℕ) → TreeNode → Type 0
IsGood shape sizes prices work above node.Bound = work ≤ decided_bound_of shape sizes prices above
IsGood shape sizes prices work above (node.Cycle list) = IsCycle shape above list
IsGood shape sizes prices work above (node.Branch pair) = IsOpen shape above pair

-- a node is good where it stands in a tree, for a strategy of this work
abbrev pub IsGoodNode : List (List ℕ) → (ℕ → Size) → Prices → ℕ → Placed → Type 0
IsGoodNode shape sizes prices work placed = IsGood shape sizes prices work placed.above placed.node

-- a tree is accepted for a strategy of this work: each of its nodes is good
abbrev pub IsAcceptedTree : List (List ℕ) → (ℕ → Size) → Prices → ℕ → CaseTree → Type 0
IsAcceptedTree shape sizes prices work tree = All (IsGoodNode shape sizes prices work) (nodes_of tree)

-- this is the first bad node of a tree in preorder, counted from 1
pub record IsFirstBad (shape : List (List ℕ)) (sizes : ℕ → Size) (prices : Prices) (work : ℕ) (tree : CaseTree) (place : ℕ) : Type 0 where
  pub index : ℕ
  pub counted : place ≡ index + 1
  pub placed : Placed
  pub there : slice_get (nodes_of tree) index ≡ Some placed
  pub bad : IsGoodNode shape sizes prices work placed → ⊥
  pub earlier : All (IsGoodNode shape sizes prices work) (take index (nodes_of tree))
