-- The nodes that are left while a graph is sorted, with edges that sets of views tell: what only proofs and private contracts use.
use Rattle.std.specs.Prelude.{◌≡◌, ℕ, ◌+◌, ◌<◌, List, [], ◌∷◌, Bool, true, false, ◌&&◌, ◌||◌, ◌==◌, nat_lt, slice_get, Some, length, ◌⊎◌}
use Rattle.wh_dag.specs.Shape.{has, children_of, IsShape}
use Rattle.wh_dag.specs.declared.siblings.Couple.{Couple}
use Rattle.wh_cert.specs.Graph.{decides}
use Rattle.wh_minwork.specs.Inner.Nodes.{one_if, times}
use Rattle.wh_minwork.specs.Inner.Sets.{in_set, in_rows}
use Rattle.wh_minwork.specs.declared.node.Node.{Node}
use Rattle.wh_minwork.specs.declared.node.Node.TheVariants.{Comp, Inst}
use Rattle.wh_minwork.specs.Left.{AreOf}

-- the numbers of the node have a place in a set of 64
abbrev pub IsWithin : Node → Type 0
IsWithin (Comp v u) = (v < 64) × (u < 64)
IsWithin (Inst w) = w < 64

-- a node by the sets of the views that each view is over, and of all views
abbrev pub is_node_by : List ℕ → ℕ → Node → Bool
is_node_by over views (Comp v u) = in_rows over v u
is_node_by over views (Inst w) = in_set views w

-- the first leads to the second by the sets of the views that each view is over, and of those to be installed before each
abbrev pub leads_by : List ℕ → List ℕ → Node → Node → Bool
leads_by over before (Comp v u) (Inst w) = (u == w) || (v == w)
leads_by over before (Inst u) (Comp v w) = in_rows over v u && (in_rows over v w && in_rows before w u)
leads_by over before (Comp u x) (Comp v w) = w == u
leads_by over before (Inst u) (Inst w) = false

-- The sets tell of this graph. Views have numbers below 64, and what is decided of other numbers adds no edge.
pub record AreEdges (views : ℕ) (over under before : List ℕ) (shape : List (List ℕ)) (decided : List (ℕ × ℕ)) : Type 0 where
  pub shape_is : IsShape shape
  pub views_are : (v : ℕ) → in_set views v ≡ nat_lt v (length shape)
  pub over_are : (v u : ℕ) → in_rows over v u ≡ has (children_of shape v) u
  pub under_are : (u v : ℕ) → in_rows under u v ≡ has (children_of shape v) u
  pub before_are : (u w : ℕ) → u < 64 → w < 64 → in_rows before w u ≡ decides decided u w

-- the sets tell of some graph
abbrev pub AreSomeEdges : ℕ → List ℕ → List ℕ → List ℕ → Type 0
AreSomeEdges views over under before =
    (shape : List (List ℕ)) × (decided : List (ℕ × ℕ)) × AreEdges views over under before shape decided

-- the second rows are the first ones read the other way round
pub record AreTurned (rows others : List ℕ) : Type 0 where
  pub each : (v u : ℕ) → in_rows others u v ≡ in_rows rows v u

-- the node is left: by the views from which the Comps of each view are left, and by those whose Insts are
abbrev pub is_left : List ℕ → ℕ → Node → Bool
is_left comps insts (Comp v u) = in_rows comps v u
is_left comps insts (Inst w) = in_set insts w

-- a node that is left leads to this one
abbrev pub IsLed : List ℕ → List ℕ → List ℕ → ℕ → Node → Type 0
IsLed over before comps insts y = (x : Node) × (is_left comps insts x ≡ true) × (leads_by over before x y ≡ true)

-- no node that is left leads to this one
abbrev pub IsFree : List ℕ → List ℕ → List ℕ → ℕ → Node → Type 0
IsFree over before comps insts y = (x : Node) → is_left comps insts x ≡ true → leads_by over before x y ≡ false

-- views whose Comps, and views whose Insts are hinted at
abbrev pub is_hinted : ℕ → ℕ → Node → Bool
is_hinted comps insts (Comp v u) = in_set comps v
is_hinted comps insts (Inst w) = in_set insts w

-- each node that is left is hinted at, or one that is left leads to it
pub record AreHints (over before comps : List ℕ) (insts hint_comps hint_insts : ℕ) : Type 0 where
  pub each : (y : Node) → is_left comps insts y ≡ true → (is_hinted hint_comps hint_insts y ≡ true) ⊎ IsLed over before comps insts y

-- what is left are nodes
pub record AreNodesLeft (views : ℕ) (over comps : List ℕ) (insts : ℕ) : Type 0 where
  pub each : (y : Node) → is_left comps insts y ≡ true → is_node_by over views y ≡ true

-- The nodes are parted into those that are placed and those that are left; each is placed after all that lead to it.
pub record ArePlaced (views : ℕ) (over before comps : List ℕ) (insts : ℕ) (placed : List Node) : Type 0 where
  pub each : (e : Node) → times e placed + one_if (is_left comps insts e) ≡ one_if (is_node_by over views e)
  pub forward : (q : ℕ) (x y : Node) → slice_get placed q ≡ Some y → leads_by over before x y ≡ true → is_node_by over views x ≡ true → (p : ℕ) × (p < q) × (slice_get placed p ≡ Some x)

-- by these edges, one leads from x along the nodes of the list, and from the last one to z
abbrev pub Passes : (Node → Node → Bool) → (Node → Bool) → Node → List Node → Node → Type 0
Passes edge node x [] z = edge x z ≡ true
Passes edge node x (y ∷ ys) z = (node y ≡ true) × (edge x y ≡ true) × Passes edge node y ys z

-- a cycle of nodes by these edges
abbrev pub IsRound : (Node → Node → Bool) → (Node → Bool) → List Node → Type 0
IsRound edge node [] = ⊥
IsRound edge node (x ∷ xs) = (node x ≡ true) × Passes edge node x xs x

-- the first node installs one view of the couple, and the second is a Comp from the other one
abbrev pub IsBetween : Couple → Node → Node → Type 0
IsBetween couple (Inst u) (Comp v w) = AreOf couple u w
IsBetween couple (Inst u) (Inst w) = ⊥
IsBetween couple (Comp v u) y = ⊥

-- by these edges one leads from x along the nodes of the list, and on to z, as far as the couple's edge
abbrev pub PassesTo : (Node → Node → Bool) → Couple → Node → List Node → Node → Type 0
PassesTo edge couple x [] z = IsBetween couple x z
PassesTo edge couple x (y ∷ ys) z = IsBetween couple x y ⊎ ((edge x y ≡ true) × PassesTo edge couple y ys z)

-- the same along a cycle, from its first node
abbrev pub IsRoundTo : (Node → Node → Bool) → Couple → List Node → Type 0
IsRoundTo edge couple [] = ⊥
IsRoundTo edge couple (x ∷ xs) = PassesTo edge couple x xs x
