-- Where something is listed of a shape, the shape has a view.
use Rattle.std.proofs.Common.{◌≡◌, ◌≢◌, ℕ, ◌<◌, List, [], ◌∷◌, true, refl, length, map, arith}
use Rattle.std.proofs.lemmas.Bool.{ltb-true, false≢true}
use Rattle.wh_dag.specs.Siblings.{have_parent, sibling_pairs_of, each_below}
use Rattle.wh_strategy.specs.declared.expression.Expression.{Expression}
use Rattle.wh_strategy.specs.declared.expression.Expression.TheVariants.{Comp as comp, Inst as inst}
use Rattle.wh_strategy.proofs.Found.{has_within}
use Rattle.wh_cert.specs.Graph.{IsNode, IsCycle}
use Rattle.wh_minwork.specs.Inner.Nodes.{expression_of, is_node}
use Rattle.wh_minwork.specs.Sorted.{IsSorted}
use Rattle.wh_minwork.specs.declared.node.Node.{Node}
use Rattle.wh_minwork.specs.declared.node.Node.TheVariants.{Comp, Inst}

pub node_view : (shape : List (List ℕ)) (x : Node) → is_node shape x ≡ true → 0 < length shape
node_view shape (Comp v u) h = let l : v < length shape = has_within shape v u h in omega arith
node_view shape (Inst v) h = let l : v < length shape = ltb-true v (length shape) h in omega arith

expression_view : (shape : List (List ℕ)) (x : Expression) → IsNode shape x → 0 < length shape
expression_view shape (comp v ys) h = let l : v < length shape = has_within shape v h.0 h.2 in omega arith
expression_view shape (inst v) h = let l : v < length shape = h in omega arith

-- a cycle of its graph
pub cycle_view : (shape : List (List ℕ)) (decided : List (ℕ × ℕ)) (cycle : List Expression) → IsCycle shape decided cycle → 0 < length shape
cycle_view shape decided [] h = absurd h
cycle_view shape decided (x ∷ xs) h = expression_view shape x h.0

-- what is sorted of its nodes
pub sorted_view : (shape : List (List ℕ)) (decided : List (ℕ × ℕ)) (nodes : List Node) → IsSorted shape decided (map expression_of nodes) → 0 < length nodes → 0 < length shape
sorted_view shape decided [] h some = absurd (omega arith)
sorted_view shape decided (x ∷ xs) h some = expression_view shape (expression_of x) (h.nodes 0 (expression_of x) refl)

-- two views with a common parent
pub couple_view : (shape : List (List ℕ)) (u w : ℕ) → have_parent shape u w ≡ true → 0 < length shape
unfolding have_parent
couple_view [] u w h = absurd (false≢true h)
couple_view (own ∷ shape) u w h = omega arith

-- a sibling pair
pub pair_view : (shape : List (List ℕ)) → sibling_pairs_of shape ≢ [] → 0 < length shape
unfolding sibling_pairs_of each_below
pair_view [] some = absurd (some refl)
pair_view (own ∷ shape) some = omega arith
