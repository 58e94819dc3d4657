-- What the sets of a draft tell of its graph.
use Rattle.std.proofs.Common.{◌≡◌, Bool, ℕ, List, [], ◌<◌, true, false, ◌&&◌, ◌||◌, refl, sym, ap, ◌∙◌, length, map, arith}
use Rattle.std.proofs.lemmas.Bool.{lt-ltb, false≢true, true_from_ne_false}
use Rattle.wh_dag.specs.Shape.{has, children_of}
use Rattle.wh_strategy.proofs.Found.{has_within}
use Rattle.wh_cert.specs.Graph.{decides, DecidesAll}
use Rattle.wh_minwork.specs.Decided.{AreDecisions}
use Rattle.wh_minwork.specs.Inner.Draft.{AreDraftSets}
use Rattle.wh_minwork.specs.Inner.Left.{AreEdges, AreNodesLeft, ArePlaced, AreTurned, IsRound, is_left, is_node_by, leads_by}
use Rattle.wh_minwork.specs.Inner.Nodes.{expression_of, is_node, leads, one_if}
use Rattle.wh_minwork.specs.Inner.Sets.{in_set, in_rows}
use Rattle.wh_minwork.specs.Sorted.{IsSorted}
use Rattle.wh_minwork.specs.declared.node.Node.{Node}
use Rattle.wh_minwork.specs.declared.node.Node.TheVariants.{Comp, Inst}
use Rattle.wh_minwork.proofs.Counting.{is_one, is_none}
use Rattle.wh_minwork.proofs.Drafting.{child_view, completed_none, decisions_one_way}
use Rattle.wh_minwork.proofs.Placing.{all_sorted}
use Rattle.wh_minwork.proofs.Rounds.{round_moves}
use Rattle.wh_minwork.proofs.Views.{node_view}

pub over_within : (views : ℕ) (over under before : List ℕ) (shape : List (List ℕ)) (decided : List (ℕ × ℕ)) → AreEdges views over under before shape decided → (v u : ℕ) → in_rows over v u ≡ true → in_set views v ≡ true
over_within views over under before shape decided h v u t =
    h.views_are v ∙ lt-ltb v (length shape) (has_within shape v u (sym (h.over_are v u) ∙ t))

pub turned_edges : (views : ℕ) (over under before : List ℕ) (shape : List (List ℕ)) (decided : List (ℕ × ℕ)) → AreEdges views over under before shape decided → AreTurned over under
turned_edges views over under before shape decided h = record { each = λ v u. h.under_are u v ∙ sym (h.over_are v u) }

node_same : (views : ℕ) (over under before : List ℕ) (shape : List (List ℕ)) (decided : List (ℕ × ℕ)) → AreEdges views over under before shape decided → (x : Node) → is_node_by over views x ≡ is_node shape x
node_same views over under before shape decided h (Comp v u) = h.over_are v u
node_same views over under before shape decided h (Inst w) = h.views_are w

edge_same : (views : ℕ) (over under before : List ℕ) (shape : List (List ℕ)) (decided : List (ℕ × ℕ)) → AreEdges views over under before shape decided → (x y : Node) → leads_by over before x y ≡ leads shape decided x y
edge_same views over under before shape decided h (Comp v u) (Inst w) = refl
edge_same views over under before shape decided h (Comp u x) (Comp v w) = refl
edge_same views over under before shape decided h (Inst u) (Inst w) = refl
edge_same views over under before shape decided h (Inst u) (Comp v w) =
    ap (λ z. z && (in_rows over v w && in_rows before w u)) (h.over_are v u)
    ∙ ap (λ z. has (children_of shape v) u && (z && in_rows before w u)) (h.over_are v w)
    ∙ where_both (has (children_of shape v) u) (has (children_of shape v) w) (in_rows before w u) (decides decided u w) (λ x y. h.before_are u w (child_view shape v u h.shape_is x) (child_view shape v w h.shape_is y))
  where
    where_both : (x y p q : Bool) → (x ≡ true → y ≡ true → p ≡ q) → (x && (y && p)) ≡ (x && (y && q))
    where_both true true p q e = e refl refl
    where_both true false p q e = refl
    where_both false y p q e = refl

-- where none is left, all are placed
pub placed_sorted : (views : ℕ) (over under before comps : List ℕ) (insts : ℕ) (shape : List (List ℕ)) (decided : List (ℕ × ℕ)) (placed : List Node) → AreEdges views over under before shape decided → ArePlaced views over before comps insts placed → ((x : Node) → is_left comps insts x ≡ false) → IsSorted shape decided (map expression_of placed)
placed_sorted views over under before comps insts shape decided placed h p none =
    all_sorted shape decided placed (record {
      each = λ e.
          let k = p.each e in
          let z : one_if (is_left comps insts e) ≡ 0 = is_none (is_left comps insts e) _ refl (none e) in
          let s = ap one_if (node_same views over under before shape decided h e) in
          omega arith;
      forward = λ q x y at e is. p.forward q x y at (edge_same views over under before shape decided h x y ∙ e) (node_same views over under before shape decided h x ∙ is);
    })

pub placed_left : (views : ℕ) (over before comps : List ℕ) (insts : ℕ) (placed : List Node) → ArePlaced views over before comps insts placed → AreNodesLeft views over comps insts
placed_left views over before comps insts placed p = record {
  each = λ y l.
      let k = p.each y in
      let a : one_if (is_left comps insts y) ≡ 1 = is_one (is_left comps insts y) _ refl l in
      true_from_ne_false (is_node_by over views y) (λ f. let z : one_if (is_node_by over views y) ≡ 0 = is_none (is_node_by over views y) _ refl f in omega arith);
}

-- a graph that has a node has a view
pub node_by_view : (views : ℕ) (over under before : List ℕ) (y : Node) → is_node_by over views y ≡ true → (shape : List (List ℕ)) (decided : List (ℕ × ℕ)) → AreEdges views over under before shape decided → 0 < length shape
node_by_view views over under before y is shape decided h = node_view shape y (sym (node_same views over under before shape decided h y) ∙ is)

pub round_of : (views : ℕ) (over under before : List ℕ) (shape : List (List ℕ)) (decided : List (ℕ × ℕ)) (walk : List Node) → AreEdges views over under before shape decided → IsRound (leads_by over before) (is_node_by over views) walk → IsRound (leads shape decided) (is_node shape) walk
round_of views over under before shape decided walk h r =
    round_moves (leads_by over before) (leads shape decided) (is_node_by over views) (is_node shape)
    (λ x y e. sym (edge_same views over under before shape decided h x y) ∙ e)
    (λ x e. sym (node_same views over under before shape decided h x) ∙ e) walk r

pub none_decided : (u w : ℕ) → decides [] u w ≡ false
unfolding decides
none_decided u w = refl

-- nothing is decided
pub sets_start : (views : ℕ) (over under before settled : List ℕ) (shape : List (List ℕ)) (ordered : List (ℕ × ℕ)) → AreEdges views over under before shape ordered → DecidesAll shape ordered → AreDecisions ordered → ((a b : ℕ) → in_rows settled a b ≡ false) → AreDraftSets views over under before before settled shape ordered []
sets_start views over under before settled shape ordered h all once none = record {
  edges = record {
    shape_is = h.shape_is;
    views_are = h.views_are;
    over_are = h.over_are;
    under_are = h.under_are;
    before_are = λ u w a b. h.before_are u w a b ∙ sym (completed_none ordered u w);
  };
  desired_are = h.before_are;
  settled_are = λ u w. none u w ∙ sym (ap (λ z. z || decides [] w u) (none_decided u w) ∙ none_decided w u);
  ordered_all = all;
  ordered_once = decisions_one_way ordered once;
  decided_couples = λ u w t. absurd (false≢true (sym (none_decided u w) ∙ t));
}
