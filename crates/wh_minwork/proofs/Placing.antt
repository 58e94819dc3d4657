-- A list of all nodes, each after those that lead to it, is sorted.
use Rattle.std.proofs.Common.{◌≡◌, ℕ, ◌<◌, ◌≤◌, List, true, sym, ◌∙◌, subst, map, slice_get, Some, arith}
use Rattle.std.proofs.lemmas.Bool.{true_from_ne_false}
use Rattle.wh_cert.specs.Graph.{IsNode, HasEdge}
use Rattle.wh_minwork.specs.Sorted.{IsSorted}
use Rattle.wh_minwork.specs.Inner.Nodes.{one_if, expression_of, is_node, leads, times}
use Rattle.wh_minwork.proofs.Counting.{is_one, is_none, at_most_one, times_get, found, twice, get_mapped, get_map}
use Rattle.wh_minwork.proofs.Edges.{expression_same, node_of, node_is, edge_leads}
use Rattle.wh_minwork.specs.declared.node.Node.{Node}

-- each node stands once among these, after all that lead to it
pub record AreAll (shape : List (List ℕ)) (decided : List (ℕ × ℕ)) (placed : List Node) : Type 0 where
  pub each : (e : Node) → times e placed ≡ one_if (is_node shape e)
  pub forward : (q : ℕ) (x y : Node) → slice_get placed q ≡ Some y → leads shape decided x y ≡ true → is_node shape x ≡ true → (p : ℕ) × (p < q) × (slice_get placed p ≡ Some x)

pub all_sorted : (shape : List (List ℕ)) (decided : List (ℕ × ℕ)) (placed : List Node) → AreAll shape decided placed → IsSorted shape decided (map expression_of placed)
all_sorted shape decided placed h = record {
  nodes = λ p e at. let n = get_mapped expression_of placed p e at in subst (λ z. IsNode shape z) n.2 (node_is shape n.0 (stands p n.0 n.1));
  once = λ p q e a b.
      let n = get_mapped expression_of placed p e a in
      let m = get_mapped expression_of placed q e b in
      let s : m.0 ≡ n.0 = expression_same m.0 n.0 (m.2 ∙ sym n.2) in
      twice n.0 placed p q n.1 (subst (λ z. slice_get placed q ≡ Some z) s m.1) (few n.0);
  all = λ e node.
      let n = node_of shape e node in
      let at = place n.0 n.2 in
      (at.0, subst (λ z. slice_get (map expression_of placed) at.0 ≡ Some z) n.1 (get_map expression_of placed at.0 n.0 at.1));
  forward = λ p q x y a b e.
      let n = get_mapped expression_of placed p x a in
      let m = get_mapped expression_of placed q y b in
      let e' = subst (λ z. HasEdge shape decided z (expression_of m.0)) (sym n.2) (subst (λ z. HasEdge shape decided x z) (sym m.2) e) in
      let f = h.forward q n.0 m.0 m.1 (edge_leads shape decided n.0 m.0 (stands q m.0 m.1) e') (stands p n.0 n.1) in
      let s : p ≡ f.0 = twice n.0 placed p f.0 n.1 f.2 (few n.0) in
      let k : f.0 < q = f.1 in
      omega arith;
}
  where
    few : (n : Node) → times n placed ≤ 1
    few n = at_most_one (is_node shape n) _ (h.each n)

    stands : (p : ℕ) (n : Node) → slice_get placed p ≡ Some n → is_node shape n ≡ true
    stands p n at =
        let s = times_get n placed p at in
        true_from_ne_false (is_node shape n) (λ f. let k : times n placed ≡ 0 = is_none (is_node shape n) _ (h.each n) f in omega arith)

    place : (n : Node) → is_node shape n ≡ true → (p : ℕ) × (slice_get placed p ≡ Some n)
    place n t =
        let k : times n placed ≡ 1 = is_one (is_node shape n) _ (h.each n) t in
        found n placed (omega arith)
