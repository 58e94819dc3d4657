-- Nodes and edges as a program tests them are those of the graph.
use Rattle.std.proofs.Common.{◌≡◌, ℕ, List, [], ◌∷◌, true, refl, sym, ap, ◌∙◌, subst, length, ⊎_elim, inl, inr}
use Rattle.std.proofs.lemmas.Bool.{eqb-true, eq-eqb, false≢true, or_left, or_right, or_cases, and_parts, and_from, ltb-true, lt-ltb}
use Rattle.wh_strategy.specs.declared.expression.Expression.{Expression}
use Rattle.wh_strategy.specs.declared.expression.Expression.TheVariants.{Comp as comp, Inst as inst}
use Rattle.wh_cert.specs.Graph.{decides, IsNode, HasEdge}
use Rattle.wh_minwork.specs.Inner.Nodes.{expression_of, is_node, leads}
use Rattle.wh_minwork.specs.declared.node.Node.{Node}
use Rattle.wh_minwork.specs.declared.node.Node.TheVariants.{Comp, Inst}

-- nodes as expressions
inst_same : (v w : ℕ) → inst v ≡ inst w → v ≡ w
inst_same v w h = cc

comp_same : (v u w x : ℕ) → comp v (u ∷ []) ≡ comp w (x ∷ []) → (v ≡ w) × (u ≡ x)
comp_same v u w x h = (cc, cc)

pub single_same : (u w : ℕ) → u ∷ [] ≡ w ∷ [] → u ≡ w
single_same u w h = cc

comp_not_inst : (v u w : ℕ) → comp v (u ∷ []) ≡ inst w → ⊥
comp_not_inst v u w h = cc

pub expression_same : (n m : Node) → expression_of n ≡ expression_of m → n ≡ m
expression_same (Comp v u) (Comp w x) h = let p = comp_same v u w x h in ap (λ z. Comp z u) p.0 ∙ ap (λ z. Comp w z) p.1
expression_same (Comp v u) (Inst w) h = absurd (comp_not_inst v u w h)
expression_same (Inst v) (Comp w x) h = absurd (comp_not_inst w x v (sym h))
expression_same (Inst v) (Inst w) h = ap (λ z. Inst z) (inst_same v w h)

pub node_of : (shape : List (List ℕ)) (e : Expression) → IsNode shape e → (n : Node) × (expression_of n ≡ e) × (is_node shape n ≡ true)
node_of shape (comp v ys) h = (Comp v h.0, ap (λ z. comp v z) (sym h.1), h.2)
node_of shape (inst v) h = (Inst v, refl, lt-ltb v (length shape) h)

pub node_is : (shape : List (List ℕ)) (n : Node) → is_node shape n ≡ true → IsNode shape (expression_of n)
node_is shape (Comp v u) h = (u, refl, h)
node_is shape (Inst v) h = ltb-true v (length shape) h

pub edge_leads : (shape : List (List ℕ)) (decided : List (ℕ × ℕ)) (x y : Node) → is_node shape y ≡ true → HasEdge shape decided (expression_of x) (expression_of y) → leads shape decided x y ≡ true
edge_leads shape decided (Comp v u) (Inst w) n h =
    ⊎_elim (λ e. or_left _ _ (eq-eqb u w (single_same u w e))) (λ e. or_right _ _ (eq-eqb v w (sym e))) h
edge_leads shape decided (Comp u x) (Comp v w) n h = eq-eqb w u (single_same w u h)
edge_leads shape decided (Inst u) (Comp v w) n h =
    and_from _ _ h.2 (and_from _ _ n (subst (λ z. decides decided u z ≡ true) (sym (single_same w h.0 h.1)) h.3))
edge_leads shape decided (Inst u) (Inst w) n h = absurd h

pub leads_edge : (shape : List (List ℕ)) (decided : List (ℕ × ℕ)) (x y : Node) → leads shape decided x y ≡ true → HasEdge shape decided (expression_of x) (expression_of y)
leads_edge shape decided (Comp v u) (Inst w) h =
    ⊎_elim (λ e. inl (ap (λ z. z ∷ []) (eqb-true u w e))) (λ e. inr (sym (eqb-true v w e))) (or_cases _ _ h)
leads_edge shape decided (Comp u x) (Comp v w) h = ap (λ z. z ∷ []) (eqb-true w u h)
leads_edge shape decided (Inst u) (Comp v w) h = let p = and_parts _ _ h in let q = and_parts _ _ p.1 in (w, refl, p.0, q.1)
leads_edge shape decided (Inst u) (Inst w) h = absurd (false≢true h)
