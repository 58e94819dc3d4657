-- The first couple along a cycle that is not decided.
use Rattle.std.proofs.Common.{◌≡◌, ◌≢◌, ℕ, ◌<◌, ◌⊎◌, List, true, false, not, ◌&&◌, ◌||◌, sym, ap, ◌∙◌, subst, ⊎_elim}
use Rattle.std.proofs.lemmas.Bool.{lt-ltb, and_parts, and_from, or_left, or_right, or_cases, both_ways, false≢true, false_from_ne_true}
use Rattle.wh_dag.specs.Shape.{IsShape}
use Rattle.wh_dag.specs.Siblings.{have_parent, IsCouple}
use Rattle.wh_dag.specs.declared.siblings.Couple.{Couple}
use Rattle.wh_dag.proofs.CommonParents.{both_have_parent}
use Rattle.wh_cert.specs.Graph.{decides, DecidesAll}
use Rattle.wh_cert.specs.Search.{IsOpen}
use Rattle.wh_minwork.specs.Draft.{completed}
use Rattle.wh_minwork.specs.Inner.Nodes.{leads}
use Rattle.wh_minwork.specs.declared.node.Node.{Node}
use Rattle.wh_minwork.specs.declared.node.Node.TheVariants.{Comp, Inst}
use Rattle.wh_minwork.proofs.Drafting.{child_view, completed_decides}

abbrev Leads : List (List ℕ) → List (ℕ × ℕ) → List (ℕ × ℕ) → ℕ → ℕ → ℕ → Type 0
Leads shape ordered ds u v w = leads shape (completed ordered ds) (Inst u) (Comp v w) ≡ true

-- both views of such an edge have a place in a set
pub edge_small : (shape : List (List ℕ)) (ds : List (ℕ × ℕ)) (u v w : ℕ) → IsShape shape → leads shape ds (Inst u) (Comp v w) ≡ true → (u < 64) × (w < 64)
edge_small shape ds u v w sh h =
    let a = and_parts _ _ h in
    let b = and_parts _ _ a.1 in
    (child_view shape v u sh a.0, child_view shape v w sh b.0)

-- the edge is there by a decision, where its couple is decided
pub still_leads : (shape : List (List ℕ)) (ordered ds : List (ℕ × ℕ)) (u v w : ℕ) → Leads shape ordered ds u v w → (decides ds u w || decides ds w u) ≡ true → leads shape ds (Inst u) (Comp v w) ≡ true
still_leads shape ordered ds u v w h settled =
    let a = and_parts _ _ h in
    let b = and_parts _ _ a.1 in
    and_from _ _ a.0 (and_from _ _ b.0
    (⊎_elim
    (λ t. t)
    (λ t. absurd (false≢true (sym (ap not settled) ∙ (and_parts (not (decides ds u w || decides ds w u)) (decides ordered u w) t).0)))
    (or_cases (decides ds u w) (not (decides ds u w || decides ds w u) && decides ordered u w) (sym (completed_decides ordered ds u w) ∙ b.1))))

-- the two make a couple
edge_couple : (shape : List (List ℕ)) (ordered ds : List (ℕ × ℕ)) (u v w : ℕ) → DecidesAll shape ordered → Leads shape ordered ds u v w → (decides ds u w || decides ds w u) ≡ false → IsCouple shape u w
edge_couple shape ordered ds u v w all h none =
    let b = and_parts _ _ (and_parts _ _ h).1 in
    ⊎_elim
    (λ t. absurd (both_ways _ none (or_left (decides ds u w) (decides ds w u) t)))
    (λ t. all.couples u w (and_parts (not (decides ds u w || decides ds w u)) (decides ordered u w) t).1)
    (or_cases (decides ds u w) (not (decides ds u w || decides ds w u) && decides ordered u w) (sym (completed_decides ordered ds u w) ∙ b.1))

pub edge_two : (shape : List (List ℕ)) (ordered ds : List (ℕ × ℕ)) (u v w : ℕ) → DecidesAll shape ordered → Leads shape ordered ds u v w → (decides ds u w || decides ds w u) ≡ false → u ≢ w
edge_two shape ordered ds u v w all h none = (edge_couple shape ordered ds u v w all h none).0

-- it is not decided
pub edge_open : (shape : List (List ℕ)) (ordered ds : List (ℕ × ℕ)) (u v w : ℕ) (couple : Couple) → DecidesAll shape ordered → Leads shape ordered ds u v w → (decides ds u w || decides ds w u) ≡ false → couple.lower < couple.higher → ((couple.lower ≡ u) × (couple.higher ≡ w)) ⊎ ((couple.lower ≡ w) × (couple.higher ≡ u)) → IsOpen shape ds couple
edge_open shape ordered ds u v w couple all h none lower both =
    let a = and_parts _ _ h in
    let b = and_parts _ _ a.1 in
    let parent : have_parent shape u w ≡ true = both_have_parent shape v u w a.0 b.0 in
    let turned : have_parent shape w u ≡ true = both_have_parent shape v w u b.0 a.0 in
    let f : decides ds u w ≡ false = false_from_ne_true _ (λ t. both_ways _ none (or_left (decides ds u w) (decides ds w u) t)) in
    let g : decides ds w u ≡ false = false_from_ne_true _ (λ t. both_ways _ none (or_right (decides ds u w) (decides ds w u) t)) in
    ⊎_elim
    (λ e. record {
      couple = and_from _ _ (lt-ltb _ _ lower) (subst (λ z. have_parent shape z couple.higher ≡ true) (sym e.0) (subst (λ z. have_parent shape u z ≡ true) (sym e.1) parent));
      not_lower_first = subst (λ z. decides ds z couple.higher ≡ false) (sym e.0) (subst (λ z. decides ds u z ≡ false) (sym e.1) f);
      not_higher_first = subst (λ z. decides ds couple.higher z ≡ false) (sym e.0) (subst (λ z. decides ds z u ≡ false) (sym e.1) g);
    })
    (λ e. record {
      couple = and_from _ _ (lt-ltb _ _ lower) (subst (λ z. have_parent shape z couple.higher ≡ true) (sym e.0) (subst (λ z. have_parent shape w z ≡ true) (sym e.1) turned));
      not_lower_first = subst (λ z. decides ds z couple.higher ≡ false) (sym e.0) (subst (λ z. decides ds w z ≡ false) (sym e.1) g);
      not_higher_first = subst (λ z. decides ds couple.higher z ≡ false) (sym e.0) (subst (λ z. decides ds z w ≡ false) (sym e.1) f);
    })
    both

-- edges that no decision makes
pub comp_leads : (shape : List (List ℕ)) (one other : List (ℕ × ℕ)) (v u : ℕ) (y : Node) → leads shape one (Comp v u) y ≡ true → leads shape other (Comp v u) y ≡ true
comp_leads shape one other v u (Comp a b) h = h
comp_leads shape one other v u (Inst w) h = h
