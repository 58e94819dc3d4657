-- A sorted list of the graph of all couples is a correct one-way strategy, and what it costs.
use Rattle.std.proofs.Common.{◌≡◌, ◌≢◌, ℕ, ◌<◌, ◌≤◌, List, [], ◌∷◌, true, false, cond, refl, sym, ap, ◌∙◌, subst, length, ⊎_elim, inl, inr, arith}
use Rattle.std.proofs.lemmas.Bool.{cond-true, cond-false, both_ways, false_from_ne_true}
use Rattle.wh_dag.specs.Shape.{has, Distinct, IsShape, children_of}
use Rattle.wh_dag.proofs.CommonParents.{parent_of_both, both_have_parent}
use Rattle.wh_strategy.specs.declared.expression.Expression.{Expression}
use Rattle.wh_strategy.specs.declared.expression.Expression.TheVariants.{Comp, Inst}
use Rattle.wh_strategy.specs.Expression.{At}
use Rattle.wh_strategy.specs.Prices.{Prices}
use Rattle.wh_strategy.specs.Rules.{IsCorrect, IsOneWay}
use Rattle.wh_strategy.specs.declared.sizes.Size.{Size}
use Rattle.wh_strategy.specs.Work.{work_of}
use Rattle.wh_strategy.proofs.Found.{has_within}
use Rattle.wh_cert.specs.Bound.{in_order, pair_min, pair_bound_of, decided_value, decided_bound_of}
use Rattle.wh_cert.specs.Graph.{decides, Leads, IsCycle, DecidesAll, DecidesAsDesired}
use Rattle.wh_minwork.specs.Sorted.{IsSorted}
use Rattle.wh_minwork.proofs.Exact.{work_one_way, work_as_desired}
use Rattle.wh_cert.proofs.OneWay.{single_has, single_own}

-- the strategy installs as it is decided
abbrev pub Agrees : List Expression → List (ℕ × ℕ) → Type 0
Agrees list decided = (u w p q : ℕ) → decides decided u w ≡ true → At list p (Inst u) → At list q (Inst w) → p < q

single_distinct : (u : ℕ) → Distinct (u ∷ [])
unfolding Distinct has
single_distinct u = (refl, tt)

-- the node of a Comp
comp_node : (shape : List (List ℕ)) (decided : List (ℕ × ℕ)) (list : List Expression) → IsSorted shape decided list → (p v u : ℕ) (ys : List ℕ) → At list p (Comp v ys) → has ys u ≡ true → (ys ≡ u ∷ []) × (has (children_of shape v) u ≡ true)
comp_node shape decided list so p v u ys at m =
    let n = so.nodes p (Comp v ys) at in
    let e : n.0 ≡ u = single_has n.0 u (subst (λ z. has z u ≡ true) n.1 m) in
    (subst (λ z. ys ≡ z ∷ []) e n.1, subst (λ z. has (children_of shape v) z ≡ true) e n.2)

pub sorted_is_one_way : (shape : List (List ℕ)) (decided : List (ℕ × ℕ)) (list : List Expression) → IsSorted shape decided list → IsOneWay list
sorted_is_one_way shape decided list so p v ys at = let n = so.nodes p (Comp v ys) at in ap length n.1

pub sorted_agrees : (shape : List (List ℕ)) (decided : List (ℕ × ℕ)) (list : List Expression) → IsSorted shape decided list → DecidesAll shape decided → Agrees list decided
sorted_agrees shape decided list so da u w p q d a b =
    let couple = parent_of_both shape u w (da.couples u w d).1 in
    let v : ℕ = couple.0 in
    let c = so.all (Comp v (w ∷ [])) (w, refl, couple.2) in
    let k : p < c.0 = so.forward p c.0 (Inst u) (Comp v (w ∷ [])) a c.1 (w, refl, couple.1, d) in
    let l : c.0 < q = so.forward c.0 q (Comp v (w ∷ [])) (Inst w) c.1 b (inl refl) in
    omega arith

pub sorted_is_correct : (shape : List (List ℕ)) (decided : List (ℕ × ℕ)) (list : List Expression) → IsShape shape → IsSorted shape decided list → DecidesAll shape decided → IsCorrect shape list
sorted_is_correct shape decided list sh so da =
    record {
      allowed = λ p v ys at. allow p v ys at;
      once = λ p q v u ys zs a b m m'.
          let x = comp_node shape decided list so p v u ys a m in
          let y = comp_node shape decided list so q v u zs b m' in
          so.once p q (Comp v (u ∷ [])) (subst (λ z. At list p (Comp v z)) x.0 a) (subst (λ z. At list q (Comp v z)) y.0 b);
      each = λ v u m. let a = so.all (Comp v (u ∷ [])) (u, refl, m) in (a.0, u ∷ [], a.1, single_own u);
      views = λ p v at. so.nodes p (Inst v) at;
      one_inst = λ p q v a b. so.once p q (Inst v) a b;
      an_inst = λ v l. so.all (Inst v) l;
      before_inst = λ p q v u ys a m b. so.forward p q (Comp v ys) (Inst u) a b (inl (comp_node shape decided list so p v u ys a m).0);
      between = λ p r v u ys zs a b l m. apart p r v u ys zs a b l m;
      own_inst = λ p q v ys a b. so.forward p q (Comp v ys) (Inst v) a b (inr refl);
      changes_first = λ p q v w ys zs a b m. so.forward p q (Comp v ys) (Comp w zs) a b (comp_node shape decided list so q w v zs b m).0;
    }
  where
    allow : (p v : ℕ) (ys : List ℕ) → At list p (Comp v ys) → (v < length shape) × (1 ≤ length ys) × Distinct ys × ((u : ℕ) → has ys u ≡ true → has (children_of shape v) u ≡ true)
    allow p v ys at =
        let n = so.nodes p (Comp v ys) at in
        let e = ap length n.1 in
        (has_within shape v n.0 n.2, omega arith, subst Distinct (sym n.1) (single_distinct n.0), λ u m. (comp_node shape decided list so p v u ys at m).1)

    apart : (p r v u : ℕ) (ys zs : List ℕ) → At list p (Comp v ys) → At list r (Comp v zs) → p < r → has ys u ≡ true → (q : ℕ) × At list q (Inst u) × (q < r)
    apart p r v u ys zs a b l m =
        let x = comp_node shape decided list so p v u ys a m in
        let y = so.nodes r (Comp v zs) b in
        let w : ℕ = y.0 in
        let a' : At list p (Comp v (u ∷ [])) = subst (λ z. At list p (Comp v z)) x.0 a in
        let b' : At list r (Comp v (w ∷ [])) = subst (λ z. At list r (Comp v z)) y.1 b in
        let high : v < length shape = has_within shape v u x.1 in
        let lu : u < v = sh.lower v u x.1 in
        let lw : w < v = sh.lower v w y.2 in
        let i = so.all (Inst u) (omega arith) in
        let j = so.all (Inst w) (omega arith) in
        let differ : u ≢ w = λ e. let s : p ≡ r = so.once p r (Comp v (u ∷ [])) a' (subst (λ z. At list r (Comp v (z ∷ []))) (sym e) b') in omega arith in (
          i.0,
          i.1,
          ⊎_elim
              (λ d. so.forward i.0 r (Inst u) (Comp v (w ∷ [])) i.1 b' (w, refl, x.1, d))
              (λ d.
              let s : j.0 < p = so.forward j.0 p (Inst w) (Comp v (u ∷ [])) j.1 a' (u, refl, y.2, d) in
              let t : r < j.0 = so.forward r j.0 (Comp v (w ∷ [])) (Inst w) b' j.1 (inl refl) in
              absurd (omega arith))
              (da.all u w (differ, both_have_parent shape v u w x.1 y.2)),
        )

-- which of a couple was decided, from the places
was_decided : (shape : List (List ℕ)) (decided : List (ℕ × ℕ)) (list : List Expression) → IsSorted shape decided list → DecidesAll shape decided → (v u w p q : ℕ) → has (children_of shape v) u ≡ true → has (children_of shape v) w ≡ true → At list p (Inst u) → At list q (Inst w) → p < q → (decides decided u w ≡ true) × (decides decided w u ≡ false)
was_decided shape decided list so da v u w p q m m' a b l =
    let not_other : decides decided w u ≡ false = false_from_ne_true _ (λ e. let k : q < p = sorted_agrees shape decided list so da w u q p e b a in omega arith) in
    let differ : u ≢ w = λ e. let s : p ≡ q = so.once p q (Inst u) a (subst (λ z. At list q (Inst z)) (sym e) b) in omega arith in
    (⊎_elim (λ d. d) (λ d. absurd (both_ways _ not_other d)) (da.all u w (differ, both_have_parent shape v u w m m')), not_other)

-- the ordered graph: the pair bound
pub sorted_costs : (shape : List (List ℕ)) (sizes : ℕ → Size) (prices : Prices) (decided : List (ℕ × ℕ)) (list : List Expression) → IsShape shape → IsSorted shape decided list → DecidesAll shape decided → DecidesAsDesired sizes decided → work_of shape sizes prices list ≡ pair_bound_of shape sizes prices
sorted_costs shape sizes prices decided list sh so da des =
    work_as_desired shape sizes prices list sh (sorted_is_correct shape decided list sh so da) (sorted_is_one_way shape decided list so) (λ v u w p q m m' a b l. des u w (was_decided shape decided list so da v u w p q m m' a b l).0)

-- any decisions: the decided bound
pub sorted_costs_decided : (shape : List (List ℕ)) (sizes : ℕ → Size) (prices : Prices) (decided : List (ℕ × ℕ)) (list : List Expression) → IsShape shape → IsSorted shape decided list → DecidesAll shape decided → work_of shape sizes prices list ≡ decided_bound_of shape sizes prices decided
sorted_costs_decided shape sizes prices decided list sh so da =
    work_one_way shape sizes prices list (decided_value sizes decided) sh (sorted_is_correct shape decided list sh so da) (sorted_is_one_way shape decided list so) (λ v u w p q m m' a b l.
    let d = was_decided shape decided list so da v u w p q m m' a b l in (
      cond-true (decides decided u w) (in_order sizes u w) (cond (decides decided w u) (in_order sizes w u) (pair_min sizes u w)) d.0,
      cond-false (decides decided w u) (in_order sizes w u) (cond (decides decided u w) (in_order sizes u w) (pair_min sizes w u)) d.1 ∙ cond-true (decides decided u w) (in_order sizes u w) (pair_min sizes w u) d.0,
    ))

-- a graph that can be sorted has no cycle
leads_on : (shape : List (List ℕ)) (decided : List (ℕ × ℕ)) (list : List Expression) → IsSorted shape decided list → (x : Expression) (ys : List Expression) (z : Expression) → Leads shape decided x ys z → (p q : ℕ) → At list p x → At list q z → p < q
leads_on shape decided list so x [] z h p q a b = so.forward p q x z a b h
leads_on shape decided list so x (y ∷ ys) z h p q a b =
    let at = so.all y h.0 in
    let k : p < at.0 = so.forward p at.0 x y a at.1 h.1 in
    let r : at.0 < q = leads_on shape decided list so y ys z h.2 at.0 q at.1 b in
    omega arith

pub sorted_has_no_cycle : (shape : List (List ℕ)) (decided : List (ℕ × ℕ)) (list : List Expression) → IsSorted shape decided list → (es : List Expression) → IsCycle shape decided es → ⊥
sorted_has_no_cycle shape decided list so [] h = h
sorted_has_no_cycle shape decided list so (x ∷ xs) h =
    let at = so.all x h.0 in
    let k : at.0 < at.0 = leads_on shape decided list so x xs x h.1 at.0 at.0 at.1 at.1 in
    omega arith
