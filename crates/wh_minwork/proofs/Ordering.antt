-- All couples decided by the desired order, one after another.
use Rattle.std.proofs.Common.{◌≡◌, ◌≢◌, ℕ, ◌+◌, ◌<◌, ◌≤◌, ◌⊎◌, List, [], ◌∷◌, ◌++◌, true, false, refl, sym, ap, ◌∙◌, subst, length, ⊎_elim, inl, inr, arith}
use Rattle.std.proofs.lemmas.Bool.{cases_Bool, cases_order, cases_eq, cond-true, cond-false, both_ways, false≢true, false_from_ne_true}
use Rattle.wh_dag.specs.Shape.{IsShape}
use Rattle.wh_dag.specs.Siblings.{have_parent}
use Rattle.wh_dag.proofs.CommonParents.{parent_of_both, both_have_parent}
use Rattle.wh_strategy.specs.declared.expression.Expression.{Expression}
use Rattle.wh_strategy.specs.declared.expression.Expression.TheVariants.{Comp, Inst}
use Rattle.wh_strategy.specs.declared.sizes.Size.{Size}
use Rattle.wh_strategy.proofs.Found.{has_within}
use Rattle.wh_cert.specs.Graph.{decides, HasEdge, Leads, IsCycle, IsOrdered}
use Rattle.wh_cert.specs.Order.{comes_first, ComesFirst}
use Rattle.wh_cert.proofs.DesiredOrder.{one_comes, not_both_come}
use Rattle.wh_minwork.specs.Inner.Desired.{in_desired_order}
use Rattle.wh_minwork.specs.Plan.{IsSortedAsDesired, IsAcyclicAsDesired}
use Rattle.wh_minwork.specs.Sorted.{IsSorted, IsAcyclic}
use Rattle.wh_minwork.proofs.Decisions.{decides_kept, decides_new, decides_was}
use Rattle.wh_minwork.proofs.Sorting.{sorted_has_no_cycle}

-- the pair u, w comes before l, h, where pairs go up by their first, then by their second number
abbrev pub IsBefore : ℕ → ℕ → ℕ → ℕ → Type 0
IsBefore l h u w = (u < w) × ((u < l) ⊎ ((u ≡ l) × (w < h)))

-- the couples before l, h are decided by the desired order, and nothing else
pub record AreDecidedTo (shape : List (List ℕ)) (sizes : ℕ → Size) (l h : ℕ) (decided : List (ℕ × ℕ)) : Type 0 where
  pub sound : (u w : ℕ) → decides decided u w ≡ true → (have_parent shape u w ≡ true) × ComesFirst sizes u w × (IsBefore l h u w ⊎ IsBefore l h w u)
  pub all : (u w : ℕ) → IsBefore l h u w → have_parent shape u w ≡ true → (decides decided u w ≡ true) ⊎ (decides decided w u ≡ true)

parent_swap : (shape : List (List ℕ)) (u w : ℕ) → have_parent shape u w ≡ true → have_parent shape w u ≡ true
parent_swap shape u w h = let p = parent_of_both shape u w h in both_have_parent shape p.0 w u p.2 p.1

-- both of a couple are views
pub couple_within : (shape : List (List ℕ)) (u w : ℕ) → IsShape shape → have_parent shape u w ≡ true → (u < length shape) × (w < length shape)
couple_within shape u w sh h =
    let p = parent_of_both shape u w h in
    let v : p.0 < length shape = has_within shape p.0 u p.1 in
    let a : u < p.0 = sh.lower p.0 u p.1 in
    let b : w < p.0 = sh.lower p.0 w p.2 in
    (omega arith, omega arith)

pub decided_none : (shape : List (List ℕ)) (sizes : ℕ → Size) → AreDecidedTo shape sizes 0 1 []
unfolding decides
decided_none shape sizes = record {
  sound = λ u w h. absurd (false≢true h);
  all = λ u w b h.
      let lt : u < w = b.0 in
      ⊎_elim (λ l. absurd (omega arith)) (λ e. let i : u ≡ 0 = e.0 in let j : w < 1 = e.1 in absurd (omega arith)) b.1;
}

-- a pair of views that comes next is not decided yet
pub not_yet : (shape : List (List ℕ)) (sizes : ℕ → Size) (l h : ℕ) (decided : List (ℕ × ℕ)) → l < h → AreDecidedTo shape sizes l h decided → (decides decided l h ≡ false) × (decides decided h l ≡ false)
not_yet shape sizes l h decided lt a =
    (false_from_ne_true _ (λ t. never l h (inl (refl, refl)) (a.sound l h t).2), false_from_ne_true _ (λ t. never h l (inr (refl, refl)) (a.sound h l t).2))
  where
    past : (u w : ℕ) → u ≡ l → w ≡ h → IsBefore l h u w → ⊥
    past u w e f b = ⊎_elim (λ k. omega arith) (λ k. let m : w < h = k.1 in omega arith) b.1

    back : (u w : ℕ) → u ≡ h → w ≡ l → IsBefore l h u w → ⊥
    back u w e f b = let m : u < w = b.0 in omega arith

    never : (u w : ℕ) → ((u ≡ l) × (w ≡ h)) ⊎ ((u ≡ h) × (w ≡ l)) → IsBefore l h u w ⊎ IsBefore l h w u → ⊥
    never u w is b =
        ⊎_elim
        (λ s. ⊎_elim (λ x. past u w s.0 s.1 x) (λ x. back w u s.1 s.0 x) b)
        (λ s. ⊎_elim (λ x. back u w s.0 s.1 x) (λ x. past w u s.1 s.0 x) b)
        is

before_more : (l h u w : ℕ) → IsBefore l h u w → IsBefore l (h + 1) u w
before_more l h u w b = (b.0, ⊎_elim (λ k. inl k) (λ k. inr (k.0, (let m : w < h = k.1 in omega arith))) b.1)

-- before the next pair come those before this one, and this one
before_was : (l h u w : ℕ) → IsBefore l (h + 1) u w → IsBefore l h u w ⊎ ((u ≡ l) × (w ≡ h))
before_was l h u w b =
    ⊎_elim
    (λ k. inl (b.0, inl k))
    (λ k.
    let m : w < h + 1 = k.1 in
    ⊎_elim (λ e. inr (k.0, e)) (λ n. inl (b.0, inr (k.0, below n m))) (cases_eq w h))
    b.1
  where
    below : w ≢ h → w < h + 1 → w < h
    below n m = ⊎_elim (λ e. absurd (n e)) (λ o. ⊎_elim (λ x. x) (λ x. absurd (omega arith)) o) (cases_order w h)

-- the two in the desired order
pub desired_pair : (sizes : ℕ → Size) (l h : ℕ) → l ≢ h → (a b : ℕ) → in_desired_order sizes l h ≡ (a, b) → ((((a ≡ l) × (b ≡ h)) ⊎ ((a ≡ h) × (b ≡ l))) × ComesFirst sizes a b)
desired_pair sizes l h n a b e =
    ⊎_elim
    (λ t.
    let s : (l, h) ≡ (a, b) = sym (cond-true (comes_first sizes l h) (l, h) (h, l) t) ∙ e in
    let x : l ≡ a = ap (λ z. z.0) s in
    let y : h ≡ b = ap (λ z. z.1) s in
    (inl (sym x, sym y), subst (λ z. ComesFirst sizes z b) x (subst (λ z. ComesFirst sizes l z) y t)))
    (λ f.
    let s : (h, l) ≡ (a, b) = sym (cond-false (comes_first sizes l h) (l, h) (h, l) f) ∙ e in
    let x : h ≡ a = ap (λ z. z.0) s in
    let y : l ≡ b = ap (λ z. z.1) s in
    let first : ComesFirst sizes h l = ⊎_elim (λ c. absurd (both_ways _ f c)) (λ c. c) (one_comes sizes l h n) in
    (inr (sym x, sym y), subst (λ z. ComesFirst sizes z b) x (subst (λ z. ComesFirst sizes h z) y first)))
    (cases_Bool (comes_first sizes l h))

couple_of : (sizes : ℕ → Size) (l h : ℕ) → (a : ℕ) × (b : ℕ) × (in_desired_order sizes l h ≡ (a, b))
couple_of sizes l h = ((in_desired_order sizes l h).0, (in_desired_order sizes l h).1, refl)

more_by : (shape : List (List ℕ)) (sizes : ℕ → Size) (l h : ℕ) (decided : List (ℕ × ℕ)) (a b : ℕ) → l < h → have_parent shape l h ≡ true → AreDecidedTo shape sizes l h decided → ((a ≡ l) × (b ≡ h)) ⊎ ((a ≡ h) × (b ≡ l)) → ComesFirst sizes a b → AreDecidedTo shape sizes l (h + 1) (decided ++ (a, b) ∷ [])
more_by shape sizes l h decided a b lt par d is first = record {
  sound = λ u w t.
      ⊎_elim
      (λ o. let s = d.sound u w o in (s.0, s.1, ⊎_elim (λ x. inl (before_more l h u w x)) (λ x. inr (before_more l h w u x)) s.2))
      (λ e. (
        subst (λ z. have_parent shape z w ≡ true) e.0 (subst (λ z. have_parent shape a z ≡ true) e.1 parent),
        subst (λ z. ComesFirst sizes z w) e.0 (subst (λ z. ComesFirst sizes a z) e.1 first),
        there u w e.0 e.1,
      ))
      (decides_was decided a b u w t);
  all = λ u w x p.
      ⊎_elim
      (λ o. ⊎_elim (λ t. inl (decides_kept decided a b u w t)) (λ t. inr (decides_kept decided a b w u t)) (d.all u w o p))
      (λ e.
      ⊎_elim
      (λ s. inl (new u w (s.0 ∙ sym e.0) (s.1 ∙ sym e.1)))
      (λ s. inr (new w u (s.0 ∙ sym e.1) (s.1 ∙ sym e.0)))
      is)
      (before_was l h u w x);
}
  where
    parent : have_parent shape a b ≡ true
    parent =
        ⊎_elim
        (λ s. subst (λ z. have_parent shape z b ≡ true) (sym s.0) (subst (λ z. have_parent shape l z ≡ true) (sym s.1) par))
        (λ s. subst (λ z. have_parent shape z b ≡ true) (sym s.0) (subst (λ z. have_parent shape h z ≡ true) (sym s.1) (parent_swap shape l h par)))
        is

    there : (u w : ℕ) → a ≡ u → b ≡ w → IsBefore l (h + 1) u w ⊎ IsBefore l (h + 1) w u
    there u w e f =
        ⊎_elim
        (λ s. let i : a ≡ l = s.0 in let j : b ≡ h = s.1 in inl (omega arith, inr (omega arith, omega arith)))
        (λ s. let i : a ≡ h = s.0 in let j : b ≡ l = s.1 in inr (omega arith, inr (omega arith, omega arith)))
        is

    new : (u w : ℕ) → a ≡ u → b ≡ w → decides (decided ++ (a, b) ∷ []) u w ≡ true
    new u w e f = subst (λ z. decides (decided ++ (a, b) ∷ []) z w ≡ true) e (subst (λ z. decides (decided ++ (a, b) ∷ []) a z ≡ true) f (decides_new decided a b))

pub decided_hit : (shape : List (List ℕ)) (sizes : ℕ → Size) (l h : ℕ) (decided : List (ℕ × ℕ)) → l < h → have_parent shape l h ≡ true → AreDecidedTo shape sizes l h decided → AreDecidedTo shape sizes l (h + 1) (decided ++ in_desired_order sizes l h ∷ [])
decided_hit shape sizes l h decided lt par d =
    let c = couple_of sizes l h in
    let p = desired_pair sizes l h (λ e. omega arith) c.0 c.1 c.2 in
    subst (λ z. AreDecidedTo shape sizes l (h + 1) (decided ++ z ∷ [])) (sym c.2)
    (more_by shape sizes l h decided c.0 c.1 lt par d p.0 p.1)

pub decided_miss : (shape : List (List ℕ)) (sizes : ℕ → Size) (l h : ℕ) (decided : List (ℕ × ℕ)) → have_parent shape l h ≡ false → AreDecidedTo shape sizes l h decided → AreDecidedTo shape sizes l (h + 1) decided
decided_miss shape sizes l h decided par d = record {
  sound = λ u w t. let s = d.sound u w t in (s.0, s.1, ⊎_elim (λ x. inl (before_more l h u w x)) (λ x. inr (before_more l h w u x)) s.2);
  all = λ u w x p.
      ⊎_elim
      (λ o. d.all u w o p)
      (λ e. absurd (both_ways _ par (subst (λ z. have_parent shape z h ≡ true) e.0 (subst (λ z. have_parent shape u z ≡ true) e.1 p))))
      (before_was l h u w x);
}

-- the pairs of one view more
pub decided_row : (shape : List (List ℕ)) (sizes : ℕ → Size) (l h : ℕ) (decided : List (ℕ × ℕ)) → IsShape shape → length shape ≤ h → AreDecidedTo shape sizes l h decided → AreDecidedTo shape sizes (l + 1) (l + 1 + 1) decided
decided_row shape sizes l h decided sh end d = record {
  sound = λ u w t. let s = d.sound u w t in (s.0, s.1, ⊎_elim (λ x. inl (on u w x)) (λ x. inr (on w u x)) s.2);
  all = λ u w x p. d.all u w (x.0, within u w x p) p;
}
  where
    on : (u w : ℕ) → IsBefore l h u w → IsBefore (l + 1) (l + 1 + 1) u w
    on u w x = (x.0, inl (⊎_elim (λ k. omega arith) (λ k. let e : u ≡ l = k.0 in omega arith) x.1))

    within : (u w : ℕ) → IsBefore (l + 1) (l + 1 + 1) u w → have_parent shape u w ≡ true → (u < l) ⊎ ((u ≡ l) × (w < h))
    within u w x p =
        let c = couple_within shape u w sh p in
        let cw : w < length shape = c.1 in
        let lt : u < w = x.0 in
        ⊎_elim
        (λ k. ⊎_elim (λ e. inr (e, omega arith)) (λ o. ⊎_elim (λ m. inl m) (λ m. absurd (omega arith)) o) (cases_order u l))
        (λ k. let e : u ≡ l + 1 = k.0 in let m : w < l + 1 + 1 = k.1 in absurd (omega arith))
        x.1

pub decided_all : (shape : List (List ℕ)) (sizes : ℕ → Size) (l h : ℕ) (decided : List (ℕ × ℕ)) → IsShape shape → length shape ≤ l → AreDecidedTo shape sizes l h decided → IsOrdered shape sizes decided
decided_all shape sizes l h decided sh end d = (
  record {
    couples = λ u w t. let s = d.sound u w t in (apart u w s.2, s.0);
    all = λ u w c.
        ⊎_elim
        (λ e. absurd (c.0 e))
        (λ o. ⊎_elim
        (λ k. d.all u w (k, inl (low u w c.1)) c.1)
        (λ k. ⊎_elim (λ t. inr t) (λ t. inl t) (d.all w u (k, inl (low w u (parent_swap shape u w c.1))) (parent_swap shape u w c.1)))
        o)
        (cases_order u w);
  },
  λ u w t. (d.sound u w t).1,
)
  where
    apart : (u w : ℕ) → IsBefore l h u w ⊎ IsBefore l h w u → u ≢ w
    apart u w b e = ⊎_elim (λ x. let k : u < w = x.0 in omega arith) (λ x. let k : w < u = x.0 in omega arith) b

    low : (u w : ℕ) → have_parent shape u w ≡ true → u < l
    low u w p = let c = couple_within shape u w sh p in let k : u < length shape = c.0 in omega arith

-- the ordered graph does not depend on the list that its decisions are written in
same_decisions : (shape : List (List ℕ)) (sizes : ℕ → Size) (one other : List (ℕ × ℕ)) → IsOrdered shape sizes one → IsOrdered shape sizes other → (u w : ℕ) → decides one u w ≡ true → decides other u w ≡ true
same_decisions shape sizes one other a b u w t =
    ⊎_elim
    (λ s. s)
    (λ s. absurd (not_both_come sizes u w (a.1 u w t) (b.1 w u s)))
    (b.0.all u w (a.0.couples u w t))

pub edge_moves : (shape : List (List ℕ)) (one other : List (ℕ × ℕ)) → ((u w : ℕ) → decides one u w ≡ true → decides other u w ≡ true) → (x y : Expression) → HasEdge shape one x y → HasEdge shape other x y
edge_moves shape one other s (Comp v ys) (Inst w) e = e
edge_moves shape one other s (Comp u xs) (Comp v ys) e = e
edge_moves shape one other s (Inst u) (Inst w) e = e
edge_moves shape one other s (Inst u) (Comp v ys) e = (e.0, e.1, e.2, s u e.0 e.3)

leads_move : (shape : List (List ℕ)) (one other : List (ℕ × ℕ)) → ((u w : ℕ) → decides one u w ≡ true → decides other u w ≡ true) → (x : Expression) (ys : List Expression) (z : Expression) → Leads shape one x ys z → Leads shape other x ys z
leads_move shape one other s x [] z h = edge_moves shape one other s x z h
leads_move shape one other s x (y ∷ ys) z h = (h.0, edge_moves shape one other s x y h.1, leads_move shape one other s y ys z h.2)

pub cycle_moves : (shape : List (List ℕ)) (one other : List (ℕ × ℕ)) → ((u w : ℕ) → decides one u w ≡ true → decides other u w ≡ true) → (cycle : List Expression) → IsCycle shape one cycle → IsCycle shape other cycle
cycle_moves shape one other s [] h = h
cycle_moves shape one other s (x ∷ xs) h = (h.0, leads_move shape one other s x xs x h.1)

pub acyclic_as_desired : (shape : List (List ℕ)) (sizes : ℕ → Size) (decided : List (ℕ × ℕ)) (list : List Expression) → IsOrdered shape sizes decided → IsSorted shape decided list → (other : List (ℕ × ℕ)) → IsOrdered shape sizes other → IsAcyclic shape other
acyclic_as_desired shape sizes decided list or so other oo cycle h =
    sorted_has_no_cycle shape decided list so cycle (cycle_moves shape other decided (same_decisions shape sizes other decided oo or) cycle h)

pub sorted_is_acyclic : (shape : List (List ℕ)) (sizes : ℕ → Size) (list : List Expression) → IsSortedAsDesired shape sizes list → IsAcyclicAsDesired shape sizes
sorted_is_acyclic shape sizes list so = acyclic_as_desired shape sizes so.0 list so.1 so.2
