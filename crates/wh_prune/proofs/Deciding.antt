-- What is decided of the couples, and what is left.
use Rattle.std.proofs.Common.{◌≡◌, ◌≢◌, ℕ, ◌+◌, ◌-◌, ◌<◌, ◌≤◌, List, [], ◌∷◌, ◌++◌, true, false, ◌&&◌, eqb, ltb, map, take, drop, reverse, refl, sym, ap, ◌∙◌, subst, length, get_or, ⊎_elim, inl, inr, arith, ◌⊎◌, append_assoc}
use Rattle.std.proofs.lemmas.Bool.{cases_Bool, cases_lt, cases_order, cond-true, cond-false, false≢true, false_from_ne_true, lt-ltb, le-ltb, ltb-true, eqb-true, eq-eqb, and_parts, and_from, or_left, or_right, or_cases, both_ways}
use Rattle.std.proofs.lemmas.List.{append-nil, drop_more, map-append, length-append}
use Rattle.std.proofs.Math.Seq.{take-append_seam}
use Rattle.std.proofs.lemmas.List.Sorted.{list_any-IsPermutation, IsPermutation-reverse}
use Rattle.wh_dag.specs.Shape.{IsShape}
use Rattle.wh_dag.specs.Siblings.{have_parent, IsCouple, couples_of}
use Rattle.wh_dag.specs.declared.siblings.Couple.{Couple}
use Rattle.wh_dag.proofs.CommonParents.{parent_of_both, both_have_parent}
use Rattle.wh_dag.proofs.FewCouples.{is_of, count_cons}
use Rattle.wh_cert.specs.Graph.{decides, DecidesAll}
use Rattle.wh_cert.specs.Search.{IsOpen}
use Rattle.wh_prune.specs.Inner.Searching.{couple_of, AreLeft}
use Rattle.wh_prune.proofs.CoupleLists.{counted, is_that, not_counted, stands, stands-append, stands-this, stands-once, stands-couple, couple-stands}

-- the couple of a decision, whichever of the two is first
couple_of_lower : (a b : ℕ) → a ≤ b → couple_of (a, b) ≡ record { lower = a; higher = b }
couple_of_lower a b l =
    elim (cases_lt a b) [
      | inl below ↦ cond-true (ltb a b) (record { lower = a; higher = b }) (record { lower = b; higher = a }) (lt-ltb a b below)
      | inr above ↦
          let e : b ≡ a = omega arith in
          cond-false (ltb a b) (record { lower = a; higher = b }) (record { lower = b; higher = a }) (le-ltb a b above)
          ∙ ap (λ z. record { lower = z; higher = a }) e ∙ ap (λ z. record { lower = a; higher = z }) (sym e)
    ]

couple_of_higher : (a b : ℕ) → a ≤ b → couple_of (b, a) ≡ record { lower = a; higher = b }
couple_of_higher a b l = cond-false (ltb b a) (record { lower = b; higher = a }) (record { lower = a; higher = b }) (le-ltb b a l)

-- the decision is on a and b
abbrev IsOn : ℕ × ℕ → ℕ → ℕ → Type 0
IsOn d a b = ((d.0 ≡ a) × (d.1 ≡ b)) ⊎ ((d.0 ≡ b) × (d.1 ≡ a))

-- it is then on their couple, and the other way round
on_couple : (d : ℕ × ℕ) (a b : ℕ) → a ≤ b → IsOn d a b → is_of a b (couple_of d) ≡ true
on_couple d a b l on =
    ⊎_elim
    (λ e. rw (couple_of_lower d.0 d.1 (below d.0 d.1 e.0 e.1)) (and_from _ _ (eq-eqb a d.0 (sym e.0)) (eq-eqb b d.1 (sym e.1))))
    (λ e. rw (couple_of_higher d.1 d.0 (below d.1 d.0 e.1 e.0)) (and_from _ _ (eq-eqb a d.1 (sym e.1)) (eq-eqb b d.0 (sym e.0))))
    on
  where
    below : (x y : ℕ) → x ≡ a → y ≡ b → x ≤ y
    below x y e f = omega arith

pub couple_on : (d : ℕ × ℕ) (a b : ℕ) → is_of a b (couple_of d) ≡ true → IsOn d a b
couple_on d a b is =
    elim (cases_Bool (ltb d.0 d.1)) [
      | inl t ↦
          let e = and_parts _ _ (subst (λ z. is_of a b z ≡ true) (cond-true (ltb d.0 d.1) (record { lower = d.0; higher = d.1 }) (record { lower = d.1; higher = d.0 }) t) is) in
          inl (sym (eqb-true a d.0 e.0), sym (eqb-true b d.1 e.1))
      | inr f ↦
          let e = and_parts _ _ (subst (λ z. is_of a b z ≡ true) (cond-false (ltb d.0 d.1) (record { lower = d.0; higher = d.1 }) (record { lower = d.1; higher = d.0 }) f) is) in
          inr (sym (eqb-true b d.0 e.1), sym (eqb-true a d.1 e.0))
    ]

-- the lower of its numbers is the first one
pub rises : (d : ℕ × ℕ) (a b : ℕ) → d.0 ≢ d.1 → is_of a b (couple_of d) ≡ true → a < b
rises d a b two is =
    elim (cases_Bool (ltb d.0 d.1)) [
      | inl t ↦
          let e = is_that a b _ (subst (λ z. is_of a b z ≡ true) (cond-true (ltb d.0 d.1) (record { lower = d.0; higher = d.1 }) (record { lower = d.1; higher = d.0 }) t) is) in
          let l : d.0 < d.1 = ltb-true d.0 d.1 t in
          let x : a ≡ d.0 = e.0 in
          let y : b ≡ d.1 = e.1 in
          omega arith
      | inr f ↦
          let e = is_that a b _ (subst (λ z. is_of a b z ≡ true) (cond-false (ltb d.0 d.1) (record { lower = d.0; higher = d.1 }) (record { lower = d.1; higher = d.0 }) f) is) in
          let x : a ≡ d.1 = e.0 in
          let y : b ≡ d.0 = e.1 in
          ⊎_elim (λ same. absurd (two same)) (λ o. ⊎_elim (λ l. absurd (both_ways _ f (lt-ltb d.0 d.1 l))) (λ l. omega arith) o) (cases_order d.0 d.1)
    ]

-- what is decided stands among the couples of the decisions
decided_stands : (ds : List (ℕ × ℕ)) (a b u w : ℕ) → a ≤ b → ((u ≡ a) × (w ≡ b)) ⊎ ((u ≡ b) × (w ≡ a)) → decides ds u w ≡ true → 1 ≤ stands a b (map couple_of ds)
unfolding decides
decided_stands [] a b u w l on h = absurd (false≢true h)
decided_stands (d ∷ ds) a b u w l on h =
    let parts = count_cons (is_of a b) (couple_of d) (map couple_of ds) in
    ⊎_elim
    (λ e.
    let both = and_parts _ _ e in
    let x : d.0 ≡ u = eqb-true d.0 u both.0 in
    let y : d.1 ≡ w = eqb-true d.1 w both.1 in
    let one = counted (is_of a b (couple_of d)) (on_couple d a b l (⊎_elim (λ o. inl (x ∙ o.0, y ∙ o.1)) (λ o. inr (x ∙ o.0, y ∙ o.1)) on)) in
    omega arith)
    (λ e. let rest : 1 ≤ stands a b (map couple_of ds) = decided_stands ds a b u w l on e in omega arith)
    (or_cases _ _ h)

pub stands_decided : (ds : List (ℕ × ℕ)) (a b : ℕ) → 1 ≤ stands a b (map couple_of ds) → (decides ds a b ≡ true) ⊎ (decides ds b a ≡ true)
unfolding decides
stands_decided [] a b l = absurd (omega arith)
stands_decided (d ∷ ds) a b l =
    let parts = count_cons (is_of a b) (couple_of d) (map couple_of ds) in
    elim (cases_Bool (is_of a b (couple_of d))) [
      | inl is ↦
          ⊎_elim
          (λ e. inl (or_left _ _ (and_from _ _ (eq-eqb d.0 a e.0) (eq-eqb d.1 b e.1))))
          (λ e. inr (or_left _ _ (and_from _ _ (eq-eqb d.0 b e.0) (eq-eqb d.1 a e.1))))
          (couple_on d a b is)
      | inr ne ↦
          let none = not_counted (is_of a b (couple_of d)) ne in
          ⊎_elim (λ e. inl (or_right _ _ e)) (λ e. inr (or_right _ _ e)) (stands_decided ds a b (omega arith))
    ]

-- the next couple is a couple of the shape and is not decided yet
pub next_open : (shape : List (List ℕ)) (ds : List (ℕ × ℕ)) (c : Couple) (rest : List Couple) → AreLeft shape ds (c ∷ rest) → IsOpen shape ds c
next_open shape ds c rest left =
    let once : stands c.lower c.higher (couples_of shape) ≤ 1 = stands-once shape c.lower c.higher in
    let whole : stands c.lower c.higher (map couple_of ds ++ c ∷ rest) ≡ stands c.lower c.higher (couples_of shape) = ap (stands c.lower c.higher) left in
    let parts = stands-append c.lower c.higher (map couple_of ds) (c ∷ rest) in
    let this = stands-this c rest in
    let is = stands-couple shape c.lower c.higher (omega arith) in
    let l : c.lower < c.higher = is.0 in
    let none : (u w : ℕ) → ((u ≡ c.lower) × (w ≡ c.higher)) ⊎ ((u ≡ c.higher) × (w ≡ c.lower)) → decides ds u w ≡ false =
    λ u w on. false_from_ne_true _ (λ t. let some : 1 ≤ stands c.lower c.higher (map couple_of ds) = decided_stands ds c.lower c.higher u w (omega (arith, l)) on t in omega arith) in
    record {
      couple = and_from _ _ (lt-ltb c.lower c.higher is.0) is.1;
      not_lower_first = none c.lower c.higher (inl (refl, refl));
      not_higher_first = none c.higher c.lower (inr (refl, refl));
    }

pub is_lower : (shape : List (List ℕ)) (ds : List (ℕ × ℕ)) (c : Couple) → IsOpen shape ds c → c.lower < c.higher
is_lower shape ds c o = ltb-true c.lower c.higher (and_parts _ _ o.couple).0

pub open_couple : (shape : List (List ℕ)) (ds : List (ℕ × ℕ)) (c : Couple) → IsOpen shape ds c → IsCouple shape c.lower c.higher
open_couple shape ds c o = let l : c.lower < c.higher = is_lower shape ds c o in (λ e. omega arith, (and_parts _ _ o.couple).1)

pub open_couple_turned : (shape : List (List ℕ)) (ds : List (ℕ × ℕ)) (c : Couple) → IsOpen shape ds c → IsCouple shape c.higher c.lower
open_couple_turned shape ds c o =
    let l : c.lower < c.higher = is_lower shape ds c o in
    let p = parent_of_both shape c.lower c.higher (and_parts _ _ o.couple).1 in
    (λ e. omega arith, both_have_parent shape p.0 c.higher c.lower p.2 p.1)

-- a decision on it
left_more : (shape : List (List ℕ)) (ds : List (ℕ × ℕ)) (c : Couple) (rest : List Couple) (d : ℕ × ℕ) → couple_of d ≡ c → AreLeft shape ds (c ∷ rest) → AreLeft shape (ds ++ d ∷ []) rest
left_more shape ds c rest d e left =
    ap (λ z. z ++ rest) (map-append couple_of ds (d ∷ [])) ∙ append_assoc (map couple_of ds) (couple_of d ∷ []) rest ∙ ap (λ z. map couple_of ds ++ z ∷ rest) e ∙ left

pub left_lower : (shape : List (List ℕ)) (ds : List (ℕ × ℕ)) (c : Couple) (rest : List Couple) → AreLeft shape ds (c ∷ rest) → AreLeft shape (ds ++ (c.lower, c.higher) ∷ []) rest
left_lower shape ds c rest left =
    let l : c.lower < c.higher = is_lower shape ds c (next_open shape ds c rest left) in
    left_more shape ds c rest (c.lower, c.higher) (couple_of_lower c.lower c.higher (omega arith)) left

-- nothing is decided yet
pub left_all : (shape : List (List ℕ)) (couples : List Couple) → couples ≡ couples_of shape → AreLeft shape [] couples
left_all shape couples e = e

-- nothing is left
pub decides_all : (shape : List (List ℕ)) (ds : List (ℕ × ℕ)) → IsShape shape → AreLeft shape ds [] → DecidesAll shape ds
decides_all shape ds sh left = record {
  couples = λ u w t.
      ⊎_elim
      (λ e. absurd (never u w e t))
      (λ o. ⊎_elim
      (λ l. let c = stands-couple shape u w (among u w u w (omega (arith, l)) (inl (refl, refl)) t) in (λ e. omega (arith, l), c.1))
      (λ l. let c = stands-couple shape w u (among w u u w (omega (arith, l)) (inr (refl, refl)) t) in (λ e. omega (arith, l), parent_swap shape w u c.1))
      o)
      (cases_order u w);
  all = λ u w c.
      ⊎_elim
      (λ e. absurd (c.0 e))
      (λ o. ⊎_elim
      (λ l. stands_decided ds u w (subst (λ z. 1 ≤ stands u w z) (sym is) (couple-stands shape u w sh l c.1)))
      (λ l. ⊎_elim (λ t. inr t) (λ t. inl t) (stands_decided ds w u (subst (λ z. 1 ≤ stands w u z) (sym is) (couple-stands shape w u sh l (parent_swap shape u w c.1)))))
      o)
      (cases_order u w);
}
  where
    is : map couple_of ds ≡ couples_of shape
    is = sym (append-nil (map couple_of ds)) ∙ left

    among : (a b u w : ℕ) → a ≤ b → ((u ≡ a) × (w ≡ b)) ⊎ ((u ≡ b) × (w ≡ a)) → decides ds u w ≡ true → 1 ≤ stands a b (couples_of shape)
    among a b u w l on t = subst (λ z. 1 ≤ stands a b z) is (decided_stands ds a b u w l on t)

    parent_swap : (shape : List (List ℕ)) (u w : ℕ) → have_parent shape u w ≡ true → have_parent shape w u ≡ true
    parent_swap shape u w h = let p = parent_of_both shape u w h in both_have_parent shape p.0 w u p.2 p.1

    never : (u w : ℕ) → u ≡ w → decides ds u w ≡ true → ⊥
    never u w e t = let k : u < w = (stands-couple shape u w (among u w u w (omega arith) (inl (refl, refl)) t)).0 in omega arith

-- the order of decisions does not matter
pub decides-reverse : (ds : List (ℕ × ℕ)) (u w : ℕ) → decides (reverse ds) u w ≡ decides ds u w
unfolding decides
decides-reverse ds u w = sym (list_any-IsPermutation (λ d. eqb d.0 u && eqb d.1 w) ds (reverse ds) (IsPermutation-reverse ds))

pub open-reverse : (shape : List (List ℕ)) (ds : List (ℕ × ℕ)) (c : Couple) → IsOpen shape ds c → IsOpen shape (reverse ds) c
open-reverse shape ds c o = record {
  couple = o.couple;
  not_lower_first = decides-reverse ds c.lower c.higher ∙ o.not_lower_first;
  not_higher_first = decides-reverse ds c.higher c.lower ∙ o.not_higher_first;
}

-- the same of the next one of a list that is gone through
pub left_at : (shape : List (List ℕ)) (ds : List (ℕ × ℕ)) (couples : List Couple) (i : ℕ) (none : Couple) → i < length couples → AreLeft shape ds (drop i couples) → AreLeft shape ds (get_or couples i none ∷ drop (i + 1) couples)
left_at shape ds couples i none l left = subst (AreLeft shape ds) (drop_more couples i none l) left

-- a decision is taken back
pub taken_back : (ds after now : List (ℕ × ℕ)) (d : ℕ × ℕ) → after ≡ ds ++ d ∷ [] → now ≡ take (length after - 1) after → now ≡ ds
taken_back ds after now d made back =
    let n : length after - 1 ≡ length ds = let l = ap length made ∙ length-append ds (d ∷ []) in omega arith in
    back ∙ ap (λ k. take k after) n ∙ ap (take (length ds)) made ∙ take-append_seam ds (d ∷ [])
