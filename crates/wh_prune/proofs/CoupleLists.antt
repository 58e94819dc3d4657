-- The couples of a shape: each stands once in their list, and nothing else does.
use Rattle.std.proofs.Common.{◌≡◌, ℕ, zero, suc, ◌+◌, ◌<◌, ◌≤◌, List, [], ◌∷◌, ◌++◌, Bool, true, false, cond, filter, map, refl, sym, ap, ◌∙◌, subst, length, inl, inr, arith}
use Rattle.std.specs.List.{count_by, flat_map, range_with_len}
use Rattle.std.proofs.lemmas.List.Sums.{sum_by-append}
use Rattle.std.proofs.lemmas.Bool.{cases_Bool, cases_eq, cond-true, cond-false, eqb-true, eq-eqb, false≢true, false_from_ne_true, and_parts, and_from, ltb-true, lt-ltb}
use Rattle.wh_dag.specs.Shape.{IsShape}
use Rattle.wh_dag.specs.Siblings.{have_parent, is_couple, pairs_with, pairs_below, each_below, couples_of}
use Rattle.wh_dag.specs.declared.siblings.Couple.{Couple}
use Rattle.wh_dag.proofs.CommonParents.{parent_of_both}
use Rattle.wh_dag.proofs.FewCouples.{is_of, pair_once, count_cons}
use Rattle.wh_strategy.proofs.Found.{has_within}

-- a test counts where it holds
pub counted : (t : Bool) → t ≡ true → 1 ≤ cond t 1 0
counted true e = omega arith
counted false e = absurd (false≢true e)

pub not_counted : (t : Bool) → t ≡ false → cond t 1 0 ≤ 0
not_counted true e = absurd (false≢true (sym e))
not_counted false e = omega arith

-- how often the couple of these numbers stands in the list
abbrev pub stands : ℕ → ℕ → List Couple → ℕ
stands a b list = count_by (is_of a b) list

pub stands-append : (a b : ℕ) (xs ys : List Couple) → stands a b (xs ++ ys) ≡ stands a b xs + stands a b ys
stands-append a b xs ys = sum_by-append (λ c. cond (is_of a b c) 1 0) xs ys

pub is_that : (a b : ℕ) (c : Couple) → is_of a b c ≡ true → (a ≡ c.lower) × (b ≡ c.higher)
is_that a b c e = let p = and_parts _ _ e in (eqb-true a c.lower p.0, eqb-true b c.higher p.1)

pub that_is : (c : Couple) → is_of c.lower c.higher c ≡ true
that_is c = and_from _ _ (eq-eqb c.lower c.lower refl) (eq-eqb c.higher c.higher refl)

pub stands-this : (c : Couple) (cs : List Couple) → stands c.lower c.higher (c ∷ cs) ≡ 1 + stands c.lower c.higher cs
stands-this c cs = count_cons (is_of c.lower c.higher) c cs ∙ ap (λ z. z + stands c.lower c.higher cs) (cond-true (is_of c.lower c.higher c) 1 0 (that_is c))

-- what is kept of a list
kept_fewer : (p : Couple → Bool) (a b : ℕ) (xs : List Couple) → stands a b (filter p xs) ≤ stands a b xs
kept_fewer p a b [] = omega arith
kept_fewer p a b (x ∷ xs) =
    let rest : stands a b (filter p xs) ≤ stands a b xs = kept_fewer p a b xs in
    let whole = count_cons (is_of a b) x xs in
    let same = count_cons (is_of a b) x (filter p xs) in
    elim (cases_Bool (p x)) [
      | inl t ↦ rw (cond-true (p x) (x ∷ filter p xs) (filter p xs) t) (omega arith)
      | inr f ↦ rw (cond-false (p x) (x ∷ filter p xs) (filter p xs) f) (omega arith)
    ]

same_test : (p : Couple → Bool) (a b : ℕ) (x : Couple) → is_of a b x ≡ true → p (record { lower = a; higher = b }) ≡ p x
same_test p a b x e = let i = is_that a b x e in ap (λ z. p (record { lower = z; higher = b })) i.0 ∙ ap (λ z. p (record { lower = x.lower; higher = z })) i.1

kept_passes : (p : Couple → Bool) (a b : ℕ) (xs : List Couple) → 1 ≤ stands a b (filter p xs) → p (record { lower = a; higher = b }) ≡ true
kept_passes p a b [] l = absurd (omega arith)
kept_passes p a b (x ∷ xs) l =
    elim (cases_Bool (p x)) [
      | inl t ↦
          let more = subst (λ z. 1 ≤ stands a b z) (cond-true (p x) (x ∷ filter p xs) (filter p xs) t) l in
          let parts = count_cons (is_of a b) x (filter p xs) in
          elim (cases_Bool (is_of a b x)) [
            | inl is ↦ same_test p a b x is ∙ t
            | inr ne ↦ let none = not_counted (is_of a b x) ne in kept_passes p a b xs (omega arith)
          ]
      | inr f ↦ kept_passes p a b xs (subst (λ z. 1 ≤ stands a b z) (cond-false (p x) (x ∷ filter p xs) (filter p xs) f) l)
    ]

kept_all : (p : Couple → Bool) (a b : ℕ) (xs : List Couple) → p (record { lower = a; higher = b }) ≡ true → stands a b xs ≤ stands a b (filter p xs)
kept_all p a b [] t = omega arith
kept_all p a b (x ∷ xs) t =
    let rest : stands a b xs ≤ stands a b (filter p xs) = kept_all p a b xs t in
    let whole = count_cons (is_of a b) x xs in
    elim (cases_Bool (p x)) [
      | inl y ↦ let parts = count_cons (is_of a b) x (filter p xs) in rw (cond-true (p x) (x ∷ filter p xs) (filter p xs) y) (omega arith)
      | inr f ↦
          let none = not_counted (is_of a b x) (false_from_ne_true _ (λ is. false≢true (sym f ∙ sym (same_test p a b x is) ∙ t))) in
          rw (cond-false (p x) (x ∷ filter p xs) (filter p xs) f) (omega arith)
    ]

-- a pair of numbers stands among those that are made of the first one
row_has : (a b s n : ℕ) → s ≤ b → b < s + n → 1 ≤ stands a b (map (λ higher. record { lower = a; higher = higher }) (range_with_len s n))
row_has a b s zero l h = absurd (omega arith)
row_has a b s (suc n) l h =
    let parts = count_cons (is_of a b) (record { lower = a; higher = s }) (map (λ higher. record { lower = a; higher = higher }) (range_with_len (s + 1) n)) in
    elim (cases_eq b s) [
      | inl e ↦ let one = counted (is_of a b (record { lower = a; higher = s })) (and_from _ _ (eq-eqb a a refl) (eq-eqb b s e)) in omega arith
      | inr ne ↦ let rest = row_has a b (s + 1) n (omega arith) (omega arith) in omega arith
    ]

rows_have : (a b m s n : ℕ) → s ≤ a → a < s + n → b < m → 1 ≤ stands a b (flat_map (λ lower. pairs_with lower m) (range_with_len s n))
rows_have a b m s zero l h k = absurd (omega arith)
rows_have a b m s (suc n) l h k =
    let parts = stands-append a b (pairs_with s m) (flat_map (λ lower. pairs_with lower m) (range_with_len (s + 1) n)) in
    elim (cases_eq a s) [
      | inl e ↦ let row : 1 ≤ stands a b (pairs_with s m) = subst (λ z. 1 ≤ stands a b (pairs_with z m)) e (row_has a b 0 m (omega arith) (omega arith)) in omega arith
      | inr ne ↦ let rest = rows_have a b m (s + 1) n (omega arith) (omega arith) k in omega arith
    ]

-- what is decided of a couple of a shape
pub stands-once : (shape : List (List ℕ)) (a b : ℕ) → stands a b (couples_of shape) ≤ 1
unfolding couples_of
stands-once shape a b =
    let once : stands a b (pairs_below (length shape)) ≤ 1 = pair_once a b (length shape) in
    let fewer : stands a b (filter (is_couple shape) (pairs_below (length shape))) ≤ stands a b (pairs_below (length shape)) = kept_fewer (is_couple shape) a b (pairs_below (length shape)) in
    omega arith

pub stands-couple : (shape : List (List ℕ)) (a b : ℕ) → 1 ≤ stands a b (couples_of shape) → (a < b) × (have_parent shape a b ≡ true)
unfolding couples_of
stands-couple shape a b l =
    let p = and_parts _ _ (kept_passes (is_couple shape) a b (pairs_below (length shape)) l) in
    (ltb-true a b p.0, p.1)

pub couple-stands : (shape : List (List ℕ)) (a b : ℕ) → IsShape shape → a < b → have_parent shape a b ≡ true → 1 ≤ stands a b (couples_of shape)
unfolding couples_of each_below
couple-stands shape a b sh l par =
    let p = parent_of_both shape a b par in
    let v : p.0 < length shape = has_within shape p.0 a p.1 in
    let x : a < p.0 = sh.lower p.0 a p.1 in
    let y : b < p.0 = sh.lower p.0 b p.2 in
    let there : 1 ≤ stands a b (pairs_below (length shape)) = rows_have a b (length shape) 0 (length shape) (omega arith) (omega arith) (omega arith) in
    let kept : stands a b (pairs_below (length shape)) ≤ stands a b (filter (is_couple shape) (pairs_below (length shape))) = kept_all (is_couple shape) a b (pairs_below (length shape)) (and_from _ _ (lt-ltb a b l) par) in
    omega arith
