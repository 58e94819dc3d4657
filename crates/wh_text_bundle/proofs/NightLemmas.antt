-- The nights of parts do not fall from one part to the next.
use Rattle.std.proofs.Common.{◌≡◌, ◌<◌, ◌≤◌, ◌==◌, ℕ, suc, zero, Bool, true, false, cond, nat_le, List, [], ◌∷◌, ◌++◌, length, take, drop, get_or, filter, Option, Some, None, option_map, refl, ap, sym, arith, count_by}
use Rattle.std.specs.List.{AllWithin, cons_option}
use Rattle.std.specs.List.Sorted.{IsNonDecreasingBy}
use Rattle.std.proofs.lemmas.Bool.Decides.{nat_tests}
use Rattle.std.proofs.lemmas.List.Sums.{sum_by_push}
use Rattle.wh_text_bundle.specs.Cut.{RawPart}
use Rattle.wh_text_bundle.specs.Bundle.{opens_night, heading_of_part, parts_below}
use Rattle.wh_text_bundle.specs.declared.bundle.heading.Heading.{Heading}
use Rattle.wh_text_bundle.specs.declared.bundle.part.Part.{Part}

-- p holds up to i and not from there on
pub filter-front : {X : Type 0} (p : X → Bool) (xs : List X) (i : ℕ) → i ≤ length xs → AllWithin (λ x. p x ≡ true) xs 0 i → AllWithin (λ x. p x ≡ false) xs i (length xs) → filter p xs ≡ take i xs
filter-front p [] zero within front back = refl
filter-front p [] (suc i) within front back = absurd (omega arith)
filter-front p (x ∷ xs) zero within front back =
    let here : p x ≡ false = back 0 x (omega arith) (omega arith) in
    rw here (filter-front p xs zero (omega arith) (λ k d l h. absurd (omega arith)) (λ k d l h. back (suc k) d (omega arith) (omega arith)))
filter-front p (x ∷ xs) (suc i) within front back =
    let here : p x ≡ true = front 0 x (omega arith) (omega arith) in
    rw here (ap (λ ys. x ∷ ys) (filter-front p xs i (omega arith) (λ k d l h. front (suc k) d (omega arith) (omega arith)) (λ k d l h. back (suc k) d (omega arith) (omega arith))))

-- p holds from i on and not below
pub filter-back : {X : Type 0} (p : X → Bool) (xs : List X) (i : ℕ) → i ≤ length xs → AllWithin (λ x. p x ≡ false) xs 0 i → AllWithin (λ x. p x ≡ true) xs i (length xs) → filter p xs ≡ drop i xs
filter-back p [] zero within front back = refl
filter-back p [] (suc i) within front back = absurd (omega arith)
filter-back p (x ∷ xs) zero within front back =
    let here : p x ≡ true = back 0 x (omega arith) (omega arith) in
    rw here (ap (λ ys. x ∷ ys) (filter-back p xs zero (omega arith) (λ k d l h. absurd (omega arith)) (λ k d l h. back (suc k) d (omega arith) (omega arith))))
filter-back p (x ∷ xs) (suc i) within front back =
    let here : p x ≡ false = front 0 x (omega arith) (omega arith) in
    rw here (filter-back p xs i (omega arith) (λ k d l h. front (suc k) d (omega arith) (omega arith)) (λ k d l h. back (suc k) d (omega arith) (omega arith)))

-- from a night on, and then up to it
one_night : (n m : ℕ) → cond (nat_le n m) (nat_le m n) false ≡ (m == n)
one_night n m = grind (arith, nat_tests)

pub filter-night : (night : ℕ) (parts : List Part) → filter (λ p. nat_le p.night night) (filter (λ p. nat_le night p.night) parts) ≡ filter (λ p. p.night == night) parts
filter-night night [] = refl
filter-night night (p ∷ ps) = by (nat_le night p.night) (one_night night p.night) (filter-night night ps)
  where
    fs : List Part
    fs = filter (λ q. nat_le night q.night) ps

    gs : List Part
    gs = filter (λ q. q.night == night) ps

    by : (t : Bool) → cond t (nat_le p.night night) false ≡ (p.night == night) → filter (λ q. nat_le q.night night) fs ≡ gs
        → filter (λ q. nat_le q.night night) (cond t (p ∷ fs) fs) ≡ cond (p.night == night) (p ∷ gs) gs
    by true same later = rw (same, later) refl
    by false same later = rw (sym same) later

-- the nights begin at n and do not fall
Ascends : ℕ → List Part → Type 0
Ascends n [] = Unit {0}
Ascends n (p ∷ ps) = (n ≤ p.night) × Ascends p.night ps

Ascends-lower : (n m : ℕ) (ps : List Part) → n ≤ m → Ascends m ps → Ascends n ps
unfolding Ascends
Ascends-lower n m [] le up = tt
Ascends-lower n m (p ∷ ps) le up = (omega (arith, up.0), up.1)

Ascends-parts_below : (above ps : List RawPart) → Ascends (count_by opens_night above) (parts_below above ps)
unfolding Ascends
Ascends-parts_below above [] = tt
Ascends-parts_below above (p ∷ ps) = by (heading_of_part p) (Ascends-parts_below (above ++ p ∷ []) ps)
  where
    n : ℕ
    n = count_by opens_night above

    m : ℕ
    m = count_by opens_night (above ++ p ∷ [])

    le : n ≤ m
    le = omega (arith, sum_by_push (λ q. cond (opens_night q) 1 0) above p)

    by : (o : Option Heading) → Ascends m (parts_below (above ++ p ∷ []) ps)
        → Ascends n (cons_option (option_map (λ heading. record { heading = heading; night = m; body = p.body }) o) (parts_below (above ++ p ∷ []) ps))
    by None up = Ascends-lower n m _ le up
    by (Some h) up = (le, up)

Ascends-at : (n : ℕ) (ps : List Part) (j : ℕ) (d : Part) → Ascends n ps → j < length ps → n ≤ (get_or ps j d).night
unfolding Ascends
Ascends-at n [] j d up within = absurd (omega arith)
Ascends-at n (p ∷ ps) zero d up within = up.0
Ascends-at n (p ∷ ps) (suc j) d up within = omega (arith, up.0, Ascends-at p.night ps j d up.1 (omega arith))

IsNonDecreasingBy-Ascends : (n : ℕ) (ps : List Part) → Ascends n ps → IsNonDecreasingBy (λ p. p.night) ps
unfolding Ascends
IsNonDecreasingBy-Ascends n [] up = λ i j d le within. absurd (omega arith)
IsNonDecreasingBy-Ascends n (p ∷ ps) up = by (IsNonDecreasingBy-Ascends p.night ps up.1)
  where
    by : IsNonDecreasingBy (λ q. q.night) ps → (i j : ℕ) (d : Part) → i ≤ j → j < length (p ∷ ps) → (get_or (p ∷ ps) i d).night ≤ (get_or (p ∷ ps) j d).night
    by later zero zero d le within = omega arith
    by later zero (suc j) d le within = Ascends-at p.night ps j d up.1 (omega arith)
    by later (suc i) zero d le within = absurd (omega arith)
    by later (suc i) (suc j) d le within = later i j d (omega arith) (omega arith)

-- the nights of a bundle's parts
pub IsNonDecreasingBy-parts_below : (ps : List RawPart) → IsNonDecreasingBy (λ p. p.night) (parts_below [] ps)
IsNonDecreasingBy-parts_below ps = IsNonDecreasingBy-Ascends 0 (parts_below [] ps) (Ascends-parts_below [] ps)
