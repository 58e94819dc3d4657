-- Sums over the members of a list, and over its pairs.
use Rattle.std.proofs.Common.{◌≡◌, ℕ, ◌+◌, ◌≤◌, List, [], ◌∷◌, Bool, true, false, cond, eqb, sym, ap, ◌∙◌, subst, ◌||◌, ⊎_elim, arith}
use Rattle.std.specs.List.{sum_by}
use Rattle.std.proofs.lemmas.List.Sums.{sum_by-cons}
use Rattle.std.proofs.lemmas.Bool.{cases_Bool, eqb-true, ne_eqb, cond-true, cond-false, both_ways}
use Rattle.wh_dag.specs.Shape.{has, Distinct}
use Rattle.wh_strategy.proofs.Found.{has-head, has-tail}
use Rattle.wh_strategy.proofs.SumsBelow.{sum_by-same, sum_by-plus, sum_by-none}
use Rattle.wh_cert.specs.Bound.{sum_pairs}
use Rattle.wh_cert.proofs.Sums.{sum_by-zero_at, sum_by-le_at}

pub members_differ : (x y : ℕ) (xs : List ℕ) → has xs x ≡ false → has xs y ≡ true → x ≡ y → ⊥
members_differ x y xs a b e = both_ways (has xs y) (subst (λ z. has xs z ≡ false) e a) b

pub only : (f : ℕ → ℕ) (y : ℕ) (xs : List ℕ) → Distinct xs → sum_by (λ w. cond (eqb y w) (f w) 0) xs ≤ f y
unfolding Distinct
only f y [] dis = omega arith
only f y (x ∷ xs) dis =
    let a = sum_by-cons (λ w. cond (eqb y w) (f w) 0) x xs in
    ⊎_elim
    (λ e.
    let s = eqb-true y x e in
    let t = cond-true (eqb y x) (f x) 0 e in
    let same = ap f s in
    let z = sum_by-zero_at (λ w. cond (eqb y w) (f w) 0) xs (λ w m. cond-false (eqb y w) (f w) 0 (ne_eqb y w (λ q. members_differ x w xs dis.0 m (sym s ∙ q)))) in
    omega arith)
    (λ e.
    let t = cond-false (eqb y x) (f x) 0 e in
    let r = only f y xs dis.1 in
    omega arith)
    (cases_Bool (eqb y x))

-- a sum over those of the children that are members is within the sum over the members
pub members_within : (f : ℕ → ℕ) (ys xs : List ℕ) → Distinct xs → sum_by (λ w. cond (has ys w) (f w) 0) xs ≤ sum_by f ys
unfolding has
members_within f [] xs dis = let z = sum_by-none xs in omega arith
members_within f (y ∷ ys) xs dis =
    let a = sum_by-cons f y ys in
    let o = only f y xs dis in
    let r = members_within f ys xs dis in
    let s = sum_by-plus (λ w. cond (eqb y w) (f w) 0) (λ w. cond (has ys w) (f w) 0) xs in
    let l = sum_by-le_at (λ w. cond (eqb y w || has ys w) (f w) 0) (λ w. cond (eqb y w) (f w) 0 + cond (has ys w) (f w) 0) xs (λ w m. either (eqb y w) (has ys w) (f w)) in
    omega arith
  where
    either : (a b : Bool) (n : ℕ) → cond (a || b) n 0 ≤ cond a n 0 + cond b n 0
    either true b n = omega arith
    either false b n = omega arith

-- what each two of them owe is within the sum over all
pub pairs_within : (h m : ℕ → ℕ → ℕ) (g : ℕ → ℕ) (xs : List ℕ) → Distinct xs → ((u : ℕ) → has xs u ≡ true → g u ≤ h u u) → ((u w : ℕ) → has xs u ≡ true → has xs w ≡ true → (u ≡ w → ⊥) → m u w ≤ h u w + h w u) → sum_by g xs + sum_pairs m xs ≤ sum_by (λ u. sum_by (h u) xs) xs
unfolding sum_pairs Distinct
pairs_within h m g [] dis own two = omega arith
pairs_within h m g (x ∷ xs) dis own two =
    let a = sum_by-cons g x xs in
    let b = sum_by-cons (λ u. sum_by (h u) (x ∷ xs)) x xs in
    let c = sum_by-cons (h x) x xs in
    let d = sum_by-same (λ u. sum_by (h u) (x ∷ xs)) (λ u. h u x + sum_by (h u) xs) xs (λ u. sum_by-cons (h u) x xs) in
    let e = sum_by-plus (λ u. h u x) (λ u. sum_by (h u) xs) xs in
    let f = sum_by-plus (h x) (λ u. h u x) xs in
    let l = sum_by-le_at (m x) (λ w. h x w + h w x) xs (λ w q. two x w (has-head x xs) (has-tail x w xs q) (members_differ x w xs dis.0 q)) in
    let o = own x (has-head x xs) in
    let r = pairs_within h m g xs dis.1 (λ u q. own u (has-tail x u xs q)) (λ u w q t. two u w (has-tail x u xs q) (has-tail x w xs t)) in
    omega arith
