-- Laws of sums over the numbers below a bound and over a list.
use Rattle.std.proofs.Common.{◌≡◌, ℕ, zero, suc, ◌+◌, ◌*◌, ◌<◌, ◌≤◌, List, [], ◌∷◌, true, refl, sym, ap, ◌∙◌, ⊎_elim, arith}
use Rattle.std.specs.List.{sum_by}
use Rattle.std.proofs.lemmas.List.Sums.{sum_by-cons}
use Rattle.std.proofs.lemmas.Bool.{cases_eq, eq-eqb, or_left, or_right}
use Rattle.std.proofs.lemmas.Bool.Decides.{nat_tests}
use Rattle.wh_dag.specs.Shape.{has}
use Rattle.wh_strategy.specs.Sums.{sum_below}
use Rattle.wh_strategy.proofs.SumsBelow.{sum_by-none, sum_by-plus}

-- sums below a number
pub sum_below-le : (f g : ℕ → ℕ) (n : ℕ) → ((k : ℕ) → k < n → f k ≤ g k) → sum_below f n ≤ sum_below g n
unfolding sum_below
sum_below-le f g zero h = omega arith
sum_below-le f g (suc n) h =
    let rest = sum_below-le f g n (λ k l. h k (omega arith)) in
    let here = h n (omega arith) in
    omega arith

pub sum_below-at : (f : ℕ → ℕ) (n k : ℕ) → k < n → f k ≤ sum_below f n
unfolding sum_below
sum_below-at f zero k l = absurd (omega arith)
sum_below-at f (suc n) k l =
    ⊎_elim
    (λ e. let h = ap f e in omega arith)
    (λ d. let h = sum_below-at f n k (omega arith) in omega arith)
    (cases_eq k n)

pub sum_below-zero : (f : ℕ → ℕ) (n : ℕ) → ((j : ℕ) → j < n → f j ≡ 0) → sum_below f n ≡ 0
unfolding sum_below
sum_below-zero f zero h = refl
sum_below-zero f (suc n) h =
    let rest = sum_below-zero f n (λ k l. h k (omega arith)) in
    let here = h n (omega arith) in
    omega arith

-- only the term at k is not 0
pub sum_below-only : (f : ℕ → ℕ) (n k : ℕ) → k < n → ((j : ℕ) → j < n → (j ≡ k → ⊥) → f j ≡ 0) → sum_below f n ≡ f k
unfolding sum_below
sum_below-only f zero k l h = absurd (omega arith)
sum_below-only f (suc n) k l h =
    ⊎_elim
    (λ e.
    let none = sum_below-zero f n (λ j lt. h j (omega arith) (λ e'. omega arith)) in
    let s = ap f e in
    omega arith)
    (λ d.
    let rest = sum_below-only f n k (omega arith) (λ j lt. h j (omega arith)) in
    let last = h n (omega arith) (λ e'. d (sym e')) in
    omega arith)
    (cases_eq k n)

pub sum_below-add : (f g : ℕ → ℕ) (n : ℕ) → sum_below (λ k. f k + g k) n ≡ sum_below f n + sum_below g n
unfolding sum_below
sum_below-add f g zero = omega arith
sum_below-add f g (suc n) = let h = sum_below-add f g n in omega arith

pub sum_below-mul : (c : ℕ) (f : ℕ → ℕ) (n : ℕ) → sum_below (λ k. c * f k) n ≡ c * sum_below f n
unfolding sum_below
sum_below-mul c f zero = grind arith
sum_below-mul c f (suc n) = let h = sum_below-mul c f n in grind (arith, nat_tests)

pub sum_below-swap : (f : ℕ → ℕ → ℕ) (n m : ℕ) → sum_below (λ a. sum_below (f a) m) n ≡ sum_below (λ b. sum_below (λ a. f a b) n) m
unfolding sum_below
sum_below-swap f zero m = sym (sum_below-zero (λ b. 0) m (λ j l. refl))
sum_below-swap f (suc n) m =
    let h = sum_below-swap f n m in
    let s = sum_below-add (λ b. sum_below (λ a. f a b) n) (f n) m in
    omega arith

-- sums over a list
pub sum_by-le_at : (f g : ℕ → ℕ) (xs : List ℕ) → ((x : ℕ) → has xs x ≡ true → f x ≤ g x) → sum_by f xs ≤ sum_by g xs
unfolding has
sum_by-le_at f g [] h = omega arith
sum_by-le_at f g (x ∷ xs) h =
    let a = sum_by-cons f x xs in
    let b = sum_by-cons g x xs in
    let rest = sum_by-le_at f g xs (λ y m. h y (or_right _ _ m)) in
    let here = h x (or_left _ _ (eq-eqb x x refl)) in
    omega arith

pub sum_by-zero_at : (f : ℕ → ℕ) (xs : List ℕ) → ((x : ℕ) → has xs x ≡ true → f x ≡ 0) → sum_by f xs ≡ 0
unfolding has
sum_by-zero_at f [] h = refl
sum_by-zero_at f (x ∷ xs) h =
    let a = sum_by-cons f x xs in
    let rest = sum_by-zero_at f xs (λ y m. h y (or_right _ _ m)) in
    let here = h x (or_left _ _ (eq-eqb x x refl)) in
    omega arith

-- a sum of sums over a list
pub sum_below-by : {X : Type 0} (f : ℕ → X → ℕ) (xs : List X) (n : ℕ) → sum_below (λ k. sum_by (f k) xs) n ≡ sum_by (λ x. sum_below (λ k. f k x) n) xs
unfolding sum_below
sum_below-by f xs zero = sym (sum_by-none xs)
sum_below-by f xs (suc n) =
    let h = sum_below-by f xs n in
    let s = sum_by-plus (λ x. sum_below (λ k. f k x) n) (f n) xs in
    ap (λ m. m + sum_by (f n) xs) h ∙ sym s
