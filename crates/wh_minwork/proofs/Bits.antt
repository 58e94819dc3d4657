-- Sets of views, a bit for each.
use Rattle.std.proofs.Common.{◌≡◌, ℕ, zero, suc, ◌*◌, ◌/◌, ◌%◌, ◌^◌, ◌<◌, ◌≤◌, List, [], ◌∷◌, true, false, not, ◌&&◌, ◌||◌, eqb, refl, sym, ap, ◌∙◌, subst, length, get_or, replicate, min, max, ⊎_elim, arith}
use Rattle.std.specs.Int.{bit_at, bit_not}
use Rattle.std.specs.Prelude.{bit_and, bit_or}
use Rattle.std.specs.Int.{w64, trailing_zeros}
use Rattle.std.proofs.lemmas.Nat.{and_le_l}
use Rattle.std.proofs.lemmas.Nat.Bits.{bit_at_and, bit_at_or, bit_at-zero, bit_at-lt, bit_at_above, bit_at_set_same, bit_at_set_other, bit_at_clear_same, bit_at_clear_other, bit_at-trailing_zeros, shr_and_one}
use Rattle.std.proofs.lemmas.Bool.{cases_eq, eq-eqb, ne_eqb, cases_lt, false≢true}
use Rattle.wh_minwork.specs.Inner.Sets.{in_set, in_rows}

bit_test_and : (a b : ℕ) → a < 2 → b < 2 → eqb (min a b) 1 ≡ (eqb a 1 && eqb b 1)
bit_test_and zero zero la lb = refl
bit_test_and zero (suc zero) la lb = refl
bit_test_and zero (suc (suc b)) la lb = absurd (omega arith)
bit_test_and (suc zero) zero la lb = refl
bit_test_and (suc zero) (suc zero) la lb = refl
bit_test_and (suc zero) (suc (suc b)) la lb = absurd (omega arith)
bit_test_and (suc (suc a)) b la lb = absurd (omega arith)

bit_test_or : (a b : ℕ) → a < 2 → b < 2 → eqb (max a b) 1 ≡ (eqb a 1 || eqb b 1)
bit_test_or zero zero la lb = refl
bit_test_or zero (suc zero) la lb = refl
bit_test_or (suc zero) zero la lb = refl
bit_test_or (suc zero) (suc zero) la lb = refl
bit_test_or zero (suc (suc b)) la lb = absurd (omega arith)
bit_test_or (suc zero) (suc (suc b)) la lb = absurd (omega arith)
bit_test_or (suc (suc a)) b la lb = absurd (omega arith)

pub in_set-and : (a b w : ℕ) → in_set (bit_and a b) w ≡ (in_set a w && in_set b w)
unfolding in_set
in_set-and a b w = ap (λ z. eqb z 1) (bit_at_and a b w) ∙ bit_test_and (bit_at a w) (bit_at b w) (bit_at-lt a w) (bit_at-lt b w)

pub in_set-or : (a b w : ℕ) → in_set (bit_or a b) w ≡ (in_set a w || in_set b w)
unfolding in_set
in_set-or a b w = ap (λ z. eqb z 1) (bit_at_or a b w) ∙ bit_test_or (bit_at a w) (bit_at b w) (bit_at-lt a w) (bit_at-lt b w)

pub in_none : (w : ℕ) → in_set 0 w ≡ false
unfolding in_set
in_none w = ap (λ z. eqb z 1) (bit_at-zero w)

pub in_set-with : (n k w : ℕ) → k < 64 → in_set (bit_or n (1 * 2 ^ k % 2 ^ 64)) w ≡ (eqb k w || in_set n w)
unfolding in_set
in_set-with n k w l =
    ⊎_elim
    (λ (e : k ≡ w). rw (eq-eqb k w e) (subst (λ z. eqb (bit_at (bit_or n (1 * 2 ^ k % 2 ^ 64)) z) 1 ≡ true) e (ap (λ z. eqb z 1) (bit_at_set_same w64 n k l))))
    (λ ne. rw (ne_eqb k w ne) (ap (λ z. eqb z 1) (bit_at_set_other w64 n k l w (λ e. ne (sym e)))))
    (cases_eq k w)

pub in_set-without : (n k w : ℕ) → n < 2 ^ 64 → k < 64 → in_set (bit_and n (bit_not w64 (1 * 2 ^ k % 2 ^ 64))) w ≡ (not (eqb k w) && in_set n w)
unfolding in_set
in_set-without n k w small l =
    ⊎_elim
    (λ (e : k ≡ w). rw (eq-eqb k w e) (subst (λ z. eqb (bit_at (bit_and n (bit_not w64 (1 * 2 ^ k % 2 ^ 64))) z) 1 ≡ false) e (ap (λ z. eqb z 1) (bit_at_clear_same w64 n k l))))
    (λ ne. rw (ne_eqb k w ne) (ap (λ z. eqb z 1) (other ne)))
    (cases_eq k w)
  where
    other : (k ≡ w → ⊥) → bit_at (bit_and n (bit_not w64 (1 * 2 ^ k % 2 ^ 64))) w ≡ bit_at n w
    other ne =
        ⊎_elim
        (λ (low : w < 64). bit_at_clear_other w64 n k l w low (λ e. ne (sym e)))
        (λ (high : 64 ≤ w).
        let less : bit_and n (bit_not w64 (1 * 2 ^ k % 2 ^ 64)) ≤ n = and_le_l n (bit_not w64 (1 * 2 ^ k % 2 ^ 64)) in
        bit_at_above (bit_and n (bit_not w64 (1 * 2 ^ k % 2 ^ 64))) 64 w (omega arith) high ∙ sym (bit_at_above n 64 w small high))
        (cases_lt w 64)

-- without a view of it, a set is a smaller number
pub without_less : (n k : ℕ) → n < 2 ^ 64 → k < 64 → in_set n k ≡ true → bit_and n (bit_not w64 (1 * 2 ^ k % 2 ^ 64)) < n
without_less n k small l there =
    let less : bit_and n (bit_not w64 (1 * 2 ^ k % 2 ^ 64)) ≤ n = and_le_l n (bit_not w64 (1 * 2 ^ k % 2 ^ 64)) in
    let gone : in_set (bit_and n (bit_not w64 (1 * 2 ^ k % 2 ^ 64))) k ≡ (not (eqb k k) && in_set n k) = in_set-without n k k small l in
    ⊎_elim
    (λ e. absurd (false≢true (sym (gone ∙ ap (λ z. not z && in_set n k) (eq-eqb k k refl)) ∙ ap (λ z. in_set z k) e ∙ there)))
    (λ ne. omega arith)
    (cases_eq (bit_and n (bit_not w64 (1 * 2 ^ k % 2 ^ 64))) n)

-- the lowest view of a set
pub first_in : (n : ℕ) → 0 < n → n < 2 ^ 64 → (trailing_zeros w64 n < 64) × (in_set n (trailing_zeros w64 n) ≡ true)
unfolding in_set
first_in n some small = let t = bit_at-trailing_zeros w64 n some small in (t.0, ap (λ z. eqb z 1) t.1)

pub shifted : (n k : ℕ) → eqb (bit_and (n / 2 ^ k) 1) 1 ≡ in_set n k
unfolding in_set
shifted n k = ap (λ z. eqb z 1) (shr_and_one n k)

-- past the last row there is no view
past_row : (rows : List ℕ) (v : ℕ) → length rows ≤ v → get_or rows v 0 ≡ 0
past_row [] zero l = refl
past_row [] (suc v) l = refl
past_row (x ∷ xs) zero l = absurd (omega arith)
past_row (x ∷ xs) (suc v) l = past_row xs v (omega arith)

pub in_past : (rows : List ℕ) (v u : ℕ) → length rows ≤ v → in_rows rows v u ≡ false
in_past rows v u l = ap (λ z. in_set z u) (past_row rows v l) ∙ in_none u

-- no view is in any row
pub rows_empty : (v u : ℕ) → in_rows (replicate 64 0) v u ≡ false
rows_empty v u =
    ⊎_elim
    (λ (l : v < 64). ap (λ z. in_set z u) (zero_at 64 v) ∙ in_none u)
    (λ (g : 64 ≤ v). in_past (replicate 64 0) v u g)
    (cases_lt v 64)
  where
    zero_at : (n k : ℕ) → get_or {A = ℕ} (replicate n 0) k 0 ≡ 0
    zero_at zero zero = refl
    zero_at zero (suc k) = refl
    zero_at (suc n) zero = refl
    zero_at (suc n) (suc k) = zero_at n k
