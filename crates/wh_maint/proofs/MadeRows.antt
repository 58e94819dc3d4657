-- Rows that are made cell by cell.
use Rattle.std.proofs.Common.{◌≡◌, ℕ, zero, suc, ◌+◌, ◌-◌, ◌<◌, refl, sym, ap, subst, ◌∙◌, ℤ, pos, negsuc, ◌+ℤ◌, true, false, cond, List, [], ◌∷◌, ◌++◌, map, length, take, inl, inr, Option, arith, append_assoc, length-append}
use Rattle.std.specs.Prelude.{FitsSigned}
use Rattle.std.specs.Int.{w64}
use Rattle.std.specs.Borrow.{Bor}
use Rattle.std.specs.List.{range_with_len}
use Rattle.std.proofs.lemmas.Int.{ints}
use Rattle.std.proofs.lemmas.Bool.{cases_order}
use Rattle.std.proofs.lemmas.List.FromFn.{length-map-range_with_len}
use Rattle.wh_row.specs.Row.{Row, is_row}
use Rattle.wh_row.specs.Weigh.{Counted, count_in}
use Rattle.wh_row.specs.Bag.{Bag}
use Rattle.wh_row.proofs.BagLaws.{count_in-append}
use Rattle.wh_maint.specs.Summary.{if_positive, group_of}
use Rattle.wh_maint.specs.Inner.Finishing.{cell_after, row_after}

-- one more cell
one_more : (f : ℕ → ℤ) (n a : ℕ) → map f (range_with_len a (suc n)) ≡ map f (range_with_len a n) ++ f (a + n) ∷ []
one_more f zero a =
    let e : a ≡ a + 0 = omega arith in
    ap (λ z. f z ∷ []) e
one_more f (suc n) a =
    let e : (a + 1) + n ≡ a + suc n = omega arith in
    ap (λ l. f a ∷ l) (one_more f n (a + 1)) ∙ ap (λ z. f a ∷ (map f (range_with_len (a + 1) n) ++ f z ∷ [])) e

pub next_cells : (f : ℕ → ℤ) (front row more : Row) (n m : ℕ) (z : ℤ) → row ≡ front ++ map f (range_with_len 0 n) → more ≡ row ++ z ∷ [] → z ≡ f n → m ≡ suc n
    → more ≡ front ++ map f (range_with_len 0 m)
next_cells f front row more n m z e pushed is next =
    let there : 0 + n ≡ n = omega arith in
    pushed ∙ (λ i. e i ++ is i ∷ []) ∙ append_assoc front (map f (range_with_len 0 n)) (f n ∷ [])
    ∙ ap (λ l. front ++ l) (ap (λ k. map f (range_with_len 0 n) ++ f k ∷ []) (sym there) ∙ sym (one_more f n 0))
    ∙ ap (λ k. front ++ map f (range_with_len 0 k)) (sym next)

pub next_fits : (f : ℕ → ℤ) (n : ℕ) → FitsSigned w64 (f (suc n)) → ((j : ℕ) → j < n → FitsSigned w64 (f (suc j))) → (j : ℕ) → j < n + 1 → FitsSigned w64 (f (suc j))
next_fits f n here below j l =
    elim (cases_order n j) as (λ _. FitsSigned w64 (f (suc j))) [
      | inl s ↦ subst (λ k. FitsSigned w64 (f (suc k))) s here
      | inr s ↦ below j (omega arith)
    ]

-- ---- the row of a group

take_all : (g c : Row) → take (length g) (g ++ c) ≡ g
take_all [] c = refl
take_all (x ∷ g) c = ap (λ l. x ∷ l) (take_all g c)

front_of : (k : ℕ) (g c : Row) → length c ≡ suc k → length (g ++ c) - suc k ≡ length g
front_of k g c e = omega (arith, length-append g c)

group_front : (k : ℕ) (f : ℕ → ℤ) (g : Row) → group_of k (g ++ map f (range_with_len 0 (suc k))) ≡ g
group_front k f g =
    let c : Row = map f (range_with_len 0 (suc k)) in
    ap (λ n. take n (g ++ c)) (front_of k g c (length-map-range_with_len f 0 (suc k))) ∙ take_all g c

is_made : (n : ℤ) (r s : Row) → (r, pos 1) ∷ [] ≡ if_positive n s → r ≡ s
is_made (pos zero) r s e = absurd (omega (arith, ap length e))
is_made (pos (suc n)) r s e = ap (λ es. first_row es) e
  where
    first_row : List (Row × ℤ) → Row
    first_row [] = []
    first_row (x ∷ xs) = x.0
is_made (negsuc n) r s e = absurd (omega (arith, ap length e))

-- the new row of a group is of this group
pub made_group : (sums : ℕ) (columns : List Bag) (old : Option (Bor (List ℤ))) (g r : Row) → (r, pos 1) ∷ [] ≡ row_after sums columns old g → group_of sums r ≡ g
made_group sums columns old g r e = ap (group_of sums) (is_made _ r _ e) ∙ group_front sums (cell_after sums columns old g) g

pub fits_one : (n : ℤ) → n ≡ pos 0 → FitsSigned w64 (n +ℤ pos 1)
fits_one n e = omega (arith, ints)

-- a row counts once in it at most
pub once_at_most : (n : ℤ) (s q : Row) (m : ℤ) → m ≡ pos 0 → FitsSigned w64 ((count_in (if_positive n s) q +ℤ m) +ℤ negsuc 0)
once_at_most (pos zero) s q m e = omega (arith, ints)
once_at_most (pos (suc n)) s q m e =
    elim (is_row q s) as (λ t. FitsSigned w64 (((cond t (pos 1) (pos 0) +ℤ pos 0) +ℤ m) +ℤ negsuc 0)) [
      | true ↦ omega (arith, ints)
      | false ↦ omega (arith, ints)
    ]
once_at_most (negsuc n) s q m e = omega (arith, ints)

sum_turned : (n m b x y : ℤ) → n ≡ y +ℤ m → m ≡ x +ℤ b → n ≡ b +ℤ (x +ℤ y)
sum_turned n m b x y e f = omega (arith, ints)

pub both_added : (n m b : ℤ) (es fs : Counted) (q : Row) → n ≡ count_in fs q +ℤ m → m ≡ count_in es q +ℤ b → n ≡ b +ℤ count_in (es ++ fs) q
both_added n m b es fs q e f = sum_turned n m b (count_in es q) (count_in fs q) e f ∙ ap (λ z. b +ℤ z) (sym (count_in-append es fs q))
