-- What a version shows of rows, row by row, and pages of it.
use Rattle.std.proofs.Common.{◌≡◌, ◌≢◌, refl, sym, ap, subst, ◌∙◌, ℕ, zero, suc, ◌<◌, ◌≤◌, ℤ, pos, List, [], ◌∷◌, ◌++◌, length, take, true, false, cond, arith, Result, Ok, Err, OnErr}
use Rattle.std.specs.Prelude.{not}
use Rattle.std.specs.Ordering.{int_eq, is_lt}
use Rattle.wh_pieces.specs.Row.{Row, row_cmp}
use Rattle.wh_pieces.specs.Pieces.{above as above_in}
use Rattle.wh_row.specs.Weigh.{Counted, above}
use Rattle.wh_versions.specs.Rows.{Pairs, read}
use Rattle.wh_versions.specs.Pages.{shown_of}
use Rattle.wh_versions.proofs.TableLaws.{same_int, other_int, no_int}

-- ---- one row

pub passed_by : (s : ℕ) (e : Row × Pairs) (es : List (Row × Pairs)) → read s e.1 ≡ pos 0 → shown_of s (e ∷ es) ≡ shown_of s es
passed_by s e es z = ap (λ (n : ℤ). cond (not (int_eq n (pos 0))) ((e.0, n) ∷ shown_of s es) (shown_of s es)) z

pub taken : (s : ℕ) (e : Row × Pairs) (es : List (Row × Pairs)) → read s e.1 ≢ pos 0 → shown_of s (e ∷ es) ≡ (e.0, read s e.1) ∷ shown_of s es
taken s e es some = ap (λ b. cond (not b) ((e.0, read s e.1) ∷ shown_of s es) (shown_of s es)) (no_int (read s e.1) (pos 0) some)

-- ---- those above a row

pub above_shown : (row : Row) (s : ℕ) (es : List (Row × Pairs)) → shown_of s (above_in row es) ≡ above row (shown_of s es)
above_shown row s [] = refl
above_shown row s (e ∷ es) = elim (int_eq (read s e.1) (pos 0)) as (λ b. int_eq (read s e.1) (pos 0) ≡ b → shown_of s (above_in row (e ∷ es)) ≡ above row (shown_of s (e ∷ es))) [
  | true ↦ λ b.
      let none = same_int (read s e.1) (pos 0) b in
      elim (is_lt (row_cmp row e.0)) as (λ a. shown_of s (cond a (e ∷ above_in row es) (above_in row es)) ≡ above row (shown_of s es)) [
        | true ↦ passed_by s e (above_in row es) none ∙ above_shown row s es
        | false ↦ above_shown row s es
      ] ∙ ap (above row) (sym (passed_by s e es none))
  | false ↦ λ b.
      let some = other_int (read s e.1) (pos 0) b in
      let x : Row × ℤ = (e.0, read s e.1) in
      elim (is_lt (row_cmp row e.0)) as (λ a. shown_of s (cond a (e ∷ above_in row es) (above_in row es)) ≡ cond a (x ∷ above row (shown_of s es)) (above row (shown_of s es))) [
        | true ↦ taken s e (above_in row es) some ∙ ap (λ (xs : Counted). x ∷ xs) (above_shown row s es)
        | false ↦ above_shown row s es
      ] ∙ ap (above row) (sym (taken s e es some))
] refl

-- ---- the first of them

-- one is to be taken
pub page_lacks : (limit : ℕ) (xs ys all : Counted) (y : Row × ℤ) → length xs ≤ limit → length xs ≢ limit → xs ++ y ∷ ys ≡ all → take limit all ≢ []
page_lacks limit xs ys all y h other parts = subst (λ (zs : Counted). take limit zs ≢ []) parts (some limit xs (omega (arith, h, other)))
  where
    some : (limit : ℕ) (xs : Counted) → 0 < limit → take limit (xs ++ y ∷ ys) ≢ []
    some zero xs l = absurd (omega (arith, l))
    some (suc limit) [] l = λ e. cc
    some (suc limit) (x ∷ xs) l = λ e. cc

pub told : {A E P : Type 0} → P → (r : Result A E) → OnErr r P
told p (Ok x) = tt
told p (Err x) = p
