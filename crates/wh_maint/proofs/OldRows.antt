-- The old row of a group, found or missed in a fit table.
use Rattle.std.proofs.Common.{◌≡◌, ◌≢◌, ℕ, suc, ap, ◌∙◌, ℤ, pos, negsuc, ◌+ℤ◌, zero, false, [], ◌∷◌, ◌++◌, arith}
use Rattle.std.specs.Prelude.{◌≤ℤ◌}
use Rattle.std.proofs.lemmas.Int.{ints}
use Rattle.wh_row.specs.Row.{Row, is_row}
use Rattle.wh_row.specs.Bag.{Bag, count}
use Rattle.wh_row.proofs.BagLaws.{count-sum_of, each_entry}
use Rattle.wh_maint.specs.Summary.{cells, if_positive, group_row, group_of, cell_of, read_back, new_accumulators}
use Rattle.wh_maint.specs.Fit.{IsSummaryTable}
use Rattle.wh_maint.specs.Inner.Finishing.{HasNoRow}
use Rattle.wh_maint.proofs.FitTables.{told, row_told, told_none}
use lib.IntN.{+ℤ_idl}

positive_row_is : (n : ℤ) (r s : Row) → pos 1 ≤ℤ n → r ≡ s → if_positive n r ≡ (s, pos 1) ∷ []
positive_row_is (pos zero) r s l e = absurd (omega (arith, ints))
positive_row_is (pos (suc n)) r s l e = λ i. (e i, pos 1) ∷ []
positive_row_is (negsuc n) r s l e = absurd (omega (arith, ints))

-- a row of a fit table is the old row of its group
pub old_row : (sums : ℕ) (table : Bag) → IsSummaryTable sums table → (row : Row) → count table row ≢ pos 0
    → group_row sums (read_back sums table) (group_of sums row) ≡ (row, pos 1) ∷ []
old_row sums table fit row n =
    ap (λ m. if_positive m (group_of sums row ++ cells sums (read_back sums table) (group_of sums row))) (told sums table fit row n 0)
    ∙ positive_row_is (cell_of sums 0 row) (group_of sums row ++ cells sums (read_back sums table) (group_of sums row)) row (fit.positive row n) (row_told sums table fit row n)

-- and the new accumulators of its group are its cells and what is pending
pub new_told : (sums : ℕ) (table : Bag) (pending : ℕ → Bag) → IsSummaryTable sums table → (row : Row) → count table row ≢ pos 0 → (j : ℕ)
    → count (new_accumulators sums table pending j) (group_of sums row) ≡ cell_of sums j row +ℤ count (pending j) (group_of sums row)
new_told sums table pending fit row n j =
    count-sum_of (read_back sums table j) (pending j) (group_of sums row) ∙ ap (λ z. z +ℤ count (pending j) (group_of sums row)) (told sums table fit row n j)

-- a group without a row has no old accumulators
pub none_old : (sums : ℕ) (table : Bag) (group : Row) → HasNoRow sums table group → (j : ℕ) → count (read_back sums table j) group ≡ pos 0
none_old sums table group none j = told_none sums table j group (each_entry (λ row _. is_row group (group_of sums row) ≡ false) table none)

-- no old row
pub no_old_row : (sums : ℕ) (table : Bag) (group : Row) → HasNoRow sums table group → group_row sums (read_back sums table) group ≡ []
no_old_row sums table group none = ap (λ m. if_positive m (group ++ cells sums (read_back sums table) group)) (none_old sums table group none 0)

-- and as its new ones what is pending
pub new_alone : (sums : ℕ) (table : Bag) (pending : ℕ → Bag) (group : Row) → HasNoRow sums table group → (j : ℕ)
    → count (new_accumulators sums table pending j) group ≡ count (pending j) group
new_alone sums table pending group none j =
    count-sum_of (read_back sums table j) (pending j) group ∙ ap (λ z. z +ℤ count (pending j) group) (none_old sums table group none j) ∙ +ℤ_idl _
