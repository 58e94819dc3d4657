-- Tables that are fit for a night: what only proofs and private contracts use.
use Rattle.std.specs.Prelude.{◌≡◌, ℕ, ◌<◌, pos, ◌≤ℤ◌, ℤ, length}
use Rattle.wh_row.specs.Row.{Row}
use Rattle.wh_maint.specs.Summary.{cell_of}

-- a row of a summary: it has a count and all sums, stands once, and its group counts
pub record IsSummaryRow (sums : ℕ) (row : Row) (count : ℤ) : Type 0 where
  pub wide : sums < length row
  pub once : count ≡ pos 1
  pub positive : pos 1 ≤ℤ cell_of sums 0 row
