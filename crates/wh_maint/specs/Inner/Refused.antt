-- Why changes are refused: what only proofs and private contracts use.
use Rattle.std.specs.Prelude.{◌≡◌, ◌≤ℤ◌, negsuc}
use Rattle.std.specs.declared.cmp.Ordering.TheVariants.{Less}
use Rattle.wh_row.specs.Row.{Row, row_cmp}
use Rattle.wh_row.specs.Bag.{Bag, count}
use Rattle.wh_maint.specs.Fit.{IsAbsent}

-- it takes too much of this row, and of no row below it that counts below zero in the first of the two bags
pub record IsFirstAbsentIn (bag other : Bag) (first : Row) : Type 0 where
  pub absent : IsAbsent bag other first
  pub others : (row : Row) → row_cmp row first ≡ Less → count bag row ≤ℤ negsuc 0 → ¬ (IsAbsent bag other row)
