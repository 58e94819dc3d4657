-- Other sums at rows where there are none.
use Rattle.std.specs.Prelude.{◌≡◌, ◌≢◌, pos}
use Rattle.wh_row.specs.Row.{Row}
use Rattle.wh_row.specs.Bag.{Bag, count}

-- of other sums, exactly those at rows where there are none
pub record AreNewRows (sums others new : Bag) : Type 0 where
  pub there : (row : Row) → count sums row ≡ pos 0 → count new row ≡ count others row
  pub none : (row : Row) → count sums row ≢ pos 0 → count new row ≡ pos 0
