-- Records that are added up to a bag: what only proofs and private contracts use.
use Rattle.std.specs.Prelude.{◌≡◌}
use Rattle.wh_row.specs.Row.{Row}
use Rattle.wh_row.specs.Weigh.{Counted, count_in}
use Rattle.wh_row.specs.Bag.{Bag, count}
use Rattle.wh_row.specs.Records.{EachSumFits}

-- the bag is the sum of these records, and no sum on the way leaves i64
pub record AreAddedUp (records : Counted) (b : Bag) : Type 0 where
  pub counted : (row : Row) → count b row ≡ count_in records row
  pub fits : EachSumFits records
