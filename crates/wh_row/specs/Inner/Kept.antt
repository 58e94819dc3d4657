-- What a bag keeps of its counts, so that no row is walked through for it.
use Rattle.std.specs.Prelude.{◌≡◌, ℕ, ℤ, pos, negsuc, List}
use Rattle.std.specs.List.{sum_by}
use Rattle.wh_row.specs.declared.kept.Kept.{Kept}
use Rattle.wh_row.specs.Weigh.{Counted}
use Rattle.wh_row.specs.Bag.{Bag, size, written}
use Rattle.wh_row.specs.Stored.{from_counts}
use Rattle.wh_row.specs.Inner.Stored.{AreCounts}
use Rattle.wh_row.specs.Keyed.{KeyedOf}
use Rattle.wh_row.specs.Inner.Keyed.{AreKeyed}

-- 1 for a number below zero, else 0
abbrev pub one_below : ℤ → ℕ
one_below (pos n) = 0
one_below (negsuc n) = 1

-- how many rows count below zero
abbrev pub rows_below : Bag → ℕ
rows_below b = sum_by (λ e. one_below e.1) (written b)

-- the sum of the absolute counts, and how many of them are below zero
pub record IsKeptOf (b : Bag) (kept : Kept) : Type 0 where
  pub total : kept.total ≡ size b
  pub below : kept.below ≡ rows_below b

-- the numbers are counts, and these are kept of them
pub record AreKept (es : Counted) (kept : Kept) : Type 0 where
  pub counts : AreCounts es
  pub of_bag : IsKeptOf (from_counts es) kept

-- a bag has these counts, this kept of them, and these of its rows behind their keys
pub record IsStored (es : Counted) (sums : Kept) (laid : List KeyedOf) : Type 0 where
  pub kept : AreKept es sums
  pub keyed : AreKeyed (from_counts es) laid
