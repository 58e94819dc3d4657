-- What two tables that are gone through side by side come to.
use Rattle.std.specs.Prelude.{◌<◌, ◌+◌, ◌≡◌, ℤ, pos, ◌+ℤ◌, ◌-ℤ◌, ◌≤ℤ◌, [], ◌∷◌, length}
use Rattle.std.specs.List.{AllByRecursion}
use Rattle.wh_row.specs.Bag.{Bag, count}
use Rattle.wh_row.specs.Records.{EachSumFits}
use Rattle.wh_row.specs.Row.{Row}
use Rattle.wh_row.specs.Weigh.{Counted, count_in}

-- no row counts below zero
abbrev pub AreNotNegative : Counted → Type 0
AreNotNegative = AllByRecursion (λ (e : Row × ℤ). pos 0 ≤ℤ e.1)

-- these are rows of those, with no more of each
pub record AreRest (rest rows : Counted) : Type 0 where
  pub counts : AreNotNegative rest
  pub within : (q : Row) → count_in rest q ≤ℤ count_in rows q

-- one row of the new table, of the old one or of both is passed over, and this row counts so much more in the new one
pub record IsStep (e : Row × ℤ) (coming coming_after leaving leaving_after : Counted) : Type 0 where
  pub moved : (q : Row) → count_in (e ∷ []) q +ℤ (count_in coming_after q -ℤ count_in leaving_after q) ≡ count_in coming q -ℤ count_in leaving q
  pub coming_rest : AreRest coming_after coming
  pub leaving_rest : AreRest leaving_after leaving
  pub fewer : length coming_after + length leaving_after < length coming + length leaving

-- what was found so far, with what is still to come of the new table and of the old one, is what each row counts more in the new one
pub record IsUnderway (new old : Bag) (changed coming leaving : Counted) : Type 0 where
  pub moved : (q : Row) → count_in changed q +ℤ (count_in coming q -ℤ count_in leaving q) ≡ count new q -ℤ count old q
  pub coming_counts : AreNotNegative coming
  pub leaving_counts : AreNotNegative leaving
  pub coming_within : (q : Row) → count_in coming q ≤ℤ count new q
  pub leaving_within : (q : Row) → count_in leaving q ≤ℤ count old q
  pub fits : EachSumFits changed
