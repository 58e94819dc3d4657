-- Tables as their readers see them: rows in rising order, each with its count, a page at a time.
use Rattle.std.specs.Prelude.{ℕ, ℤ, pos, Bool, true, nat_le, int_le, ◌&&◌, List, [], ◌∷◌, length, take, filter, Option, Some, None}
use Rattle.std.specs.Ordering.{is_lt}
use Rattle.wh_row.specs.Bag.{Bag, written}
use Rattle.wh_row.specs.Row.{Row, row_cmp}
use Rattle.wh_row.specs.Weigh.{Counted}
-- the table in which rows have new counts, one after another
pub use Rattle.wh_versions.specs.Tables.{with_counts}

-- the tables of all views, by their numbers
abbrev pub Contents : Type 0
Contents = List Bag

-- the row stands after this one; every row stands after none
abbrev pub is_row_after : Option Row → Row → Bool
is_row_after None row = true
is_row_after (Some before) row = is_lt (row_cmp before row)

abbrev pub is_after : Option Row → Row × ℤ → Bool
is_after after e = is_row_after after e.0

-- the rows of a table after this one, in rising order, each with its count
abbrev pub rows_after : Bag → Option Row → Counted
rows_after table after = filter (is_after after) (written table)

-- what a reader is shown of a table: some rows with their counts, and whether none follows
pub record Shown : Type 0 where
  pub rows : Counted
  pub last : Bool

-- the first rows of a table after this one
abbrev pub page_of : Bag → Option Row → ℕ → Shown
page_of table after limit =
    record { rows = take limit (rows_after table after); last = nat_le (length (rows_after table after)) limit }

-- each row stands after this one and before the next
abbrev pub rises_after : Option Row → Counted → Bool
rises_after after [] = true
rises_after after (e ∷ es) = is_after after e && rises_after (Some e.0) es

-- no count is below zero
abbrev pub count_no_less : Counted → Bool
count_no_less [] = true
count_no_less (e ∷ es) = int_le (pos 0) e.1 && count_no_less es

-- new counts that one operation may write: of 1 to 256 rows, rising, none of them below zero
abbrev pub is_page : Counted → Bool
is_page rows = nat_le 1 (length rows) && nat_le (length rows) 256 && rises_after None rows && count_no_less rows
