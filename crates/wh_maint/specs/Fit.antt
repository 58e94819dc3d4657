-- Tables that are fit for a night.
use Rattle.std.specs.Prelude.{◌≡◌, ◌≢◌, ℕ, ◌<◌, pos, negsuc, ◌+ℤ◌, ◌≤ℤ◌, length}
use Rattle.std.specs.declared.cmp.Ordering.TheVariants.{Less}
use Rattle.wh_row.specs.Row.{Row, row_cmp}
use Rattle.wh_row.specs.Bag.{Bag, count, empty, IsTable}
use Rattle.wh_maint.specs.View.{Kind, Joined, Summed}
use Rattle.wh_maint.specs.Summary.{group_of, cell_of}

-- each row of a summary has a count and all sums, stands once, alone of its group, and has a positive group count
pub record IsSummaryTable (sums : ℕ) (table : Bag) : Type 0 where
  pub wide : (row : Row) → count table row ≢ pos 0 → sums < length row
  pub once : (row : Row) → count table row ≢ pos 0 → count table row ≡ pos 1
  pub one_per_group : (row other : Row) → count table row ≢ pos 0 → count table other ≢ pos 0 → group_of sums row ≡ group_of sums other → row ≡ other
  pub positive : (row : Row) → count table row ≢ pos 0 → pos 1 ≤ℤ cell_of sums 0 row

-- a table is fit where no count is negative and, of a summary, its rows are as a summary has them
abbrev pub IsFitTable : Kind → Bag → Type 0
IsFitTable Joined table = IsTable table
IsFitTable (Summed sums) table = IsTable table × IsSummaryTable sums table

-- the groups of a table are to be told apart: it is a summary's, and has rows
abbrev pub HasGroups : Kind → Bag → Type 0
HasGroups Joined table = ⊥
HasGroups (Summed sums) table = table ≢ empty

-- a change takes more of a row than the table has
abbrev pub IsAbsent : Bag → Bag → Row → Type 0
IsAbsent table change row = (count table row +ℤ count change row) ≤ℤ negsuc 0

-- this is the first row, in the order of rows, of which a change takes more than the table has
pub record IsFirstAbsent (table change : Bag) (first : Row) : Type 0 where
  pub absent : IsAbsent table change first
  pub others : (row : Row) → row_cmp row first ≡ Less → ¬ (IsAbsent table change row)
