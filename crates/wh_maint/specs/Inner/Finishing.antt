-- What is said of a summary's rows while its change is made: what only proofs and private contracts use.
use Rattle.std.specs.Prelude.{◌≡◌, ◌≢◌, ℕ, zero, suc, ◌<◌, Bool, true, false, ◌||◌, cond, ℤ, pos, ◌+ℤ◌, ◌≤ℤ◌, List, [], ◌∷◌, ◌++◌, map, length, Option, Some, None, FitsSigned}
use Rattle.std.specs.Int.{w64}
use Rattle.std.specs.Borrow.{Bor}
use Rattle.std.specs.List.{range_with_len}
use Rattle.std.specs.Global.{Vec}
use Rattle.wh_row.specs.Row.{Row, is_row}
use Rattle.wh_row.specs.Weigh.{Counted}
use Rattle.wh_row.specs.Bag.{Bag, count}
use Rattle.wh_maint.specs.Comp.{bag_at}
use Rattle.wh_maint.specs.Summary.{if_positive, group_of, cell_of, new_accumulators, is_nonzero, summary_change}
use Rattle.wh_maint.specs.Value.{GroupSumsFit}

-- the old row of a group, if it has one, has its cells after the group; else each is 0
abbrev pub cell_before : ℕ → Option (Bor (List ℤ)) → ℕ → ℤ
cell_before sums None j = pos 0
cell_before sums (Some row) j = cell_of sums j row.now

-- a row that is there has a count and all sums
abbrev pub IsWide : ℕ → Option (Bor (List ℤ)) → Type 0
IsWide sums None = Unit {0}
IsWide sums (Some row) = sums < length row.now

-- the cells of the group's new row
abbrev pub cell_after : ℕ → List Bag → Option (Bor (List ℤ)) → Row → ℕ → ℤ
cell_after sums columns old group j = cell_before sums old j +ℤ count (bag_at columns j) group

-- each sum of the new row is an i64
abbrev pub AfterFits : ℕ → List Bag → Option (Bor (List ℤ)) → Row → Type 0
AfterFits sums columns old group = pos 1 ≤ℤ cell_after sums columns old group 0 → (j : ℕ) → j < sums → FitsSigned w64 (cell_after sums columns old group (suc j))

-- the group's new row
abbrev pub row_after : ℕ → List Bag → Option (Bor (List ℤ)) → Row → Counted
row_after sums columns old group = if_positive (cell_after sums columns old group 0) (group ++ map (cell_after sums columns old group) (range_with_len 0 (suc sums)))

-- its old row
abbrev pub row_before : Option (Bor (List ℤ)) → Counted
row_before None = []
row_before (Some row) = (row.now, pos 1) ∷ []

-- a row that was made, once, if it was
abbrev pub made_row : Option (Vec ℤ) → Counted
made_row None = []
made_row (Some row) = (row.items, pos 1) ∷ []

-- no row of the table is of this group
abbrev pub HasNoRow : ℕ → Bag → Row → Type 0
HasNoRow sums table group = (row : Row) → count table row ≢ pos 0 → is_row group (group_of sums row) ≡ false

-- the old row is the table's row of the group, and there is none where the table has none
abbrev pub IsOldRow : ℕ → Bag → Row → Option (Bor (List ℤ)) → Type 0
IsOldRow sums table group None = HasNoRow sums table group
IsOldRow sums table group (Some row) = (count table row.now ≢ pos 0) × (group_of sums row.now ≡ group)

-- each new sum of the group is an i64, if its new count is positive
abbrev pub GroupHasValue : ℕ → Bag → (ℕ → Bag) → Row → Type 0
GroupHasValue sums table pending group =
    pos 1 ≤ℤ count (new_accumulators sums table pending 0) group → GroupSumsFit sums (new_accumulators sums table pending) group

-- the new count of the group is an i64
abbrev pub GroupCountFits : ℕ → Bag → (ℕ → Bag) → Row → Type 0
GroupCountFits sums table pending group = FitsSigned w64 (count (new_accumulators sums table pending 0) group)

-- so is that of each group that stands in this column of the pending accumulators
abbrev pub CountsFitIn : ℕ → Bag → (ℕ → Bag) → ℕ → Type 0
CountsFitIn sums table pending column = (group : Row) → count (pending column) group ≢ pos 0 → GroupCountFits sums table pending group

-- the group stands in one of the first columns of the pending accumulators, so many
abbrev pub stands_within : ℕ → (ℕ → Bag) → Row → Bool
stands_within zero pending group = false
stands_within (suc n) pending group = stands_within n pending group || is_nonzero (count (pending n) group)

-- one more group
abbrev pub with_group : Row → (Row → Bool) → Row → Bool
with_group group done g = is_row g group || done g

-- what changes in the groups that are done stands in the bag, and nothing else does
pub record AreMade (sums : ℕ) (table : Bag) (pending : ℕ → Bag) (done : Row → Bool) (change : Bag) : Type 0 where
  pub changed : (row : Row) → count change row ≡ cond (done (group_of sums row)) (count (summary_change sums table pending) row) (pos 0)
  pub valued : (group : Row) → done group ≡ true → GroupHasValue sums table pending group
