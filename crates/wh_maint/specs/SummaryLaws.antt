-- What summaries keep: their tables tell their accumulators, and their changes are the differences of their rows.
use Rattle.std.specs.Prelude.{◌≡◌, ◌≢◌, ◌↔◌, ℕ, suc, ◌<◌, true, false, ℤ, pos, List, ◌++◌, map, length, take}
use Rattle.std.specs.List.{flat_map}
use Rattle.std.specs.declared.cmp.Ordering.TheVariants.{Greater}
use Rattle.wh_dag.specs.Shape.{has}
use Rattle.wh_row.specs.Row.{Row, row_cmp}
use Rattle.wh_row.specs.Weigh.{Counted, negated}
use Rattle.wh_row.specs.Bag.{Bag, IsTable, bag_of, written, sum_of, difference_of, count}
use Rattle.wh_maint.specs.View.{View, Summed}
use Rattle.wh_maint.specs.Summary.{group_row, summary, read_back, new_accumulators, is_touched, summary_change, change_of}
use Rattle.wh_maint.specs.Value.{accumulators, view_value}
use Rattle.wh_maint.specs.Fit.{IsSummaryTable, IsFitTable}

-- a fit table of a summary is what its own rows tell, and such a table is fit
abbrev pub FitIsToldByRows : Type 0
FitIsToldByRows = (sums : ℕ) (table : Bag) → IsSummaryTable sums table ↔ (table ≡ summary sums (read_back sums table))

-- no group counts below 0, and one that counts 0 has no sums
pub record AreDetermined (accumulators : ℕ → Bag) : Type 0 where
  pub counts : IsTable (accumulators 0)
  pub sums : (j : ℕ) (group : Row) → count (accumulators 0) group ≡ pos 0 → count (accumulators j) group ≡ pos 0

-- the table of some accumulators is fit and tells them
pub record ShowsAccumulators (sums : ℕ) (accumulators : ℕ → Bag) : Type 0 where
  pub fit : IsFitTable (Summed sums) (summary sums accumulators)
  pub told : (j : ℕ) → j < suc sums → read_back sums (summary sums accumulators) j ≡ accumulators j

-- the table of all accumulators that are determined is fit and tells them
abbrev pub SummariesShowAccumulators : Type 0
SummariesShowAccumulators = (sums : ℕ) (accumulators : ℕ → Bag) → AreDetermined accumulators → ShowsAccumulators sums accumulators

-- the accumulators of a view are determined, and its value is a fit table
pub record IsFitView (v : View) (tables : List Bag) : Type 0 where
  pub determined : AreDetermined (accumulators v tables)
  pub fit : IsFitTable v.kind (view_value v tables)

-- over tables without negative counts, the accumulators of a view are determined, and its value is a fit table
abbrev pub ValuesAreFit : Type 0
ValuesAreFit =
    (v : View) (children : List ℕ) (tables : ℕ → Bag) → ((u : ℕ) → has children u ≡ true → IsTable (tables u)) → IsFitView v (map tables children)

-- a fit table with the change of its pending accumulators is the table of the new accumulators
abbrev pub ChangesAreWhole : Type 0
ChangesAreWhole =
    (sums : ℕ) (table : Bag) (pending : ℕ → Bag) → IsSummaryTable sums table
    → sum_of table (summary_change sums table pending) ≡ summary sums (new_accumulators sums table pending)

-- where each pending column is what the column gains from the old tables to the new ones, the change of the view is what its value gains
abbrev pub ChangesAreDifferences : Type 0
ChangesAreDifferences =
    (v : View) (children : List ℕ) (old new : ℕ → Bag) (pending : ℕ → Bag) → ((u : ℕ) → has children u ≡ true → IsTable (old u))
    → ((j : ℕ) → pending j ≡ difference_of (accumulators v (map new children) j) (accumulators v (map old children) j))
    → change_of v.kind (view_value v (map old children)) pending ≡ difference_of (view_value v (map new children)) (view_value v (map old children))

-- the new row of a group, and its old row taken out
abbrev pub row_change : ℕ → Bag → (ℕ → Bag) → Row → Counted
row_change sums table pending group = group_row sums (new_accumulators sums table pending) group ++ negated (group_row sums (read_back sums table) group)

-- the change may be made group by group, over any groups that have all touched ones among them
abbrev pub ChangesGoByGroups : Type 0
ChangesGoByGroups =
    (sums : ℕ) (table : Bag) (pending : ℕ → Bag) (groups : Bag) → IsSummaryTable sums table
    → ((group : Row) → count groups group ≡ pos 0 → is_touched sums pending group ≡ false)
    → summary_change sums table pending ≡ bag_of (flat_map {X = Row × ℤ} (λ e. row_change sums table pending e.0) (written groups))

-- Between a group and a row of it stand rows of that group alone. So the first row that is not below the group is one of its rows, if it
-- has any
abbrev pub GroupsStandTogether : Type 0
GroupsStandTogether = (group cells row : Row) → row_cmp group row ≢ Greater → row_cmp row (group ++ cells) ≢ Greater → take (length group) row ≡ group
