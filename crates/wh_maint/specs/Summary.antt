-- The table of a summary: what accumulators show, what a table tells of them, and how it changes.
use Rattle.std.specs.Prelude.{ℕ, zero, suc, ◌-◌, ◌+◌, ℤ, pos, negsuc, ◌*ℤ◌, Bool, true, false, [], ◌∷◌, ◌++◌, map, length, take, slice_index_or}
use Rattle.std.specs.List.{flat_map, filter, list_any, range_with_len}
use Rattle.wh_row.specs.Row.{Row}
use Rattle.wh_row.specs.Weigh.{Counted}
use Rattle.wh_row.specs.Bag.{Bag, bag_of, written, sum_of, difference_of, count}
use Rattle.wh_maint.specs.View.{Kind, Joined, Summed}

-- Accumulators are a bag for each column of a view: of a summary, column 0 has each group's count and column j + 1 its sum j.

-- the count and the sums of a group
abbrev pub cells : ℕ → (ℕ → Bag) → Row → Row
cells sums accumulators group = map (λ j. count (accumulators j) group) (range_with_len 0 (suc sums))

-- the row once where the number is above 0, else none
abbrev pub if_positive : ℤ → Row → Counted
if_positive (pos zero) row = []
if_positive (pos (suc n)) row = (row, pos 1) ∷ []
if_positive (negsuc n) row = []

-- the row of a group: its cells, its count and its sums; none where its count is not above 0
abbrev pub group_row : ℕ → (ℕ → Bag) → Row → Counted
group_row sums accumulators group = if_positive (count (accumulators 0) group) (group ++ cells sums accumulators group)

-- the bag of the rows of all groups
abbrev pub summary : ℕ → (ℕ → Bag) → Bag
summary sums accumulators = bag_of (flat_map {X = Row × ℤ} (λ e. group_row sums accumulators e.0) (written (accumulators 0)))

-- the table that accumulators show: of a joined view the rows as they count, of a summary the rows of its groups
abbrev pub shown : Kind → (ℕ → Bag) → Bag
shown Joined accumulators = accumulators 0
shown (Summed sums) accumulators = summary sums accumulators

-- the group of a summary's row: all but its count and sums, which stand last
abbrev pub group_of : ℕ → Row → Row
group_of sums row = take (length row - suc sums) row

-- the cells after the group: cell 0 is the count, cell j + 1 is sum j
abbrev pub cell_of : ℕ → ℕ → Row → ℤ
cell_of sums j row = slice_index_or row ((length row - suc sums) + j) (pos 0)

-- the accumulators that a summary's table tells
abbrev pub read_back : ℕ → Bag → ℕ → Bag
read_back sums table j = bag_of (map {A = Row × ℤ} {B = Row × ℤ} (λ e. (group_of sums e.0, e.1 *ℤ cell_of sums j e.0)) (written table))

-- the old accumulators and the pending ones together
abbrev pub new_accumulators : ℕ → Bag → (ℕ → Bag) → ℕ → Bag
new_accumulators sums table pending j = sum_of (read_back sums table j) (pending j)

-- the number is not 0
abbrev pub is_nonzero : ℤ → Bool
is_nonzero (pos zero) = false
is_nonzero (pos (suc n)) = true
is_nonzero (negsuc n) = true

-- the group stands in the pending accumulators
abbrev pub is_touched : ℕ → (ℕ → Bag) → Row → Bool
is_touched sums pending group = list_any (λ j. is_nonzero (count (pending j) group)) (range_with_len 0 (suc sums))

-- for each touched group the row of the new accumulators, less the old row; nothing for the other groups
abbrev pub summary_change : ℕ → Bag → (ℕ → Bag) → Bag
summary_change sums table pending =
    bag_of (filter (λ e. is_touched sums pending (group_of sums e.0)) (written (difference_of (summary sums (new_accumulators sums table pending)) table)))

-- the change of a view: of a joined view the pending rows themselves, of a summary what its touched groups change
abbrev pub change_of : Kind → Bag → (ℕ → Bag) → Bag
change_of Joined table pending = pending 0
change_of (Summed sums) table pending = summary_change sums table pending
