-- The rows of columns, tables and changes have their widths.
use Rattle.std.proofs.Common.{◌≡◌, ◌≢◌, ℕ, zero, suc, ◌+◌, ◌-◌, ◌≤◌, refl, ap, ◌∙◌, ℤ, pos, ◌+ℤ◌, ◌-ℤ◌, ◌*ℤ◌, Bool, true, false, cond, List, [], ◌∷◌, ◌++◌, map, length, take, Option, Some, None, ⊎_elim, arith, length-append}
use Rattle.std.specs.Prelude.{◌≤ℤ◌}
use Rattle.std.specs.List.{AllByRecursion}
use Rattle.std.proofs.lemmas.Int.{ints}
use Rattle.std.proofs.lemmas.List.{length-map}
use Rattle.wh_formula.specs.Expr.{ExprTree}
use Rattle.wh_formula.specs.Expr as expr
use Rattle.wh_dag.specs.Catalog.{OutputOf, Keep, Sums, columns}
use Rattle.wh_row.specs.Row.{Row, cell, cells_at}
use Rattle.wh_row.specs.Weigh.{Counted}
use Rattle.wh_row.specs.Bag.{Bag, HasWidth, written, sum_of, count}
use Rattle.wh_row.proofs.BagLaws.{count-sum_of, each_entry}
use Rattle.wh_maint.specs.View.{with_row, Fold, column, folded_rows}
use Rattle.wh_maint.specs.Definition.{with_first, values_at, where_valued, row_under, kind_of, view_of}
use Rattle.wh_maint.specs.Summary.{cells, group_of, cell_of, read_back, new_accumulators, is_touched, summary, shown, summary_change, change_of}
use Rattle.wh_maint.specs.Width.{key_width, ColumnsHaveWidth, TablesHaveWidth, ChangesHaveWidth}
use Rattle.wh_maint.proofs.BagLemmas.{zero_or_not, of_records}
use Rattle.wh_maint.proofs.Summaries.{count-summary, count-change, cells_length}
use Rattle.wh_maint.proofs.FitTables.{positive_row}

-- ---- columns

-- the row, if there is one, has so many cells
IsWide : ℕ → Option Row → Type 0
IsWide width None = Unit {0}
IsWide width (Some row) = length row ≡ width

first_wide : (o : Option ℤ) (rest : Option Row) (n : ℕ) → IsWide n rest → IsWide (suc n) (with_first o rest)
unfolding IsWide
first_wide None rest n w = tt
first_wide (Some x) None n w = tt
first_wide (Some x) (Some rest) n w = ap suc w

values_wide : (row : Row) (es : List ExprTree) → IsWide (length es) (values_at row es)
unfolding IsWide
values_wide row [] = refl
values_wide row (e ∷ es) = first_wide (expr.value row e) (values_at row es) (length es) (values_wide row es)

valued_wide : (o : Option Row) (row : Row) (n : ℕ) → length row ≡ n → IsWide n (where_valued o row)
unfolding IsWide
valued_wide None row n e = tt
valued_wide (Some values) row n e = e

under_wide : (output : OutputOf) (row : Row) → IsWide (key_width output) (row_under output row)
under_wide (Keep kept) row = values_wide row kept
under_wide (Sums group sums) row = valued_wide (values_at row sums) (cells_at row group) (length group) (length-map group (cell row))

with_wide : (n : ℕ) (o : Option Row) (m : ℤ) (es : Counted) → IsWide n o → AllByRecursion (λ (e : Row × ℤ). length e.0 ≡ n) es → AllByRecursion (λ (e : Row × ℤ). length e.0 ≡ n) (with_row o m es)
unfolding IsWide
with_wide n None m es w all = all
with_wide n (Some row) m es w all = (w, all)

folded_wide : (f : Fold) (n : ℕ) → ((row : Row) → IsWide n (f.goes_to row)) → (es : Counted) → AllByRecursion (λ (e : Row × ℤ). length e.0 ≡ n) (folded_rows f es)
folded_wide f n w [] = tt
folded_wide f n w (e ∷ es) = with_wide n (f.goes_to e.0) (e.1 *ℤ f.weight e.0) (folded_rows f es) (w e.0) (folded_wide f n w es)

pub columns_have_width : ColumnsHaveWidth
columns_have_width = λ d j rows.
    let f : Fold = column (view_of (Some d)) j in
    of_records (λ row. length row ≡ key_width d.output) (folded_rows f (written rows)) (folded_wide f (key_width d.output) (under_wide d.output) (written rows))

-- ---- tables

not_zero : (n : ℤ) → pos 1 ≤ℤ n → n ≢ pos 0
not_zero n l = λ e. omega (arith, ints)

summary_wide : (k width : ℕ) (a : ℕ → Bag) → HasWidth (a 0) width → HasWidth (summary k a) (width + 1 + k)
summary_wide k width a wide q n =
    let g : Row = group_of k q in
    let row = positive_row (count (a 0) g) (g ++ cells k a g) q (λ e. n (count-summary k a q ∙ e)) in
    let e : length q ≡ length g + length (cells k a g) = ap length row.1 ∙ length-append g (cells k a g) in
    let c : length (cells k a g) ≡ suc k = cells_length k a g in
    let w : length g ≡ width = wide g (not_zero (count (a 0) g) row.0) in
    omega arith

pub tables_have_width : TablesHaveWidth
tables_have_width = λ output. elim output as (λ o. (a : ℕ → Bag) → ((j : ℕ) → HasWidth (a j) (key_width o)) → HasWidth (shown (kind_of o) a) (columns o)) [
  | Keep kept ↦ λ a wide. wide 0
  | Sums group sums ↦ λ a wide. summary_wide (length sums) (length group) a (wide 0)
]

-- ---- changes

front_length : (width k : ℕ) (r : Row) → length r ≡ width + 1 + k → length (take (length r - suc k) r) ≡ width
front_length width k r e = taken r (length r - suc k) (omega arith) ∙ shorter
  where
    taken : (r : Row) (n : ℕ) → n ≤ length r → length (take n r) ≡ n
    taken r zero l = refl
    taken [] (suc n) l = absurd (omega arith)
    taken (x ∷ r) (suc n) l = let t = taken r n (omega arith) in omega arith

    shorter : length r - suc k ≡ width
    shorter = omega arith

read_wide : (k width : ℕ) (table : Bag) (j : ℕ) → HasWidth table (width + 1 + k) → HasWidth (read_back k table j) width
read_wide k width table j wide =
    of_records (λ row. length row ≡ width) (map {A = Row × ℤ} {B = Row × ℤ} (λ e. (group_of k e.0, e.1 *ℤ cell_of k j e.0)) (written table))
    (groups_wide (written table) (each_entry (λ q _. length q ≡ width + 1 + k) table wide))
  where
    groups_wide : (es : Counted) → AllByRecursion (λ (e : Row × ℤ). length e.0 ≡ width + 1 + k) es
        → AllByRecursion (λ (e : Row × ℤ). length e.0 ≡ width) (map {A = Row × ℤ} {B = Row × ℤ} (λ e. (group_of k e.0, e.1 *ℤ cell_of k j e.0)) es)
    groups_wide [] all = tt
    groups_wide (e ∷ es) all = (front_length width k e.0 all.0, groups_wide es all.1)

sum_wide : (width : ℕ) (a b : Bag) → HasWidth a width → HasWidth b width → HasWidth (sum_of a b) width
sum_wide width a b left right q n = ⊎_elim
    (λ e. right q (λ f. n (count-sum_of a b q ∙ (λ i. e i +ℤ f i))))
    (left q)
    (zero_or_not (count a q))

change_wide : (k width : ℕ) (table : Bag) (p : ℕ → Bag) → HasWidth table (width + 1 + k) → ((j : ℕ) → HasWidth (p j) width) → HasWidth (summary_change k table p) (width + 1 + k)
change_wide k width table p wide pending q n = ⊎_elim
    (λ e. summary_wide k width (new_accumulators k table p) (sum_wide width (read_back k table 0) (p 0) (read_wide k width table 0 wide) (pending 0)) q
    (λ f. n (count-change k table p q ∙ nothing (is_touched k p (group_of k q)) (count (summary k (new_accumulators k table p)) q) (count table q) f e)))
    (wide q)
    (zero_or_not (count table q))
  where
    nothing : (t : Bool) (a b : ℤ) → a ≡ pos 0 → b ≡ pos 0 → cond t (a -ℤ b) (pos 0) ≡ pos 0
    nothing true a b e f = omega (arith, ints)
    nothing false a b e f = refl

pub changes_have_width : ChangesHaveWidth
changes_have_width = λ output. elim output as (λ o. (table : Bag) (p : ℕ → Bag) → HasWidth table (columns o) → ((j : ℕ) → HasWidth (p j) (key_width o)) → HasWidth (change_of (kind_of o) table p) (columns o)) [
  | Keep kept ↦ λ table p wide pending. pending 0
  | Sums group sums ↦ λ table p wide pending. change_wide (length sums) (length group) table p wide pending
]
