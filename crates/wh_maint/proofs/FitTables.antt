-- A summary's table is fit exactly where its rows tell it, and the values of views are fit.
use Rattle.std.proofs.Common.{◌≡◌, ◌≢◌, ℕ, zero, suc, ◌+◌, ◌-◌, ◌<◌, refl, sym, ap, subst, ◌∙◌, ℤ, pos, negsuc, ◌+ℤ◌, ◌*ℤ◌, Bool, true, false, cond, List, [], ◌∷◌, ◌++◌, map, length, take, drop, ◌⊎◌, inl, inr, ⊎_elim, arith, length-append}
use Rattle.std.specs.Prelude.{◌≤ℤ◌}
use Rattle.std.specs.List.{AllByRecursion, range_with_len}
use Rattle.std.proofs.lemmas.Int.{ints}
use Rattle.std.proofs.lemmas.Bool.{false_from_ne_true, both_ways}
use Rattle.std.proofs.lemmas.List.{length-drop, take-append-drop, get_or-drop}
use Rattle.std.proofs.lemmas.List.FromFn.{fill_by_all}
use Rattle.wh_row.specs.Row.{Row, is_row}
use Rattle.wh_row.specs.Weigh.{Counted, weigh, count_in}
use Rattle.wh_row.specs.Bag.{Bag, written, sum_of, count}
use Rattle.wh_row.proofs.BagLaws.{same_bag, same_row, itself, count-bag_of, weigh_one, each_entry}
use Rattle.wh_maint.specs.View.{View, Joined, Summed}
use Rattle.wh_maint.specs.Summary.{shown, cells, if_positive, summary, group_of, cell_of, read_back, change_of}
use Rattle.wh_maint.specs.Value.{accumulators, view_value}
use Rattle.wh_maint.specs.Fit.{IsSummaryTable, IsFitTable}
use Rattle.wh_maint.specs.SummaryLaws.{FitIsToldByRows, SummariesShowAccumulators, ValuesAreFit, ChangesAreWhole, ChangesAreDifferences}
use Rattle.wh_maint.proofs.BagLemmas.{zero_or_not}
use Rattle.wh_maint.proofs.Differences.{is_difference, sum_difference}
use Rattle.wh_maint.proofs.Summaries.{count-summary, count_in-read, cell_of-row, cells_length, read_back-summary, change_is_whole, summary_changed}
use Rattle.wh_maint.proofs.NoNegative.{AreTables, determined, first_counts, summary_counts}
use lib.IntN.{*ℤ-zero, *ℤ-one, *ℤ_comm, one}

-- a row of those that a test finds, or none
found_in : (t : Row → Bool) (es : Counted) (Q : Row → Type 0) → AllByRecursion (λ (e : Row × ℤ). Q e.0) es → ((r : Row) × Q r × (t r ≡ true)) ⊎ AllByRecursion (λ (e : Row × ℤ). t e.0 ≡ false) es
found_in t [] Q all = inr tt
found_in t (e ∷ es) Q all =
    elim (t e.0) as (λ b. t e.0 ≡ b → ((r : Row) × Q r × (t r ≡ true)) ⊎ ((t e.0 ≡ false) × AllByRecursion (λ (x : Row × ℤ). t x.0 ≡ false) es)) [
      | true ↦ λ b. inl (e.0, all.0, b)
      | false ↦ λ b. ⊎_elim (λ r. inl r) (λ n. inr (b, n)) (found_in t es Q all.1)
    ] refl

-- ---- what rows tell

read : ℕ → ℕ → Row → Row → ℤ
read k j g r = cond (is_row g (group_of k r)) (cell_of k j r) (pos 0)

count_read : (k : ℕ) (table : Bag) (j : ℕ) (g : Row) → count (read_back k table j) g ≡ weigh (read k j g) (written table)
unfolding read
count_read k table j g = count-bag_of (map {A = Row × ℤ} {B = Row × ℤ} (λ e. (group_of k e.0, e.1 *ℤ cell_of k j e.0)) (written table)) g ∙ count_in-read k j g (written table)

-- a row of a fit table tells its group's accumulators
pub told : (k : ℕ) (table : Bag) → IsSummaryTable k table → (r : Row) → count table r ≢ pos 0 → (j : ℕ) → count (read_back k table j) (group_of k r) ≡ cell_of k j r
unfolding read one
told k table fit r n j =
    count_read k table j (group_of k r)
    ∙ weigh_one table (read k j (group_of k r)) r
    (λ p m f. (λ i. cond (false_from_ne_true (is_row (group_of k r) (group_of k p)) (λ t. both_ways (is_row r p) f (ap (is_row r) (sym (fit.one_per_group r p n m (same_row _ _ t))) ∙ itself r)) i) (cell_of k j p) (pos 0)))
    ∙ ap (λ z. z *ℤ read k j (group_of k r) r) (fit.once r n) ∙ *ℤ_comm (pos 1) (read k j (group_of k r) r) ∙ *ℤ-one (read k j (group_of k r) r)
    ∙ (λ i. cond (itself (group_of k r) i) (cell_of k j r) (pos 0))

-- a wide row is its group and its cells
row_cells : (k : ℕ) (r : Row) → k < length r → r ≡ group_of k r ++ map (λ j. cell_of k j r) (range_with_len 0 (suc k))
row_cells k r l =
    let n : ℕ = length r - suc k in
    let long : length (drop n r) ≡ suc k = length-drop n r ∙ whole_length in
    sym (take-append-drop n r) ∙ ap (λ x. take n r ++ x) (fill_by_all (λ j. cell_of k j r) (drop n r) (suc k) (pos 0) long (λ j _. get_or-drop n r j (pos 0)))
  where
    whole_length : length r - (length r - suc k) ≡ suc k
    whole_length = omega arith

pub row_told : (k : ℕ) (table : Bag) → IsSummaryTable k table → (r : Row) → count table r ≢ pos 0 → group_of k r ++ cells k (read_back k table) (group_of k r) ≡ r
row_told k table fit r n = (λ i. group_of k r ++ map (λ j. told k table fit r n j i) (range_with_len 0 (suc k))) ∙ sym (row_cells k r (fit.wide r n))

none_told : (k j : ℕ) (g : Row) (es : Counted) → AllByRecursion (λ (e : Row × ℤ). is_row g (group_of k e.0) ≡ false) es → weigh (read k j g) es ≡ pos 0
unfolding read
none_told k j g [] all = refl
none_told k j g (e ∷ es) all = λ i. ((λ m. e.1 *ℤ cond (all.0 m) (cell_of k j e.0) (pos 0)) ∙ *ℤ-zero e.1) i +ℤ none_told k j g es all.1 i

-- of a group without rows nothing is told
pub told_none : (k : ℕ) (table : Bag) (j : ℕ) (g : Row) → AllByRecursion (λ (e : Row × ℤ). is_row g (group_of k e.0) ≡ false) (written table) → count (read_back k table j) g ≡ pos 0
told_none k table j g all = count_read k table j g ∙ none_told k j g (written table) all

above_zero : (n : ℤ) → pos 1 ≤ℤ n → (m : ℕ) × (n ≡ pos (suc m))
above_zero (pos zero) l = absurd (omega (arith, ints))
above_zero (pos (suc m)) l = (m, refl)
above_zero (negsuc m) l = absurd (omega (arith, ints))

pub told_whole : (k : ℕ) (table : Bag) → IsSummaryTable k table → table ≡ summary k (read_back k table)
told_whole k table fit = same_bag _ _ (λ q.
    let a : ℕ → Bag = read_back k table in
    let g : Row = group_of k q in
    -- the row of a group that r has
    let at_row : (r : Row) → count table r ≢ pos 0 → group_of k r ≡ g → count (summary k a) q ≡ cond (is_row q r) (pos 1) (pos 0) +ℤ pos 0 = λ r n e.
    let p = above_zero (cell_of k 0 r) (fit.positive r n) in
    let first : count (a 0) g ≡ pos (suc p.0) = ap (count (a 0)) (sym e) ∙ told k table fit r n 0 ∙ p.1 in
    let row : g ++ cells k a g ≡ r = (λ i. sym e i ++ cells k a (sym e i)) ∙ row_told k table fit r n in
    count-summary k a q ∙ (λ i. count_in (if_positive (first i) (row i)) q) in
    ⊎_elim
    (λ zero_here. zero_here ∙ ⊎_elim
    (λ f. sym (at_row f.0 f.1 (sym (same_row g (group_of k f.0) f.2))
    ∙ (λ i. cond (false_from_ne_true (is_row q f.0) (λ t. f.1 (ap (count table) (sym (same_row q f.0 t)) ∙ zero_here)) i) (pos 1) (pos 0) +ℤ pos 0)))
    (λ none. sym (count-summary k a q ∙ (λ i. count_in (if_positive (told_none k table 0 g none i) (g ++ cells k a g)) q)))
    (found_in (λ r. is_row g (group_of k r)) (written table) (λ r. count table r ≢ pos 0) (each_entry (λ r _. count table r ≢ pos 0) table (λ r n. n))))
    (λ n. fit.once q n ∙ sym (at_row q n refl ∙ (λ i. cond (itself q i) (pos 1) (pos 0) +ℤ pos 0)))
    (zero_or_not (count table q)))

pub positive_row : (m : ℤ) (r q : Row) → count_in (if_positive m r) q ≢ pos 0 → (pos 1 ≤ℤ m) × (q ≡ r) × (count_in (if_positive m r) q ≡ pos 1)
positive_row (pos zero) r q n = absurd (n refl)
positive_row (pos (suc m)) r q n =
    elim (is_row q r) as (λ t. is_row q r ≡ t → cond t (pos 1) (pos 0) +ℤ pos 0 ≢ pos 0 → (pos 1 ≤ℤ pos (suc m)) × (q ≡ r) × (cond t (pos 1) (pos 0) +ℤ pos 0 ≡ pos 1)) [
      | true ↦ λ t _. (omega (arith, ints), same_row q r t, refl)
      | false ↦ λ t x. absurd (x refl)
    ] refl n
positive_row (negsuc m) r q n = absurd (n refl)

pub summary_is_table : (k : ℕ) (a : ℕ → Bag) → IsSummaryTable k (summary k a)
summary_is_table k a =
    let row = λ (q : Row) (n : count (summary k a) q ≢ pos 0). positive_row (count (a 0) (group_of k q)) (group_of k q ++ cells k a (group_of k q)) q (λ e. n (count-summary k a q ∙ e)) in
    record {
      wide = λ q n. let e = ap length (row q n).1 in let c = cells_length k a (group_of k q) in let l = length-append (group_of k q) (cells k a (group_of k q)) in let s : length q ≡ length (group_of k q) + suc k = e ∙ l ∙ ap (λ z. length (group_of k q) + z) c in omega arith;
      once = λ q n. count-summary k a q ∙ (row q n).2;
      one_per_group = λ q r n m e. (row q n).1 ∙ (λ i. e i ++ cells k a (e i)) ∙ sym (row r m).1;
      positive = λ q n. subst (λ z. pos 1 ≤ℤ z) (sym (ap (cell_of k 0) (row q n).1 ∙ cell_of-row k a (group_of k q) 0 (omega arith))) (row q n).0;
    }

pub fit_is_told_by_rows : FitIsToldByRows
fit_is_told_by_rows = λ k table. (told_whole k table, λ e. subst (IsSummaryTable k) (sym e) (summary_is_table k (read_back k table)))

pub summaries_show_accumulators : SummariesShowAccumulators
summaries_show_accumulators = λ k a det. record {
  fit = (summary_counts k a, summary_is_table k a);
  told = read_back-summary k a det;
}

pub value_is_fit : (v : View) (us : List ℕ) (tables : ℕ → Bag) → AreTables us tables → IsFitTable v.kind (view_value v (map tables us))
value_is_fit v us tables h =
    elim v.kind as (λ k. IsFitTable k (shown k (accumulators v (map tables us)))) [
      | Joined ↦ first_counts v us tables h
      | Summed k ↦ (summary_counts k (accumulators v (map tables us)), summary_is_table k (accumulators v (map tables us)))
    ]

pub values_are_fit : ValuesAreFit
values_are_fit = λ v us tables h. record { determined = determined v us tables h; fit = value_is_fit v us tables h }

pub changes_are_whole : ChangesAreWhole
changes_are_whole = λ k table p fit. change_is_whole k table p (told_whole k table fit)

-- the change of a view whose columns gain their differences
pub whole_change : (v : View) (us : List ℕ) (old new : ℕ → Bag) (p : ℕ → Bag) → AreTables us old
    → ((j : ℕ) → sum_of (accumulators v (map old us) j) (p j) ≡ accumulators v (map new us) j)
    → sum_of (view_value v (map old us)) (change_of v.kind (view_value v (map old us)) p) ≡ view_value v (map new us)
whole_change v us old new p tables is =
    elim v.kind as (λ k. sum_of (shown k (accumulators v (map old us))) (change_of k (shown k (accumulators v (map old us))) p) ≡ shown k (accumulators v (map new us))) [
      | Joined ↦ is 0
      | Summed k ↦ summary_changed k (accumulators v (map old us)) p (determined v us old tables) ∙ (λ i. summary k (λ j. is j i))
    ]

pub changes_are_differences : ChangesAreDifferences
changes_are_differences = λ v us old new p tables is.
    is_difference _ _ _ (sym (whole_change v us old new p tables (λ j. ap (sum_of (accumulators v (map old us) j)) (is j) ∙ sum_difference (accumulators v (map old us) j) (accumulators v (map new us) j))))
