-- Old and new rows of a group, as they are read and made.
use Rattle.std.proofs.Common.{◌≡◌, ◌≢◌, ℕ, zero, suc, ◌+◌, ◌<◌, ◌≤◌, refl, sym, ap, subst, ◌∙◌, ℤ, pos, negsuc, ◌+ℤ◌, ◌-ℤ◌, Bool, true, false, ◌||◌, cond, List, ◌++◌, map, inl, inr, ⊎_elim, Option, Some, None, arith}
use Rattle.std.specs.Prelude.{◌≤ℤ◌, FitsSigned}
use Rattle.std.specs.Int.{w64}
use Rattle.std.specs.Borrow.{Bor}
use Rattle.std.specs.List.{list_any, range_with_len}
use Rattle.std.proofs.lemmas.Bool.{false≢true, cases_order}
use Rattle.wh_row.specs.Row.{Row, is_row}
use Rattle.wh_row.specs.Weigh.{count_in, negated}
use Rattle.wh_row.specs.Bag.{Bag, count}
use Rattle.wh_row.proofs.BagLaws.{itself, same_row, count_in-append}
use Rattle.wh_maint.specs.Summary.{if_positive, group_row, summary, group_of, cell_of, read_back, new_accumulators, is_nonzero, is_touched, summary_change}
use Rattle.wh_maint.specs.SummaryLaws.{row_change}
use Rattle.wh_maint.specs.Fit.{IsSummaryTable}
use Rattle.wh_maint.specs.Comp.{bag_at}
use Rattle.wh_maint.specs.Inner.Finishing.{cell_after, row_after, row_before, AfterFits, IsOldRow, GroupHasValue}
use Rattle.wh_maint.proofs.BagLemmas.{zero_or_not}
use Rattle.wh_maint.proofs.FitTables.{told_whole, positive_row}
use Rattle.wh_maint.proofs.Summaries.{group_of-row, count-summary, count_in-negated, count-change}
use Rattle.wh_maint.proofs.OldRows.{old_row, new_told, no_old_row, new_alone}
use lib.IntN.{+ℤ_idl}

-- its cells, with what is pending, are the new accumulators
pub after_told : (sums : ℕ) (table : Bag) (columns : List Bag) → IsSummaryTable sums table → (old : Option (Bor (List ℤ))) (g : Row) → IsOldRow sums table g old
    → (j : ℕ) → cell_after sums columns old g j ≡ count (new_accumulators sums table (bag_at columns) j) g
after_told sums table columns fit None g o j = +ℤ_idl (count (bag_at columns j) g) ∙ sym (new_alone sums table (bag_at columns) g o j)
after_told sums table columns fit (Some r) g o j =
    ap (λ x. cell_of sums j r.now +ℤ count (bag_at columns j) x) (sym o.1)
    ∙ sym (new_told sums table (bag_at columns) fit r.now o.0 j)
    ∙ ap (count (new_accumulators sums table (bag_at columns) j)) o.1

before_told : (sums : ℕ) (table : Bag) → IsSummaryTable sums table → (old : Option (Bor (List ℤ))) (g : Row) → IsOldRow sums table g old
    → row_before old ≡ group_row sums (read_back sums table) g
before_told sums table fit None g o = sym (no_old_row sums table g o)
before_told sums table fit (Some r) g o = sym (old_row sums table fit r.now o.0) ∙ ap (group_row sums (read_back sums table)) o.1

-- so the new row and the old one taken out are the change of the group
pub change_told : (sums : ℕ) (table : Bag) (columns : List Bag) → IsSummaryTable sums table → (old : Option (Bor (List ℤ))) (g : Row) → IsOldRow sums table g old
    → row_after sums columns old g ++ negated (row_before old) ≡ row_change sums table (bag_at columns) g
change_told sums table columns fit old g o =
    let cell = after_told sums table columns fit old g o in
    λ i. if_positive (cell 0 i) (g ++ map (λ j. cell j i) (range_with_len 0 (suc sums))) ++ negated (before_told sums table fit old g o i)

pub value_told : (sums : ℕ) (table : Bag) (columns : List Bag) → IsSummaryTable sums table → (old : Option (Bor (List ℤ))) (g : Row) → IsOldRow sums table g old
    → AfterFits sums columns old g → GroupHasValue sums table (bag_at columns) g
value_told sums table columns fit old g o h =
    let cell = after_told sums table columns fit old g o in
    subst (λ (f : ℕ → ℤ). pos 1 ≤ℤ f 0 → (j : ℕ) → j < sums → FitsSigned w64 (f (suc j))) (λ i j. cell j i) h

pub value_asked : (sums : ℕ) (table : Bag) (columns : List Bag) → IsSummaryTable sums table → (old : Option (Bor (List ℤ))) (g : Row) → IsOldRow sums table g old
    → GroupHasValue sums table (bag_at columns) g → AfterFits sums columns old g
value_asked sums table columns fit old g o h =
    let cell = after_told sums table columns fit old g o in
    subst (λ (f : ℕ → ℤ). pos 1 ≤ℤ f 0 → (j : ℕ) → j < sums → FitsSigned w64 (f (suc j))) (λ i j. sym (cell j) i) h

-- ---- what the change of a group counts

counted_change : (sums : ℕ) (table : Bag) (p : ℕ → Bag) (g q : Row)
    → count_in (row_change sums table p g) q ≡ count_in (group_row sums (new_accumulators sums table p) g) q -ℤ count_in (group_row sums (read_back sums table) g) q
counted_change sums table p g q =
    count_in-append (group_row sums (new_accumulators sums table p) g) (negated (group_row sums (read_back sums table) g)) q
    ∙ ap (λ z. count_in (group_row sums (new_accumulators sums table p) g) q +ℤ z) (count_in-negated (group_row sums (read_back sums table) g) q)

no_row_of : (sums : ℕ) (a : ℕ → Bag) (g q : Row) → is_row g (group_of sums q) ≡ false → count_in (group_row sums a g) q ≡ pos 0
no_row_of sums a g q f = ⊎_elim
    (λ z. z)
    (λ n. absurd (false≢true (sym f ∙ ap (is_row g) (ap (group_of sums) (positive_row (count (a 0) g) _ q n).1 ∙ group_of-row sums a g) ∙ itself g)))
    (zero_or_not (count_in (group_row sums a g) q))

-- nothing at the rows of other groups
pub far_change : (sums : ℕ) (table : Bag) (p : ℕ → Bag) (g q : Row) → is_row g (group_of sums q) ≡ false → count_in (row_change sums table p g) q ≡ pos 0
far_change sums table p g q f =
    counted_change sums table p g q ∙ (λ i. no_row_of sums (new_accumulators sums table p) g q f i -ℤ no_row_of sums (read_back sums table) g q f i)

-- the change at its own rows, if it is touched
pub own_change : (sums : ℕ) (table : Bag) (p : ℕ → Bag) → IsSummaryTable sums table → (q : Row) → is_touched sums p (group_of sums q) ≡ true
    → count_in (row_change sums table p (group_of sums q)) q ≡ count (summary_change sums table p) q
own_change sums table p fit q t =
    counted_change sums table p (group_of sums q) q
    ∙ (λ i. sym (count-summary sums (new_accumulators sums table p) q) i -ℤ (sym (count-summary sums (read_back sums table) q) ∙ ap (λ b. count b q) (sym (told_whole sums table fit))) i)
    ∙ ap (λ b. cond b (count (summary sums (new_accumulators sums table p)) q -ℤ count table q) (pos 0)) (sym t)
    ∙ sym (count-change sums table p q)

pub no_change : (sums : ℕ) (table : Bag) (p : ℕ → Bag) (q : Row) → is_touched sums p (group_of sums q) ≡ false → count (summary_change sums table p) q ≡ pos 0
no_change sums table p q f =
    count-change sums table p q ∙ ap (λ b. cond b (count (summary sums (new_accumulators sums table p)) q -ℤ count table q) (pos 0)) f

-- ---- whether a group is touched

pub nonzero_is : (z : ℤ) → z ≢ pos 0 → is_nonzero z ≡ true
nonzero_is (pos zero) n = absurd (n refl)
nonzero_is (pos (suc z)) n = refl
nonzero_is (negsuc z) n = refl

touched_from : (p : ℕ → Bag) (g : Row) (n from j : ℕ) → from ≤ j → j < from + n → count (p j) g ≢ pos 0 → list_any (λ k. is_nonzero (count (p k) g)) (range_with_len from n) ≡ true
touched_from p g zero from j a b n = absurd (omega arith)
touched_from p g (suc k) from j a b n =
    elim (cases_order from j) as (λ _. is_nonzero (count (p from) g) || list_any (λ k. is_nonzero (count (p k) g)) (range_with_len (from + 1) k) ≡ true) [
      | inl s ↦ ap (λ t. t || list_any (λ k. is_nonzero (count (p k) g)) (range_with_len (from + 1) k)) (nonzero_is (count (p from) g) (λ e. n (ap (λ x. count (p x) g) (sym s) ∙ e)))
      | inr s ↦ or_last (is_nonzero (count (p from) g)) _ (touched_from p g k (from + 1) j (omega arith) (omega arith) n)
    ]
  where
    or_last : (a b : Bool) → b ≡ true → (a || b) ≡ true
    or_last true b t = refl
    or_last false b t = t

pub touched_at : (sums : ℕ) (p : ℕ → Bag) (g : Row) (j : ℕ) → j < suc sums → count (p j) g ≢ pos 0 → is_touched sums p g ≡ true
touched_at sums p g j l n = touched_from p g (suc sums) 0 j (omega arith) (omega arith) n

none_from : (p : ℕ → Bag) (g : Row) (n from : ℕ) → ((j : ℕ) → from ≤ j → j < from + n → count (p j) g ≡ pos 0) → list_any (λ k. is_nonzero (count (p k) g)) (range_with_len from n) ≡ false
none_from p g zero from h = refl
none_from p g (suc n) from h = λ i. is_nonzero (h from (omega arith) (omega arith) i) || none_from p g n (from + 1) (λ j a b. h j (omega arith) (omega arith)) i

pub untouched_where : (sums : ℕ) (p : ℕ → Bag) (g : Row) → ((j : ℕ) → j < suc sums → count (p j) g ≡ pos 0) → is_touched sums p g ≡ false
untouched_where sums p g h = none_from p g (suc sums) 0 (λ j a b. h j (omega arith))

-- ---- noting groups

pub noted_already : (b : Bag) (h g : Row) → count b h ≢ pos 0 → is_nonzero (count b g) ≡ (is_row g h || is_nonzero (count b g))
noted_already b h g n =
    elim (is_row g h) as (λ t. is_row g h ≡ t → is_nonzero (count b g) ≡ (t || is_nonzero (count b g))) [
      | true ↦ λ t. nonzero_is (count b g) (λ e. n (ap (count b) (sym (same_row g h t)) ∙ e))
      | false ↦ λ t. refl
    ] refl

pub noted_now : (b c : Bag) (h g : Row) → count b h ≡ pos 0 → count c g ≡ cond (is_row g h) (pos 1) (pos 0) +ℤ count b g → is_nonzero (count c g) ≡ (is_row g h || is_nonzero (count b g))
noted_now b c h g z e =
    ap is_nonzero e
    ∙ elim (is_row g h) as (λ t. is_row g h ≡ t → is_nonzero (cond t (pos 1) (pos 0) +ℤ count b g) ≡ (t || is_nonzero (count b g))) [
      | true ↦ λ t. ap (λ n. is_nonzero (pos 1 +ℤ n)) (ap (count b) (same_row g h t) ∙ z)
      | false ↦ λ t. ap is_nonzero (+ℤ_idl (count b g))
    ] refl
