-- The walks over the columns of pending accumulators, which deal with each touched group once.
use Rattle.std.proofs.Common.{◌≡◌, ◌≢◌, ℕ, zero, suc, ◌<◌, refl, sym, ap, subst, ◌∙◌, ℤ, pos, ◌+ℤ◌, Bool, true, false, ◌||◌, cond, List, [], ◌∷◌, ◌++◌, Option, inl, inr, ⊎_elim, arith}
use Rattle.std.specs.Borrow.{Bor}
use Rattle.std.specs.List.{AllByRecursion}
use Rattle.std.specs.List.Sorted.{IsStrictlySortedBy}
use Rattle.std.proofs.lemmas.Bool.{false≢true, false_from_ne_true, cases_order}
use Rattle.std.specs.declared.cmp.Ordering.TheVariants.{Less}
use Rattle.std.specs.Ordering.{is_eq}
use Rattle.wh_row.specs.Row.{Row, row_cmp, is_row, AreRising}
use Rattle.wh_row.specs.Weigh.{Counted, count_in, negated}
use Rattle.wh_row.specs.Bag.{Bag, count, written, empty}
use Rattle.wh_row.specs.Inner.Room.{has_row}
use Rattle.wh_row.proofs.BagLaws.{same_bag, same_row, itself, each_entry, rising-written, count_in-written}
use Rattle.wh_maint.specs.View.{Summed}
use Rattle.wh_maint.specs.Summary.{group_of, is_nonzero, is_touched, summary_change}
use Rattle.wh_maint.specs.SummaryLaws.{row_change}
use Rattle.wh_maint.specs.Value.{ChangeHasValue}
use Rattle.wh_maint.specs.Fit.{IsSummaryTable}
use Rattle.wh_maint.specs.Comp.{bag_at}
use Rattle.wh_maint.specs.Inner.Finishing.{IsOldRow, row_after, row_before, AfterFits, GroupHasValue, stands_within, with_group, AreMade}
use Rattle.wh_maint.proofs.BagLemmas.{zero_or_not}
use Rattle.wh_maint.proofs.FirstAbsent.{rows_of, tail_rises}
use Rattle.wh_maint.proofs.NewRows.{change_told, value_told, far_change, own_change, no_change, nonzero_is, untouched_where}
use Rattle.wh_maint.proofs.NoRows.{none_counts}
use lib.IntN.{+ℤ_idl, +ℤ_idr}

pub or_false : (b : Bool) → (b || false) ≡ b
or_false true = refl
or_false false = refl

or_true : (b : Bool) → (b || true) ≡ true
or_true true = refl
or_true false = refl

-- ---- the columns in which a group stands

pub stands_at : (n j : ℕ) (p : ℕ → Bag) (g : Row) → j < n → count (p j) g ≢ pos 0 → stands_within n p g ≡ true
stands_at zero j p g l m = absurd (omega arith)
stands_at (suc n) j p g l m =
    elim (cases_order j n) as (λ _. (stands_within n p g || is_nonzero (count (p n) g)) ≡ true) [
      | inl s ↦ ap (λ b. stands_within n p g || b) (nonzero_is (count (p n) g) (λ e. m (ap (λ k. count (p k) g) s ∙ e))) ∙ or_true (stands_within n p g)
      | inr s ↦ ap (λ b. b || is_nonzero (count (p n) g)) (stands_at n j p g (omega arith) m)
    ]

pub stands_next : (n : ℕ) (p : ℕ → Bag) (g : Row) → stands_within n p g ≡ false → count (p n) g ≡ pos 0 → stands_within (suc n) p g ≡ false
stands_next n p g f z = λ i. f i || is_nonzero (z i)

pub touched_stands : (sums : ℕ) (p : ℕ → Bag) (g : Row) → is_touched sums p g ≡ true → stands_within (suc sums) p g ≡ true
touched_stands sums p g t =
    elim (stands_within (suc sums) p g) as (λ b. stands_within (suc sums) p g ≡ b → b ≡ true) [
      | true ↦ λ _. refl
      | false ↦ λ f. absurd (false≢true (sym (untouched_where sums p g (λ j l. stood_nowhere f j l)) ∙ t))
    ] refl
  where
    stood_nowhere : stands_within (suc sums) p g ≡ false → (j : ℕ) → j < suc sums → count (p j) g ≡ pos 0
    stood_nowhere f j l = ⊎_elim (λ z. z) (λ n. absurd (false≢true (sym f ∙ stands_at (suc sums) j p g l n))) (zero_or_not (count (p j) g))

-- ---- the rows of a column that are still to come

pub record AreRest (b : Bag) (rest : Counted) : Type 0 where
  pub rising : AreRising (rows_of rest)
  pub count : AllByRecursion (λ (e : Row × ℤ). count b e.0 ≢ pos 0) rest

pub rest_start : (b : Bag) (rest : Counted) → rest ≡ written b → AreRest b rest
rest_start b rest e = subst (AreRest b) (sym e) (record {
  rising = rising-written b;
  count = each_entry (λ q _. count b q ≢ pos 0) b (λ q n. n);
})

pub rest_next : (b : Bag) (e : Row × ℤ) (rest : Counted) → AreRest b (e ∷ rest) → AreRest b rest
rest_next b e rest h = record { rising = tail_rises e rest h.rising; count = h.count.1 }

not_below : (r : Row) (es : Counted) → AllByRecursion (λ y. row_cmp r y ≡ Less) (rows_of es) → has_row r es ≡ false
not_below r [] h = refl
not_below r (e ∷ es) h = λ i. is_eq (h.0 i) || not_below r es h.1 i

not_after : (e : Row × ℤ) (rest : Counted) → AreRising (rows_of (e ∷ rest)) → has_row e.0 rest ≡ false
unfolding IsStrictlySortedBy
not_after e rest rising = not_below e.0 rest rising.0

-- a row that does not stand in the list of a bag's rows does not count
pub absent_from : (b : Bag) (g : Row) → has_row g (written b) ≡ false → count b g ≡ pos 0
absent_from b g f = sym (count_in-written b g) ∙ none_of (written b) f
  where
    none_of : (es : Counted) → has_row g es ≡ false → count_in es g ≡ pos 0
    none_of [] f = refl
    none_of (e ∷ es) f =
        elim (is_row g e.0) as (λ b. b || has_row g es ≡ false → cond b e.1 (pos 0) +ℤ count_in es g ≡ pos 0) [
          | true ↦ λ x. absurd (false≢true (sym x))
          | false ↦ λ x. +ℤ_idl _ ∙ none_of es x
        ] f

-- ---- the groups that are done

-- those of the columns before this one, and those of this one but for the rest
abbrev pub done_at : ℕ → (ℕ → Bag) → Counted → Row → Bool
done_at j p rest g = stands_within j p g || cond (has_row g rest) false (is_nonzero (count (p j) g))

pub done_start : (j : ℕ) (p : ℕ → Bag) (rest : Counted) → rest ≡ written (p j) → (g : Row) → stands_within j p g ≡ done_at j p rest g
done_start j p rest is g =
    sym (or_false (stands_within j p g))
    ∙ ap (λ b. stands_within j p g || b) (elim (has_row g (written (p j))) as (λ b. has_row g (written (p j)) ≡ b → false ≡ cond b false (is_nonzero (count (p j) g))) [
      | true ↦ λ _. refl
      | false ↦ λ f. sym (ap is_nonzero (absent_from (p j) g f))
    ] refl)
    ∙ ap (λ (es : Counted). done_at j p es g) (sym is)

pub done_next : (j : ℕ) (p : ℕ → Bag) (e : Row × ℤ) (rest : Counted) → AreRest (p j) (e ∷ rest) → (g : Row) → with_group e.0 (done_at j p (e ∷ rest)) g ≡ done_at j p rest g
done_next j p e rest h g =
    elim (is_row g e.0) as (λ b. is_row g e.0 ≡ b → (b || (stands_within j p g || cond (b || has_row g rest) false (is_nonzero (count (p j) g)))) ≡ done_at j p rest g) [
      | true ↦ λ b.
          let same : g ≡ e.0 = same_row g e.0 b in
          let last : has_row g rest ≡ false = ap (λ x. has_row x rest) same ∙ not_after e rest h.rising in
          let stands : is_nonzero (count (p j) g) ≡ true = ap (λ x. is_nonzero (count (p j) x)) same ∙ nonzero_is (count (p j) e.0) h.count.0 in
          sym (or_true (stands_within j p g)) ∙ (λ i. stands_within j p g || cond (sym last i) false (sym stands i))
      | false ↦ λ _. refl
    ] refl

pub done_own : (j : ℕ) (p : ℕ → Bag) (e : Row × ℤ) (rest : Counted) → done_at j p (e ∷ rest) e.0 ≡ stands_within j p e.0
done_own j p e rest =
    ap (λ b. stands_within j p e.0 || cond (b || has_row e.0 rest) false (is_nonzero (count (p j) e.0))) (itself e.0) ∙ or_false (stands_within j p e.0)

-- ---- the changes that are made

pub same_made : (sums : ℕ) (table : Bag) (p : ℕ → Bag) (done more : Row → Bool) (change : Bag) → ((g : Row) → done g ≡ more g) → AreMade sums table p done change → AreMade sums table p more change
same_made sums table p done more change is h = subst (λ (d : Row → Bool). AreMade sums table p d change) (λ i g. is g i) h

pub none_made : (sums : ℕ) (table : Bag) (p : ℕ → Bag) (change : Bag) → change ≡ empty → AreMade sums table p (stands_within 0 p) change
none_made sums table p change e = record {
  changed = λ q. none_counts change e q;
  valued = λ g t. absurd (false≢true t);
}

-- a group that has its change already
pub made_already : (sums : ℕ) (table : Bag) (p : ℕ → Bag) (done : Row → Bool) (change : Bag) (g : Row) → done g ≡ true → AreMade sums table p done change → AreMade sums table p (with_group g done) change
made_already sums table p done change g t h = same_made sums table p done (with_group g done) change (λ q. elim (is_row q g) as (λ b. is_row q g ≡ b → done q ≡ (b || done q)) [
  | true ↦ λ b. ap done (same_row q g b) ∙ t
  | false ↦ λ _. refl
] refl) h

is_row_turned : (g h : Row) → is_row g h ≡ false → is_row h g ≡ false
is_row_turned g h f = false_from_ne_true (is_row h g) (λ t. false≢true (sym f ∙ ap (λ x. is_row x h) (sym (same_row h g t)) ∙ itself h))

-- a group that gets its change
pub made_now : (sums : ℕ) (table : Bag) (columns : List Bag) → IsSummaryTable sums table → (old : Option (Bor (List ℤ))) (g : Row) → IsOldRow sums table g old
    → is_touched sums (bag_at columns) g ≡ true → (change more : Bag)
    → ((q : Row) → group_of sums q ≡ g → count change q ≡ pos 0)
    → ((q : Row) → count more q ≡ count change q +ℤ count_in (row_after sums columns old g ++ negated (row_before old)) q)
    → AfterFits sums columns old g
    → (done : Row → Bool) → AreMade sums table (bag_at columns) done change → AreMade sums table (bag_at columns) (with_group g done) more
made_now sums table columns fit old g o t change more none made fits done h = record {
  changed = λ q. elim (is_row (group_of sums q) g) as (λ b. is_row (group_of sums q) g ≡ b → count more q ≡ cond (b || done (group_of sums q)) (count (summary_change sums table (bag_at columns)) q) (pos 0)) [
    | true ↦ λ b. own q (same_row (group_of sums q) g b)
    | false ↦ λ b. far q (is_row_turned (group_of sums q) g b) ∙ h.changed q
  ] refl;
  valued = λ x d. elim (is_row x g) as (λ b. is_row x g ≡ b → (b || done x) ≡ true → GroupHasValue sums table (bag_at columns) x) [
    | true ↦ λ b _. subst (GroupHasValue sums table (bag_at columns)) (sym (same_row x g b)) (value_told sums table columns fit old g o fits)
    | false ↦ λ _ y. h.valued x y
  ] refl d;
}
  where
    own : (q : Row) → group_of sums q ≡ g → count more q ≡ count (summary_change sums table (bag_at columns)) q
    own q s =
        made q ∙ (λ i. none q s i +ℤ count_in (change_told sums table columns fit old g o i) q) ∙ +ℤ_idl _
        ∙ ap (λ x. count_in (row_change sums table (bag_at columns) x) q) (sym s)
        ∙ own_change sums table (bag_at columns) fit q (ap (is_touched sums (bag_at columns)) s ∙ t)

    far : (q : Row) → is_row g (group_of sums q) ≡ false → count more q ≡ count change q
    far q f =
        made q ∙ ap (λ z. count change q +ℤ z) (ap (λ es. count_in es q) (change_told sums table columns fit old g o) ∙ far_change sums table (bag_at columns) g q f) ∙ +ℤ_idr (count change q)

-- the rows of the group in turn do not count yet, if it is not done
pub none_yet : (sums : ℕ) (table : Bag) (p : ℕ → Bag) (done : Row → Bool) (change : Bag) (g : Row) → AreMade sums table p done change → done g ≡ false
    → (q : Row) → group_of sums q ≡ g → count change q ≡ pos 0
none_yet sums table p done change g h f q s = h.changed q ∙ ap (λ b. cond b (count (summary_change sums table p) q) (pos 0)) (ap done s ∙ f)

-- where all groups that stand in a column are done, so is the change
pub all_made : (sums : ℕ) (table : Bag) (p : ℕ → Bag) (change : Bag) → AreMade sums table p (stands_within (suc sums) p) change → change ≡ summary_change sums table p
all_made sums table p change h = same_bag change (summary_change sums table p) (λ q.
    h.changed q
    ∙ elim (stands_within (suc sums) p (group_of sums q)) as (λ b. stands_within (suc sums) p (group_of sums q) ≡ b → cond b (count (summary_change sums table p) q) (pos 0) ≡ count (summary_change sums table p) q) [
      | true ↦ λ _. refl
      | false ↦ λ f. sym (no_change sums table p q (false_from_ne_true (is_touched sums p (group_of sums q)) (λ t. false≢true (sym f ∙ touched_stands sums p (group_of sums q) t))))
    ] refl)

pub all_valued : (sums : ℕ) (table : Bag) (p : ℕ → Bag) (change : Bag) → AreMade sums table p (stands_within (suc sums) p) change → ChangeHasValue (Summed sums) table p
all_valued sums table p change h = λ g t. h.valued g (touched_stands sums p g t)
