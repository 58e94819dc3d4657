-- A summary's table is tested row by row: what is left to be tested, where these groups were seen.
use Rattle.std.proofs.Common.{◌≡◌, ◌≢◌, ◌↔◌, ℕ, refl, sym, ap, ◌∙◌, subst, ℤ, pos, Bool, true, false, ◌||◌, [], ◌∷◌, ⊎_elim, arith}
use Rattle.std.specs.List.{AllByRecursion, list_any}
use Rattle.std.proofs.lemmas.Bool.{cases_Bool, or_cases, or_left, or_right, or_parts, both_ways, false≢true, false_from_ne_true}
use Rattle.std.specs.List.Sorted.{IsStrictlySortedBy}
use Rattle.std.specs.declared.cmp.Ordering.TheVariants.{Less}
use Rattle.std.specs.Ordering.{is_eq}
use Rattle.wh_row.specs.Row.{Row, row_cmp, is_row, AreRising}
use Rattle.wh_row.specs.Weigh.{Counted}
use Rattle.std.specs.Prelude.{◌≤ℤ◌}
use Rattle.std.proofs.lemmas.Int.{ints}
use Rattle.wh_row.specs.Bag.{Bag, count, written, empty, IsTable, HasWidth}
use Rattle.wh_maint.proofs.BagLemmas.{zero_or_not}
use Rattle.wh_row.proofs.BagLaws.{same_row, itself, each_entry, from_entry, rising-written, count-bag_of}
use Rattle.wh_maint.specs.Summary.{group_of, is_nonzero}
use Rattle.wh_maint.specs.Fit.{IsSummaryTable}
use Rattle.wh_maint.specs.Inner.Fit.{IsSummaryRow}
use Rattle.wh_maint.proofs.FirstAbsent.{rows_of}

-- one of the rows is the group's
abbrev has_group : ℕ → Row → Counted → Bool
has_group sums group es = list_any (λ e. is_row group (group_of sums e.0)) es

-- ---- each group has one row

abbrev Apart : ℕ → Counted → Type 0
Apart sums [] = Unit {0}
Apart sums (e ∷ es) = (has_group sums (group_of sums e.0) es ≡ false) × Apart sums es

abbrev AreIn : Bag → Counted → Type 0
AreIn table es = AllByRecursion (λ (e : Row × ℤ). count table e.0 ≢ pos 0) es

other_groups : (sums : ℕ) (table : Bag) → IsSummaryTable sums table → (r : Row) → count table r ≢ pos 0 → (es : Counted)
    → AllByRecursion (λ y. row_cmp r y ≡ Less) (rows_of es) → AreIn table es → has_group sums (group_of sums r) es ≡ false
other_groups sums table fit r n [] below all = refl
other_groups sums table fit r n (e ∷ es) below all =
    let other : is_row (group_of sums r) (group_of sums e.0) ≡ false =
    false_from_ne_true (is_row (group_of sums r) (group_of sums e.0)) (λ t.
    false≢true (sym (ap is_eq below.0) ∙ ap (λ x. is_row r x) (sym (fit.one_per_group r e.0 n all.0 (same_row (group_of sums r) (group_of sums e.0) t))) ∙ itself r)) in
    λ i. other i || other_groups sums table fit r n es below.1 all.1 i

apart_from : (sums : ℕ) (table : Bag) → IsSummaryTable sums table → (es : Counted) → AreRising (rows_of es) → AreIn table es → Apart sums es
unfolding IsStrictlySortedBy
apart_from sums table fit [] rising all = tt
apart_from sums table fit (e ∷ es) rising all = (other_groups sums table fit e.0 all.0 es rising.0 all.1, apart_from sums table fit es rising.1 all.1)

pub record RowsAreApart (sums : ℕ) (es : Counted) (seen : Bag) : Type 0 where
  pub rows : AllByRecursion (λ (e : Row × ℤ). IsSummaryRow sums e.0 e.1) es
  pub apart : Apart sums es
  pub new : (g : Row) → has_group sums g es ≡ true → is_nonzero (count seen g) ≡ false

-- ---- rows of one group are one row

in_rows : Row → Counted → Bool
in_rows r es = list_any (λ e. is_row r e.0) es

not_in : (r : Row) (es : Counted) → in_rows r es ≡ false → AllByRecursion (λ (e : Row × ℤ). is_row r e.0 ≡ false) es
unfolding in_rows
not_in r [] f = tt
not_in r (e ∷ es) f = let p = or_parts (is_row r e.0) (in_rows r es) f in (p.0, not_in r es p.1)

is_in : (table : Bag) (r : Row) → count table r ≢ pos 0 → in_rows r (written table) ≡ true
is_in table r n = ⊎_elim (λ t. t) (λ f. absurd (both_ways (is_row r r) (from_entry (λ q _. is_row r q ≡ false) table (not_in r (written table) f) r n) (itself r))) (cases_Bool (in_rows r (written table)))

same_group : (sums : ℕ) (r q : Row) → is_row r q ≡ true → is_row (group_of sums r) (group_of sums q) ≡ true
same_group sums r q t = ap (λ x. is_row (group_of sums r) (group_of sums x)) (sym (same_row r q t)) ∙ itself (group_of sums r)

has_of : (sums : ℕ) (r : Row) (es : Counted) → in_rows r es ≡ true → has_group sums (group_of sums r) es ≡ true
unfolding in_rows
has_of sums r [] m = absurd (false≢true m)
has_of sums r (e ∷ es) m =
    ⊎_elim
    (λ t. or_left (is_row (group_of sums r) (group_of sums e.0)) (has_group sums (group_of sums r) es) (same_group sums r e.0 t))
    (λ t. or_right (is_row (group_of sums r) (group_of sums e.0)) (has_group sums (group_of sums r) es) (has_of sums r es t))
    (or_cases (is_row r e.0) (in_rows r es) m)

one_row : (sums : ℕ) (es : Counted) → Apart sums es → (r o : Row) → in_rows r es ≡ true → in_rows o es ≡ true → group_of sums r ≡ group_of sums o → r ≡ o
unfolding in_rows
one_row sums [] a r o m n g = absurd (false≢true m)
one_row sums (e ∷ es) a r o m n g =
    ⊎_elim
    (λ t. ⊎_elim
    (λ u. same_row r e.0 t ∙ sym (same_row o e.0 u))
    (λ u. absurd (both_ways (has_group sums (group_of sums e.0) es) a.0 (ap (λ x. has_group sums x es) (ap (group_of sums) (sym (same_row r e.0 t)) ∙ g) ∙ has_of sums o es u)))
    (or_cases (is_row o e.0) (in_rows o es) n))
    (λ t. ⊎_elim
    (λ u. absurd (both_ways (has_group sums (group_of sums e.0) es) a.0 (ap (λ x. has_group sums x es) (ap (group_of sums) (sym (same_row o e.0 u)) ∙ sym g) ∙ has_of sums r es t)))
    (λ u. one_row sums es a.1 r o t u g)
    (or_cases (is_row o e.0) (in_rows o es) n))
    (or_cases (is_row r e.0) (in_rows r es) m)

-- ---- at first

seen_none : (seen : Bag) → seen ≡ empty → (g : Row) → is_nonzero (count seen g) ≡ false
seen_none seen s g = ap is_nonzero (ap (λ b. count b g) s ∙ count-bag_of [] g)

pub left_start : (sums : ℕ) (table : Bag) (rest : Counted) (seen : Bag) → rest ≡ written table → seen ≡ empty → IsSummaryTable sums table ↔ RowsAreApart sums rest seen
left_start sums table rest seen r s = subst (λ (es : Counted). IsSummaryTable sums table ↔ RowsAreApart sums es seen) (sym r) (
  λ fit. record {
    rows = each_entry (λ q n. IsSummaryRow sums q n) table (λ q n. record { wide = fit.wide q n; once = fit.once q n; positive = fit.positive q n });
    apart = apart_from sums table fit (written table) (rising-written table) (each_entry (λ q _. count table q ≢ pos 0) table (λ q n. n));
    new = λ g _. seen_none seen s g;
  },
  λ h.
      let row : (q : Row) → count table q ≢ pos 0 → IsSummaryRow sums q (count table q) = from_entry (λ q n. IsSummaryRow sums q n) table h.rows in
      record {
        wide = λ q n. (row q n).wide;
        once = λ q n. (row q n).once;
        one_per_group = λ q o n m. one_row sums (written table) h.apart q o (is_in table q n) (is_in table o m);
        positive = λ q n. (row q n).positive;
      },
)

-- ---- at each row

pub row_first : (sums : ℕ) (e : Row × ℤ) (rest : Counted) (seen : Bag) → RowsAreApart sums (e ∷ rest) seen → IsSummaryRow sums e.0 e.1
row_first sums e rest seen h = h.rows.0

pub group_is_new : (sums : ℕ) (e : Row × ℤ) (rest : Counted) (seen : Bag) → RowsAreApart sums (e ∷ rest) seen → is_nonzero (count seen (group_of sums e.0)) ≡ false
group_is_new sums e rest seen h = h.new (group_of sums e.0) (or_left _ _ (itself (group_of sums e.0)))

pub left_step : (sums : ℕ) (e : Row × ℤ) (rest : Counted) (seen more : Bag) → IsSummaryRow sums e.0 e.1 → is_nonzero (count seen (group_of sums e.0)) ≡ false
    → ((g : Row) → is_nonzero (count more g) ≡ (is_row g (group_of sums e.0) || is_nonzero (count seen g)))
    → RowsAreApart sums (e ∷ rest) seen ↔ RowsAreApart sums rest more
left_step sums e rest seen more row unseen noted = (
  λ h. record {
    rows = h.rows.1;
    apart = h.apart.1;
    new = λ g t. noted g ∙ (λ i. other h g t i || h.new g (or_right (is_row g (group_of sums e.0)) (has_group sums g rest) t) i);
  },
  λ h. record {
    rows = (row, h.rows);
    apart = (false_from_ne_true (has_group sums (group_of sums e.0) rest) (λ t. both_ways _ (h.new (group_of sums e.0) t) (noted (group_of sums e.0) ∙ or_left _ _ (itself (group_of sums e.0)))), h.apart);
    new = λ g t. ⊎_elim
        (λ s. ap (λ x. is_nonzero (count seen x)) (same_row g (group_of sums e.0) s) ∙ unseen)
        (λ s. (or_parts (is_row g (group_of sums e.0)) (is_nonzero (count seen g)) (sym (noted g) ∙ h.new g s)).1)
        (or_cases (is_row g (group_of sums e.0)) (has_group sums g rest) t);
  },
)
  where
    other : RowsAreApart sums (e ∷ rest) seen → (g : Row) → has_group sums g rest ≡ true → is_row g (group_of sums e.0) ≡ false
    other h g t = false_from_ne_true _ (λ s. both_ways (has_group sums (group_of sums e.0) rest) h.apart.0 (ap (λ x. has_group sums x rest) (sym (same_row g (group_of sums e.0) s)) ∙ t))

-- ---- in the end

pub all_tested : (sums : ℕ) (seen : Bag) → RowsAreApart sums [] seen
all_tested sums seen = record { rows = tt; apart = tt; new = λ g t. absurd (false≢true t) }

pub fit_is_table : (sums : ℕ) (table : Bag) → IsSummaryTable sums table → IsTable table
fit_is_table sums table fit row =
    ⊎_elim
    (λ z. subst (λ n. pos 0 ≤ℤ n) (sym z) zero_stands)
    (λ n. subst (λ n. pos 0 ≤ℤ n) (sym (fit.once row n)) one_stands)
    (zero_or_not (count table row))
  where
    zero_stands : pos 0 ≤ℤ pos 0
    zero_stands = omega (arith, ints)

    one_stands : pos 0 ≤ℤ pos 1
    one_stands = omega (arith, ints)

pub tested_so : (sums : ℕ) (table : Bag) (es : Counted) (seen : Bag) → IsSummaryTable sums table ↔ RowsAreApart sums es seen → RowsAreApart sums es seen → IsTable table × IsSummaryTable sums table
tested_so sums table es seen left h = (fit_is_table sums table (left.1 h), left.1 h)

pub same_width : (b c : Bag) (n m : ℕ) → b ≡ c → n ≡ m → HasWidth c m → HasWidth b n
same_width b c n m e w h = λ row counts. h row (λ z. counts (ap (λ x. count x row) e ∙ z)) ∙ sym w
