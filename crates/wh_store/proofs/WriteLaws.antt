-- Counts of rising rows that are written over a table.
use Rattle.std.proofs.Common.{rules, pos, ◌≤ℤ◌, ◌≡◌, refl, sym, ap, ◌∙◌, subst, ℕ, ℤ, zero, suc, ◌<◌, [], ◌∷◌, length, Bool, true, false, cond, arith, Option, Some, None, ◌⊎◌, inl, inr}
use Rattle.std.specs.Prelude.{IsTrue, ◌&&◌, int_le, nat_le, slice_index_or, Contains}
use Rattle.std.specs.Cmp.{tied_itself}
use Rattle.std.specs.Ordering.{is_lt}
use Rattle.std.specs.declared.cmp.Ordering.{Ordering}
use Rattle.std.specs.declared.cmp.Ordering.TheVariants.{Less, Equal, Greater}
use Rattle.std.proofs.lemmas.Bool.{cases_Bool}
use Rattle.wh_row.specs.Bag.{Bag, count, set_count}
use Rattle.wh_row.specs.Row.{Row, row_cmp, is_row}
use Rattle.wh_row.specs.Weigh.{Counted}
use Rattle.wh_row.proofs.BagLaws.{rows_total, same_row, itself}
use Rattle.wh_row.proofs.CountLaws.{count-set_count}
use Rattle.wh_versions.specs.Tables.{HaveCounts}
use Rattle.wh_store.specs.Laws.{IsWrittenOver, CountsAreGiven}
use Rattle.wh_store.specs.Pages.{count_no_less, is_page, rises_after, is_after, with_counts}

less_of : (o : Ordering) → is_lt o ≡ true → o ≡ Less
less_of Less h = refl
less_of Equal h = cc
less_of Greater h = cc

pub first_true : (a b : Bool) → IsTrue (a && b) → IsTrue a
first_true true b h = refl
first_true false b h = h

pub second_true : (a b : Bool) → IsTrue (a && b) → IsTrue b
second_true true b h = h
second_true false b h = cc

-- of rising rows each that comes later is above this one
above : (row : Row) (es : Counted) (f : Row × ℤ) (k : ℕ) → IsTrue (rises_after (Some row) es) → k < length es → slice_index_or es k f ≡ f → row_cmp row f.0 ≡ Less
above row [] f k h l at = absurd (omega (arith, l))
above row (e ∷ es) f zero h l at =
    let P : Row × ℤ → Type 0 = λ g. row_cmp row g.0 ≡ Less in
    subst P at (less_of (row_cmp row e.0) (first_true (is_after (Some row) e) (rises_after (Some e.0) es) h))
above row (e ∷ es) f (suc k) h l at =
    let low = less_of (row_cmp row e.0) (first_true (is_after (Some row) e) (rises_after (Some e.0) es) h) in
    rows_total.trans row e.0 f.0 low (above e.0 es f k (second_true (is_after (Some row) e) (rises_after (Some e.0) es) h) (omega (arith, l)) at)

-- so a row does not stand among those that rise after it
not_later : (row : Row) (es : Counted) (n : ℤ) → IsTrue (rises_after (Some row) es) → Contains es (row, n) → ⊥
not_later row es n h there =
    let low : row_cmp row row ≡ Less = above row es (row, n) there.0 h there.1 there.2 in
    let tied : row_cmp row row ≡ Equal = tied_itself rows_total row in
    cc

not_row : (row other : Row) → (row ≡ other → ⊥) → is_row row other ≡ false
not_row row other apart = by (cases_Bool (is_row row other))
  where
    by : (is_row row other ≡ true) ⊎ (is_row row other ≡ false) → is_row row other ≡ false
    by (inl t) = absurd (apart (same_row row other t))
    by (inr f) = f

-- a row's own count, and that of another row, once it is set
own_count : (table : Bag) (row : Row) (n : ℤ) → count (set_count table row n) row ≡ n
own_count table row n = count-set_count table row n row ∙ ap (λ b. cond b n (count table row)) (itself row)

other_count : (table : Bag) (row : Row) (n : ℤ) (other : Row) → (other ≡ row → ⊥) → count (set_count table row n) other ≡ count table other
other_count table row n other apart = count-set_count table row n other ∙ ap (λ b. cond b n (count table other)) (not_row other row apart)

-- one row more in front of rows that are written over what stands then
more_written : (table : Bag) (e : Row × ℤ) (es : Counted) → IsTrue (rises_after (Some e.0) es) → IsWrittenOver es (set_count table e.0 e.1) (with_counts (set_count table e.0 e.1) es)
    → IsWrittenOver (e ∷ es) table (with_counts table (e ∷ es))
more_written table e es later rest = record { given = given; others = others }
  where
    first : count (with_counts (set_count table e.0 e.1) es) e.0 ≡ e.1
    first = rest.others e.0 (λ n there. not_later e.0 es n later there) ∙ own_count table e.0 e.1

    at : (row : Row) (n : ℤ) (k : ℕ) → k < length (e ∷ es) → slice_index_or (e ∷ es) k (row, n) ≡ (row, n) → count (with_counts (set_count table e.0 e.1) es) row ≡ n
    at row n zero l here =
        let P : Row × ℤ → Type 0 = λ g. count (with_counts (set_count table e.0 e.1) es) g.0 ≡ g.1 in
        subst P here first
    at row n (suc k) l there = rest.given row n (k, omega (arith, l), there)

    given : (row : Row) (n : ℤ) → Contains (e ∷ es) (row, n) → count (with_counts (set_count table e.0 e.1) es) row ≡ n
    given row n there = at row n there.0 there.1 there.2

    others : (row : Row) → ((n : ℤ) → Contains (e ∷ es) (row, n) → ⊥) → count (with_counts (set_count table e.0 e.1) es) row ≡ count table row
    others row none =
        rest.others row (λ n there. none n (suc there.0, (let l = there.1 in omega (arith, l)), there.2))
        ∙ other_count table e.0 e.1 row (λ same. none e.1 (zero, omega arith, λ i. (sym same i, e.1)))

written : (table : Bag) (after : Option Row) (rows : Counted) → IsTrue (rises_after after rows) → IsWrittenOver rows table (with_counts table rows)
written table after [] h = record { given = λ row n there. let l = there.1 in absurd (omega (arith, l)); others = λ row none. refl }
written table after (e ∷ es) h =
    let later = second_true (is_after after e) (rises_after (Some e.0) es) h in
    more_written table e es later (written (set_count table e.0 e.1) (Some e.0) es later)

pub counts_are_given : CountsAreGiven
counts_are_given table rows h = written table None rows h

-- the counts of a page are not below zero
least_of : (n : ℤ) (b : Bool) → IsTrue (int_le (pos 0) n && b) → (pos 0 ≤ℤ n) × IsTrue b
least_of n b h = search rules

have_counts : (es : Counted) → IsTrue (count_no_less es) → HaveCounts es
have_counts [] h = tt
have_counts (e ∷ es) h = let first = least_of e.1 (count_no_less es) h in (first.0, have_counts es first.1)

last_of : (a b c d : Bool) → IsTrue (a && b && c && d) → IsTrue d
last_of a b c d h = search rules

pub page_have : (es : Counted) → IsTrue (is_page es) → HaveCounts es
page_have es h = have_counts es (last_of (nat_le 1 (length es)) (nat_le (length es) 256) (rises_after None es) (count_no_less es) h)
