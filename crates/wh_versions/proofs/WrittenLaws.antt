-- A version's table written out: the rows that the version shows.
use Rattle.std.proofs.Common.{◌≡◌, ◌≢◌, refl, sym, ap, subst, ◌∙◌, ℕ, zero, suc, ℤ, pos, negsuc, List, [], ◌∷◌, map, true, false, cond, Option, T, ◌&&◌}
use Rattle.std.specs.Prelude.{not}
use Rattle.std.specs.Ordering.{int_eq, is_lt}
use Rattle.std.specs.declared.cmp.Ordering.{Ordering}
use Rattle.std.specs.declared.cmp.Ordering.TheVariants.{Less}
use Rattle.std.specs.List.{AllByRecursion}
use Rattle.std.specs.List.Sorted.{IsStrictlySortedBy}
use Rattle.std.specs.Map.{keys_of}
use Rattle.std.specs.FinMap as fin
use Rattle.std.specs.FinMap.Entries.{by_order, put, below_all}
use Rattle.wh_pieces.specs.Place.{AreRisingRows}
use Rattle.wh_pieces.specs.Pieces.{found}
use Rattle.wh_pieces.proofs.BringLaws.{none_after}
use Rattle.wh_row.specs.Bag.{Bag, NonZero, more, fewer, whole, count, set_count, written as written_out}
use Rattle.wh_row.specs.Row.{Row, row_cmp, is_row}
use Rattle.wh_row.specs.Stored.{from_counts}
use Rattle.wh_row.specs.Weigh.{Counted}
use Rattle.wh_row.proofs.CountLaws.{count-set_count, same_bag}
use Rattle.wh_row.proofs.RowLaws.{rows_total, same_row, and_first, is_less}
use Rattle.wh_row.proofs.WrittenLaws.{entries-empty}
use Rattle.wh_versions.specs.Laws.{TablesAreWritten}
use Rattle.wh_versions.specs.Pages.{shown_of}
use Rattle.wh_versions.specs.Rows.{Pairs, read}
use Rattle.wh_versions.specs.Tables.{pairs_in, shown}
use Rattle.wh_versions.proofs.ShownLaws.{count_shown}
use Rattle.wh_versions.proofs.TableLaws.{same_int, other_int}

-- ---- counts in rising order, none of them 0, as a bag

abbrev nz : ℤ → NonZero
nz (pos zero) = more 0
nz (pos (suc n)) = more n
nz (negsuc n) = fewer n

whole-nz : (z : ℤ) → z ≢ pos 0 → whole (nz z) ≡ z
whole-nz (pos zero) h = absurd (h refl)
whole-nz (pos (suc n)) h = refl
whole-nz (negsuc n) h = refl

entries-set_count : (b : Bag) (k : Row) (z : ℤ) → z ≢ pos 0 → fin.entries (set_count b k z) ≡ put row_cmp k (nz z) (fin.entries b)
entries-set_count b k (pos zero) h = absurd (h refl)
entries-set_count b k (pos (suc n)) h = fin.entries-insert rows_total b k (more n)
entries-set_count b k (negsuc n) h = fin.entries-insert rows_total b k (fewer n)

abbrev numbered : Counted → List (Row × NonZero)
numbered es = map {A = Row × ℤ} {B = Row × NonZero} (λ e. (e.0, nz e.1)) es

abbrev AreSome : Counted → Type 0
AreSome es = AllByRecursion (λ (e : Row × ℤ). e.1 ≢ pos 0) es

below_each : (k : Row) (es : Counted) → AllByRecursion (λ y. row_cmp k y ≡ Less) (keys_of es) → T (below_all row_cmp k (numbered es))
below_each k [] h = tt
below_each k (e ∷ es) h =
    let P : Ordering → Type 0 = λ o. T (is_lt o && below_all row_cmp k (numbered es)) in
    subst P (sym h.0) (below_each k es h.1)

put_first : (k : Row) (n : NonZero) (es : List (Row × NonZero)) → T (below_all row_cmp k es) → put row_cmp k n es ≡ (k, n) ∷ es
put_first k n [] h = refl
put_first k n (e ∷ es) h = ap (λ o. by_order o ((k, n) ∷ e ∷ es) ((e.0, n) ∷ es) (e ∷ put row_cmp k n es)) (is_less (row_cmp k e.0) (and_first _ _ h))

entries_of : (es : Counted) → AreRisingRows es → AreSome es → fin.entries (from_counts es) ≡ numbered es
unfolding IsStrictlySortedBy
entries_of [] s h = entries-empty
entries_of (e ∷ es) s h =
    entries-set_count (from_counts es) e.0 e.1 h.0
    ∙ ap (put row_cmp e.0 (nz e.1)) (entries_of es s.1 h.1)
    ∙ put_first e.0 (nz e.1) _ (below_each e.0 es s.0)

back : (es : Counted) → AreSome es → map {A = Row × NonZero} {B = Row × ℤ} (λ e. (e.0, whole e.1)) (numbered es) ≡ es
back [] h = refl
back (e ∷ es) h = λ i. (e.0, whole-nz e.1 h.0 i) ∷ back es h.1 i

written_of : (es : Counted) → AreRisingRows es → AreSome es → written_out (from_counts es) ≡ es
written_of es s h = ap (map {A = Row × NonZero} {B = Row × ℤ} (λ e. (e.0, whole e.1))) (entries_of es s h) ∙ back es h

-- ---- what a version shows is such counts

below_shown : (s : ℕ) (k : Row) (es : List (Row × Pairs)) → AllByRecursion (λ y. row_cmp k y ≡ Less) (keys_of es) → AllByRecursion (λ y. row_cmp k y ≡ Less) (keys_of (shown_of s es))
below_shown s k [] h = tt
below_shown s k (e ∷ es) h = elim (int_eq (read s e.1) (pos 0)) as (λ t. AllByRecursion (λ y. row_cmp k y ≡ Less) (keys_of (cond (not t) ((e.0, read s e.1) ∷ shown_of s es) (shown_of s es)))) [
  | true ↦ below_shown s k es h.1
  | false ↦ (h.0, below_shown s k es h.1)
]

rises_shown : (s : ℕ) (es : List (Row × Pairs)) → AreRisingRows es → AreRisingRows (shown_of s es)
unfolding IsStrictlySortedBy
rises_shown s [] h = tt
rises_shown s (e ∷ es) h = elim (int_eq (read s e.1) (pos 0)) as (λ t. AreRisingRows (cond (not t) ((e.0, read s e.1) ∷ shown_of s es) (shown_of s es))) [
  | true ↦ rises_shown s es h.1
  | false ↦ (below_shown s e.0 es h.0, rises_shown s es h.1)
]

some_shown : (s : ℕ) (es : List (Row × Pairs)) → AreSome (shown_of s es)
some_shown s [] = tt
some_shown s (e ∷ es) = elim (int_eq (read s e.1) (pos 0)) as (λ t. int_eq (read s e.1) (pos 0) ≡ t → AreSome (cond (not t) ((e.0, read s e.1) ∷ shown_of s es) (shown_of s es))) [
  | true ↦ λ t. some_shown s es
  | false ↦ λ t. (other_int (read s e.1) (pos 0) t, some_shown s es)
] refl

-- a row that the others do not have reads 0 there
reads_none : (s : ℕ) (e : Row × Pairs) (es : List (Row × Pairs)) (q : Row) → AreRisingRows (e ∷ es) → is_row q e.0 ≡ true → read s (pairs_in (found q es)) ≡ pos 0
reads_none s e es q h t = ap (λ (o : Option Pairs). read s (pairs_in o)) (ap (λ r. found r es) (same_row q e.0 t) ∙ none_after e es h)

left_out : (s : ℕ) (e : Row × Pairs) (es : List (Row × Pairs)) → AreRisingRows (e ∷ es) → set_count (shown s es) e.0 (pos 0) ≡ shown s es
left_out s e es h = same_bag _ _ (λ q.
    count-set_count (shown s es) e.0 (pos 0) q
    ∙ elim (is_row q e.0) as (λ t. is_row q e.0 ≡ t → cond t (pos 0) (count (shown s es) q) ≡ count (shown s es) q) [
      | true ↦ λ t. sym (count_shown s es q ∙ reads_none s e es q h t)
      | false ↦ λ t. refl
    ] refl)

bag_shown : (s : ℕ) (es : List (Row × Pairs)) → AreRisingRows es → shown s es ≡ from_counts (shown_of s es)
unfolding IsStrictlySortedBy
bag_shown s [] h = refl
bag_shown s (e ∷ es) h = elim (int_eq (read s e.1) (pos 0)) as (λ t. int_eq (read s e.1) (pos 0) ≡ t → set_count (shown s es) e.0 (read s e.1) ≡ from_counts (cond (not t) ((e.0, read s e.1) ∷ shown_of s es) (shown_of s es))) [
  | true ↦ λ t. ap (set_count (shown s es) e.0) (same_int (read s e.1) (pos 0) t) ∙ left_out s e es h ∙ bag_shown s es h.1
  | false ↦ λ t. ap (λ b. set_count b e.0 (read s e.1)) (bag_shown s es h.1)
] refl

pub tables_written : TablesAreWritten
tables_written t s h = ap written_out (bag_shown s t.rows h) ∙ written_of (shown_of s t.rows) (rises_shown s t.rows h) (some_shown s t.rows)
