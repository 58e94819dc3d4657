-- The rows of a table that follow one of them, and where a page ends that is not the last.
use Rattle.std.proofs.Common.{◌≡◌, refl, sym, ap, ◌∙◌, subst, ℕ, ℤ, zero, suc, ◌<◌, ◌-◌, List, [], ◌∷◌, ◌++◌, length, take, map, Bool, true, false, arith, Option, Some, None, append_assoc, cond}
use Rattle.std.proofs.lemmas.Bool.Decides.{nat_tests}
use Rattle.std.proofs.lemmas.Option.{same_Some}
use Rattle.std.specs.Prelude.{filter, nat_le, option_map, slice_get}
use Rattle.std.specs.List.{AllByRecursion}
use Rattle.std.specs.List.Sorted.{IsStrictlySortedBy}
use Rattle.std.specs.Cmp.{tied_itself}
use Rattle.std.specs.Ordering.{is_lt, ordering_reverse}
use Rattle.std.specs.declared.cmp.Ordering.{Ordering}
use Rattle.std.specs.declared.cmp.Ordering.TheVariants.{Less, Equal, Greater}
use Rattle.wh_row.specs.Bag.{Bag, written}
use Rattle.wh_row.specs.Row.{Row, row_cmp, AreRising}
use Rattle.wh_row.specs.Weigh.{Counted}
use Rattle.wh_row.proofs.BagLaws.{rows_total, rising-written}
use Rattle.wh_store.specs.Pages.{is_after, page_of, rows_after}
use Rattle.wh_store.specs.Readers.{Bookmark, bookmark_after}

abbrev rows_in : Counted → List Row
rows_in es = map {A = Row × ℤ} {B = Row} (λ e. e.0) es

filter_yes : (p : Row × ℤ → Bool) (x : Row × ℤ) (xs : Counted) → p x ≡ true → filter p (x ∷ xs) ≡ x ∷ filter p xs
filter_yes p x xs t = ap (λ b. cond b (x ∷ filter p xs) (filter p xs)) t

filter_no : (p : Row × ℤ → Bool) (x : Row × ℤ) (xs : Counted) → p x ≡ false → filter p (x ∷ xs) ≡ filter p xs
filter_no p x xs t = ap (λ b. cond b (x ∷ filter p xs) (filter p xs)) t

pub all_after_none : (es : Counted) → filter (is_after None) es ≡ es
all_after_none [] = refl
all_after_none (e ∷ es) = ap (λ (rest : Counted). e ∷ rest) (all_after_none es)

abbrev AreAbove : Row → Counted → Type 0
AreAbove row es = AllByRecursion (λ q. row_cmp row q ≡ Less) (rows_in es)

-- rows above this one all stand after it
all_after : (row : Row) (es : Counted) → AreAbove row es → filter (is_after (Some row)) es ≡ es
all_after row [] all = refl
all_after row (e ∷ es) all = filter_yes (is_after (Some row)) e es (ap is_lt all.0) ∙ ap (λ (rest : Counted). e ∷ rest) (all_after row es all.1)

-- rows above one that stands after this one are above this one
still_above : (row low : Row) (es : Counted) → row_cmp row low ≡ Less → AreAbove low es → AreAbove row es
still_above row low [] less all = tt
still_above row low (e ∷ es) less all = (rows_total.trans row low e.0 less all.0, still_above row low es less all.1)

is_less : (o : Ordering) → is_lt o ≡ true → o ≡ Less
is_less Less e = refl
is_less Equal e = cc
is_less Greater e = cc

-- a row does not stand after itself, nor after one above it
not_itself : (row : Row) → is_lt (row_cmp row row) ≡ false
not_itself row = ap is_lt (tied_itself rows_total row)

not_below : (low row : Row) → row_cmp low row ≡ Less → is_lt (row_cmp row low) ≡ false
not_below low row less = ap is_lt (rows_total.antisymm row low ∙ ap ordering_reverse less)

-- the row in the middle is above those before it
below_middle : (q : Row) (xs ys : Counted) (e : Row × ℤ) → AreAbove q (xs ++ e ∷ ys) → row_cmp q e.0 ≡ Less
below_middle q [] ys e all = all.0
below_middle q (x ∷ xs) ys e all = below_middle q xs ys e all.1

-- of rising rows, those after one of them are those that follow it
pub rest_after : (xs ys : Counted) (e : Row × ℤ) → AreRising (rows_in (xs ++ e ∷ ys)) → filter (is_after (Some e.0)) (xs ++ e ∷ ys) ≡ ys
unfolding IsStrictlySortedBy
rest_after [] ys e rising = filter_no (is_after (Some e.0)) e ys (not_itself e.0) ∙ all_after e.0 ys rising.0
rest_after (x ∷ xs) ys e rising =
    filter_no (is_after (Some e.0)) x (xs ++ e ∷ ys) (not_below x.0 e.0 (below_middle x.0 xs ys e rising.0)) ∙ rest_after xs ys e rising.1

-- and those after any row are the last of them
last_after : (row : Row) (es : Counted) → AreRising (rows_in es) → (before : Counted) × (es ≡ before ++ filter (is_after (Some row)) es)
unfolding IsStrictlySortedBy
last_after row [] rising = ([], refl)
last_after row (e ∷ es) rising =
    let rest = last_after row es rising.1 in
    elim (is_after (Some row) e) as (λ b. is_after (Some row) e ≡ b → (before : Counted) × (e ∷ es ≡ before ++ filter (is_after (Some row)) (e ∷ es))) [
      | true ↦ λ t.
          let above : AreAbove row es = still_above row e.0 es (is_less (row_cmp row e.0) t) rising.0 in
          ([], sym (filter_yes (is_after (Some row)) e es t ∙ ap (λ (xs : Counted). e ∷ xs) (all_after row es above)))
      | false ↦ λ t. (e ∷ rest.0, ap (λ (xs : Counted). e ∷ xs) rest.1 ∙ ap (λ xs. e ∷ rest.0 ++ xs) (sym (filter_no (is_after (Some row)) e es t)))
    ] refl

follows : (table : Bag) (row : Option Row) → (before : Counted) × (written table ≡ before ++ rows_after table row)
follows table None = ([], sym (all_after_none (written table)))
follows table (Some row) = last_after row (written table) (rising-written table)

-- the row of a table that follows these is followed by the others
pub behind_row : (table : Bag) (before rest : Counted) (e : Row × ℤ) → written table ≡ before ++ e ∷ rest → rows_after table (Some e.0) ≡ rest
behind_row table before rest e whole =
    ap (filter (is_after (Some e.0))) whole ∙ rest_after before rest e (subst (λ es. AreRising (rows_in es)) whole (rising-written table))

-- ---- where a page ends

-- this row is one of these, and not the last
pub record IsAmid (rows : Counted) (row : Row) : Type 0 where
  pub before : Counted
  pub end : Row × ℤ
  pub next : Row × ℤ
  pub rest : Counted
  pub split : rows ≡ before ++ end ∷ next ∷ rest
  pub same : end.0 ≡ row

abbrev mark_at : ℕ → Row × ℤ → Bookmark
mark_at view e = record { view = view; row = e.0 }

ends_amid : (view : ℕ) (rows : Counted) (limit : ℕ) (mark : Bookmark) → limit < length rows
    → option_map (mark_at view) (slice_get (take limit rows) (length (take limit rows) - 1)) ≡ Some mark → IsAmid rows mark.row
ends_amid view [] limit mark few e = absurd (omega (arith, few))
ends_amid view (x ∷ rows) zero mark few e = cc
ends_amid view (x ∷ []) (suc k) mark few e = absurd (omega (arith, few))
ends_amid view (x ∷ y ∷ rows) (suc zero) mark few e = record {
  before = [];
  end = x;
  next = y;
  rest = rows;
  split = refl;
  same = ap (λ (m : Bookmark). m.row) (same_Some (mark_at view x) mark e);
}
ends_amid view (x ∷ y ∷ rows) (suc (suc k)) mark few e =
    let step : length (x ∷ y ∷ take k rows) - 1 ≡ suc (length (y ∷ take k rows) - 1) = omega arith in
    let at : ℕ → Option Bookmark = λ i. option_map (mark_at view) (slice_get (x ∷ y ∷ take k rows) i) in
    let here : at (suc (length (y ∷ take k rows) - 1)) ≡ Some mark = ap at (sym step) ∙ e in
    let r = ends_amid view (y ∷ rows) (suc k) mark (omega (arith, few)) here in
    record { before = x ∷ r.before; end = r.end; next = r.next; rest = r.rest; split = ap (λ (es : Counted). x ∷ es) r.split; same = r.same }

more_left : (a b : ℕ) → nat_le a b ≡ false → b < a
more_left a b h = grind (arith, nat_tests)

-- the row of a bookmark that a page has left is one of the table's, and not the last
pub left_amid : (table : Bag) (view : ℕ) (row : Option Row) (limit : ℕ) (mark : Bookmark) → bookmark_after view (page_of table row limit) ≡ Some mark → IsAmid (written table) mark.row
left_amid table view row limit mark e =
    let rows : Counted = rows_after table row in
    let front = follows table row in
    elim (nat_le (length rows) limit) as (λ b. nat_le (length rows) limit ≡ b
    → cond b None (option_map (mark_at view) (slice_get (take limit rows) (length (take limit rows) - 1))) ≡ Some mark → IsAmid (written table) mark.row) [
      | true ↦ λ t f. cc
      | false ↦ λ t f.
          let r = ends_amid view rows limit mark (more_left (length rows) limit t) f in
          record {
            before = front.0 ++ r.before;
            end = r.end;
            next = r.next;
            rest = r.rest;
            split = front.1 ∙ ap (λ es. front.0 ++ es) r.split ∙ sym (append_assoc front.0 r.before (r.end ∷ r.next ∷ r.rest));
            same = r.same;
          }
    ] refl e

-- a page of one row leaves its bookmark there, where more rows follow
pub one_row : (table : Bag) (view : ℕ) (row : Option Row) (e : Row × ℤ) (rest : Counted) → rows_after table row ≡ e ∷ rest → 0 < length rest
    → bookmark_after view (page_of table row 1) ≡ Some (record { view = view; row = e.0 })
one_row table view row e rest is some =
    ap (λ (rows : Counted). bookmark_after view (record { rows = take 1 rows; last = nat_le (length rows) 1 })) is
    ∙ ap (λ b. cond b None (Some (mark_at view e))) (more (length rest) some)
  where
    more : (n : ℕ) → 0 < n → nat_le (suc n) 1 ≡ false
    more n h = grind (arith, nat_tests)
