-- Pages of a table, one after another.
use Rattle.std.proofs.Common.{◌≡◌, refl, sym, ap, ◌∙◌, subst, ℕ, ℤ, zero, suc, ◌≤◌, List, [], ◌∷◌, ◌++◌, length, take, drop, map, Bool, true, false, arith, Option, Some, None, append_assoc, cond}
use Rattle.std.proofs.lemmas.List.{append-nil}
use Rattle.std.proofs.lemmas.Bool.Decides.{nat_tests}
use Rattle.std.specs.Prelude.{filter, nat_le}
use Rattle.std.specs.List.{AllByRecursion, flat_map}
use Rattle.std.specs.List.Sorted.{IsStrictlySortedBy}
use Rattle.std.specs.Cmp.{tied_itself}
use Rattle.std.specs.Ordering.{is_lt, ordering_reverse}
use Rattle.std.specs.declared.cmp.Ordering.TheVariants.{Less}
use Rattle.wh_row.specs.Bag.{Bag, written}
use Rattle.wh_row.specs.Row.{Row, row_cmp, AreRising}
use Rattle.wh_row.specs.Weigh.{Counted}
use Rattle.wh_row.proofs.BagLaws.{rows_total, rising-written}
use Rattle.wh_store.specs.Laws.{ReadsOn, PagesJoin}
use Rattle.wh_store.specs.Laws.ReadsOn.{ends, goes_on}
use Rattle.wh_store.specs.Pages.{Shown, is_after, rows_after}
use Rattle.wh_store.proofs.Pages.{all_after_none}

abbrev rows_in : Counted → List Row
rows_in es = map {A = Row × ℤ} {B = Row} (λ e. e.0) es

filter_yes : (p : Row × ℤ → Bool) (x : Row × ℤ) (xs : Counted) → p x ≡ true → filter p (x ∷ xs) ≡ x ∷ filter p xs
filter_yes p x xs t = ap (λ b. cond b (x ∷ filter p xs) (filter p xs)) t

filter_no : (p : Row × ℤ → Bool) (x : Row × ℤ) (xs : Counted) → p x ≡ false → filter p (x ∷ xs) ≡ filter p xs
filter_no p x xs t = ap (λ b. cond b (x ∷ filter p xs) (filter p xs)) t

-- rows above this one all stand after it
all_after : (row : Row) (es : Counted) → AllByRecursion (λ q. row_cmp row q ≡ Less) (rows_in es) → filter (is_after (Some row)) es ≡ es
all_after row [] all = refl
all_after row (e ∷ es) all = filter_yes (is_after (Some row)) e es (ap is_lt all.0) ∙ ap (λ rest. e ∷ rest) (all_after row es all.1)

-- a row does not stand after itself, nor after one above it
not_itself : (row : Row) → is_lt (row_cmp row row) ≡ false
not_itself row = ap is_lt (tied_itself rows_total row)

not_below : (low row : Row) → row_cmp low row ≡ Less → is_lt (row_cmp row low) ≡ false
not_below low row less = ap is_lt (rows_total.antisymm row low ∙ ap ordering_reverse less)

-- the row in the middle is above those before it
below_middle : (q : Row) (xs ys : Counted) (e : Row × ℤ) → AllByRecursion (λ r. row_cmp q r ≡ Less) (rows_in (xs ++ e ∷ ys)) → row_cmp q e.0 ≡ Less
below_middle q [] ys e all = all.0
below_middle q (x ∷ xs) ys e all = below_middle q xs ys e all.1

-- of rising rows, those after one of them are those that follow it
rest_after : (xs ys : Counted) (e : Row × ℤ) → AreRising (rows_in (xs ++ e ∷ ys)) → filter (is_after (Some e.0)) (xs ++ e ∷ ys) ≡ ys
unfolding IsStrictlySortedBy
rest_after [] ys e rising = filter_no (is_after (Some e.0)) e ys (not_itself e.0) ∙ all_after e.0 ys rising.0
rest_after (x ∷ xs) ys e rising =
    filter_no (is_after (Some e.0)) x (xs ++ e ∷ ys) (not_below x.0 e.0 (below_middle x.0 xs ys e rising.0)) ∙ rest_after xs ys e rising.1

take_all_of : (xs : Counted) (n : ℕ) → length xs ≤ n → take n xs ≡ xs
take_all_of [] zero h = refl
take_all_of [] (suc n) h = refl
take_all_of (x ∷ xs) zero h = absurd (omega arith)
take_all_of (x ∷ xs) (suc n) h = ap (λ ys. x ∷ ys) (take_all_of xs n (omega arith))

take_drop : (xs : Counted) (n : ℕ) → take n xs ++ drop n xs ≡ xs
take_drop xs zero = refl
take_drop [] (suc n) = refl
take_drop (x ∷ xs) (suc n) = ap (λ ys. x ∷ ys) (take_drop xs n)

few : (a b : ℕ) → nat_le a b ≡ true → a ≤ b
few a b h = grind (arith, nat_tests)

-- pages from a row on, joined, are what follows it
joins : (table : Bag) (after : Option Row) (pages : List Shown) (done : Counted) → written table ≡ done ++ rows_after table after → ReadsOn table after pages → flat_map (λ page. page.rows) pages ≡ rows_after table after
joins table low pages done parts (ends after limit last) = append-nil _ ∙ take_all_of (rows_after table after) limit (few _ _ last)
joins table low pages done parts (goes_on after limit before row count rest more rows on) =
    let left = rows_after table after in
    let cut : left ≡ (before ++ (row, count) ∷ []) ++ drop limit left = sym (take_drop left limit) ∙ ap (λ xs. xs ++ drop limit left) rows in
    let whole : written table ≡ (done ++ before) ++ (row, count) ∷ drop limit left =
    parts ∙ ap (λ xs. done ++ xs) (cut ∙ append_assoc before ((row, count) ∷ []) (drop limit left)) ∙ sym (append_assoc done before ((row, count) ∷ drop limit left)) in
    let rising = subst (λ es. AreRising (rows_in es)) whole (rising-written table) in
    let next : rows_after table (Some row) ≡ drop limit left = ap (filter (is_after (Some row))) whole ∙ rest_after (done ++ before) (drop limit left) (row, count) rising in
    let again : written table ≡ (done ++ (before ++ (row, count) ∷ [])) ++ rows_after table (Some row) =
    parts ∙ ap (λ xs. done ++ xs) (cut ∙ ap (λ xs. (before ++ (row, count) ∷ []) ++ xs) (sym next)) ∙ sym (append_assoc done (before ++ (row, count) ∷ []) (rows_after table (Some row))) in
    ap (λ xs. take limit left ++ xs) (joins table (Some row) rest (done ++ (before ++ (row, count) ∷ [])) again on ∙ next) ∙ take_drop left limit

pub pages_join : PagesJoin
pages_join table pages on = joins table None pages [] (sym (all_after_none (written table))) on ∙ all_after_none (written table)
