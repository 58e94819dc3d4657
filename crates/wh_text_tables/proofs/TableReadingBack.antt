-- A table that was written is read back.
use Rattle.std.proofs.Common.{◌≡◌, ◌≢◌, ℕ, zero, suc, ◌+◌, ◌<◌, ◌^◌, ◌==◌, ◌&&◌, ℤ, pos, negsuc, ◌+ℤ◌, ◌≤ℤ◌, Bool, true, false, cond, ◌||◌, List, [], ◌∷◌, ◌++◌, length, map, take, codes, get_or, Option, Some, None, Result, Ok, Err, ◌⊎◌, inl, inr, refl, ap, sym, subst, ◌∙◌, arith, FitsSigned, All, append_assoc, eq-eqb}
use Rattle.std.specs.Prelude.{IfSome, IsSome, IsUtf8, slice_get, unwrap_or}
use Rattle.std.specs.Cmp.Lexicographic.{pointwise_decides, unequal}
use Rattle.std.specs.Fmt.{signed_decimal}
use Rattle.std.specs.Int.{w64}
use Rattle.std.specs.Int.Signed.{mag}
use Rattle.std.specs.List.{AllByRecursion, AllZip, IsDistinct, list_all, list_any}
use Rattle.std.specs.Result.{result_ok}
use Rattle.std.specs.Str.{bytes_eq, is_utf8}
use Rattle.std.specs.Str.Parse.{IsNumeral, ParsesSigned, signed_digits_value, without_leading_sign}
use Rattle.std.specs.Bool.{Decides}
use Rattle.std.proofs.lemmas.Bool.{and_parts, both_ways, cases_Bool, false_from_ne_true}
use Rattle.std.proofs.lemmas.Bool.Decides.{Decides-and}
use Rattle.std.proofs.lemmas.Fmt.{IsAscii-signed, parse-signed_decimal}
use Rattle.std.proofs.lemmas.Int.{ints}
use Rattle.std.proofs.lemmas.List.{append-nil, length-map}
use Rattle.std.proofs.lemmas.List.Folds.{list_all-append}
use Rattle.std.proofs.lemmas.List.Sums.{position_or_len_is}
use Rattle.std.proofs.lemmas.Map.Made.{AllPairs-from_IsDistinct}
use Rattle.std.proofs.lemmas.Option.{get_or_from_slice_get, slice_get_within}
use Rattle.std.proofs.lemmas.Slice.Eq.{bytes_eq-Decides}
use Rattle.std.proofs.lemmas.Str.{IsUtf8-from_ascii, is_utf8-from_IsUtf8}
use Rattle.csv.specs.Writing.{read_back}
use Rattle.wh_row.specs.Bag.{Bag, bag_of, written}
use Rattle.wh_row.specs.Records.{EachSumFits, running_sum}
use Rattle.wh_row.specs.Row.{Row, is_row}
use Rattle.wh_row.specs.Weigh.{Counted, count_in}
use Rattle.wh_row.proofs.BagLaws.{count-bag_of, count_in-append, count_in-written, each_entry, itself, same_bag}
use Rattle.wh_text.specs.Dict.{number_of_text, with_texts}
use Rattle.wh_text.specs.Columns.{NamedKind, kinds_of, names_of}
use Rattle.wh_text.specs.WholeNumber.{are_digits, is_i64, whole_number}
use Rattle.wh_text.specs.declared.columns.Kind.{Kind}
use Rattle.wh_text.specs.declared.columns.Kind.TheVariants as of_kind
use Rattle.wh_text.proofs.WholeNumbers.{are_digits-decides, is_i64-decides, whole_number-parse}
use Rattle.wh_text.specs.ValueOrFault.{◌>>=◌}
use Rattle.wh_text_tables.specs.Part.{below_header, part_gives, record_gives, records_give}
use Rattle.wh_text_tables.specs.Records.{form_fault}
use Rattle.wh_text_tables.specs.TableReadsBack.{IsCell, TableReadsBack}
use Rattle.wh_text_tables.specs.TableText.{bag_read, cell_number, counted_header, counting_of, entry_of, positive, row_of, table_scheme, text_gives, text_in, texts_after, texts_in_row}
use Rattle.wh_text_tables.specs.Inner.TableText.{entry_scheme}
use Rattle.wh_text_tables.specs.TableWritten.{cell_text, cell_texts, record_of}
use Rattle.wh_text_tables.specs.declared.table.header.Content.{Content}
use Rattle.wh_text_tables.specs.declared.table.header.Content.TheVariants.{Table}
use Rattle.wh_text_tables.specs.declared.table.header.Counting.{Counting}
use Rattle.wh_text_tables.specs.declared.table.header.Counting.TheVariants.{Positive}
use Rattle.wh_text_tables.proofs.RecordsReadBack.{records-back}
use Rattle.wh_text_tables.proofs.TableSums.{part-added}

-- Numbers.

small : (z : ℤ) → FitsSigned w64 z → mag z < 2 ^ 63
small (pos n) fits = fits.sfits
small (negsuc n) fits = fits.sfits

-- what `parse` answers of a text
parsed : (text : List ℕ) → (r : Result ℤ (Unit {0})) × ParsesSigned w64 10 text r
parsed text = by (cases_Bool (are_digits (without_leading_sign text) && is_i64 (signed_digits_value 10 text)))
    (Decides-and (are_digits (without_leading_sign text)) (is_i64 (signed_digits_value 10 text)) (are_digits-decides (without_leading_sign text)) (is_i64-decides (signed_digits_value 10 text)))
  where
    by : ((are_digits (without_leading_sign text) && is_i64 (signed_digits_value 10 text)) ≡ true) ⊎ ((are_digits (without_leading_sign text) && is_i64 (signed_digits_value 10 text)) ≡ false)
        → Decides (are_digits (without_leading_sign text) && is_i64 (signed_digits_value 10 text)) (IsNumeral 10 (without_leading_sign text) × FitsSigned w64 (signed_digits_value 10 text))
        → (r : Result ℤ (Unit {0})) × ParsesSigned w64 10 text r
    by (inl e) test = (Ok (signed_digits_value 10 text), (test.0 e, refl))
    by (inr e) test = (Err tt, λ holds. both_ways (are_digits (without_leading_sign text) && is_i64 (signed_digits_value 10 text)) e (test.1 holds))

-- a number of i64 in decimal writes that number
pub whole-decimal : (z : ℤ) → FitsSigned w64 z → whole_number (signed_decimal z) ≡ Some z
whole-decimal z fits =
    let p = parsed (signed_decimal z) in
    sym (whole_number-parse (signed_decimal z) p.0 p.1) ∙ ap result_ok (parse-signed_decimal w64 z (signed_decimal z) p.0 fits (small z fits) refl p.1)

pub decimal-utf8 : (z : ℤ) → FitsSigned w64 z → is_utf8 (signed_decimal z) ≡ true
decimal-utf8 z fits = is_utf8-from_IsUtf8 (signed_decimal z) (IsUtf8-from_ascii (signed_decimal z) (IsAscii-signed z (small z fits)))

-- Cells.

cell-number : (texts : List (List ℕ)) (kind : Kind) (number : ℤ) → IsDistinct bytes_eq texts → IsCell texts kind number → cell_number texts kind (cell_text texts kind number) ≡ Some number
cell-number texts of_kind.Int number distinct is = whole-decimal number is
cell-number texts of_kind.Text (negsuc n) distinct is = cc
cell-number texts of_kind.Text (pos n) distinct is = by (slice_get texts n) refl is
  where
    by : (o : Option (List ℕ)) → slice_get texts n ≡ o → IsSome o → Some (pos (number_of_text texts (unwrap_or o []))) ≡ Some (pos n)
    by None at has = cc
    by (Some text) at has =
        let here : get_or texts n [] ≡ text = get_or_from_slice_get texts n text [] at in
        let below = slice_get_within texts n text at in
        let apart = AllPairs-from_IsDistinct bytes_eq-Decides texts distinct in
        ap (λ k. Some (pos k))
        (position_or_len_is (bytes_eq text) texts n [] (omega arith)
        (λ k l. false_from_ne_true (bytes_eq text (get_or texts k [])) (λ e. apart k n [] l below (sym ((bytes_eq-Decides text (get_or texts k [])).0 e) ∙ sym here)))
        (λ l. rw here ((bytes_eq-Decides text text).1 refl)))

-- a cell that is written is UTF-8
cell-utf8 : (texts : List (List ℕ)) (kind : Kind) (number : ℤ) → All IsUtf8 texts → IsCell texts kind number → is_utf8 (cell_text texts kind number) ≡ true
cell-utf8 texts of_kind.Int number utf8 is = decimal-utf8 number is
cell-utf8 texts of_kind.Text (negsuc n) utf8 is = cc
cell-utf8 texts of_kind.Text (pos n) utf8 is = by (slice_get texts n) refl is
  where
    by : (o : Option (List ℕ)) → slice_get texts n ≡ o → IsSome o → is_utf8 (unwrap_or o []) ≡ true
    by None at has = cc
    by (Some text) at has = rw (← get_or_from_slice_get texts n text [] at) (is_utf8-from_IsUtf8 (get_or texts n []) (utf8 n [] (slice_get_within texts n text at)))

-- these texts stand among those
abbrev pub all_among : List (List ℕ) → List (List ℕ) → Bool
all_among texts more = list_all (λ text. list_any (bytes_eq text) texts) more

found-at : (texts : List (List ℕ)) (n : ℕ) (text : List ℕ) → slice_get texts n ≡ Some text → list_any (bytes_eq text) texts ≡ true
found-at [] n text e = cc
found-at (t ∷ texts) zero text e =
    let same : t ≡ text = cc in
    rw (same, (bytes_eq-Decides text text).1 refl) refl
found-at (t ∷ texts) (suc n) text e = either (bytes_eq text t) (list_any (bytes_eq text) texts) (found-at texts n text e)
  where
    either : (a b : Bool) → b ≡ true → (a || b) ≡ true
    either true b h = refl
    either false b h = h

-- the text of a cell stands among the texts
cell-among : (texts : List (List ℕ)) (kind : Kind) (number : ℤ) → IsCell texts kind number → all_among texts (text_in kind (cell_text texts kind number)) ≡ true
cell-among texts of_kind.Int number is = refl
cell-among texts of_kind.Text (negsuc n) is = cc
cell-among texts of_kind.Text (pos n) is = by (slice_get texts n) refl is
  where
    by : (o : Option (List ℕ)) → slice_get texts n ≡ o → IsSome o → all_among texts (unwrap_or o [] ∷ []) ≡ true
    by None at has = cc
    by (Some text) at has = rw (found-at texts n text at) refl

-- Rows.

pub row-back : (texts : List (List ℕ)) (kinds : List Kind) (row : Row) → IsDistinct bytes_eq texts → AllZip (IsCell texts) kinds row → row_of texts kinds (cell_texts texts kinds row) ≡ Some row
unfolding row_of cell_texts
row-back texts [] [] distinct all = refl
row-back texts [] (number ∷ row) distinct all = absurd all
row-back texts (kind ∷ kinds) [] distinct all = absurd all
row-back texts (kind ∷ kinds) (number ∷ row) distinct all = rw (cell-number texts kind number distinct all.0, row-back texts kinds row distinct all.1) refl

pub row-utf8 : (texts : List (List ℕ)) (kinds : List Kind) (row : Row) → All IsUtf8 texts → AllZip (IsCell texts) kinds row → list_all is_utf8 (cell_texts texts kinds row) ≡ true
unfolding cell_texts
row-utf8 texts [] [] utf8 all = refl
row-utf8 texts [] (number ∷ row) utf8 all = absurd all
row-utf8 texts (kind ∷ kinds) [] utf8 all = absurd all
row-utf8 texts (kind ∷ kinds) (number ∷ row) utf8 all = rw (cell-utf8 texts kind number utf8 all.0, row-utf8 texts kinds row utf8 all.1) refl

pub row-length : (texts : List (List ℕ)) (kinds : List Kind) (row : Row) → length (cell_texts texts kinds row) ≡ length kinds
unfolding cell_texts
row-length texts [] row = refl
row-length texts (kind ∷ kinds) [] = ap suc (row-length texts kinds [])
row-length texts (kind ∷ kinds) (number ∷ row) = ap suc (row-length texts kinds row)

pub row-among : (texts : List (List ℕ)) (kinds : List Kind) (row : Row) → AllZip (IsCell texts) kinds row → all_among texts (texts_in_row kinds (cell_texts texts kinds row)) ≡ true
unfolding cell_texts texts_in_row
row-among texts [] [] all = refl
row-among texts [] (number ∷ row) all = absurd all
row-among texts (kind ∷ kinds) [] all = absurd all
row-among texts (kind ∷ kinds) (number ∷ row) all =
    rw (list_all-append (λ text. list_any (bytes_eq text) texts) (text_in kind (cell_text texts kind number)) (texts_in_row kinds (cell_texts texts kinds row)), cell-among texts kind number all.0)
    (row-among texts kinds row all.1)

-- Records.

-- a row that a table has, and its count
pub record IsEntryOver (texts : List (List ℕ)) (kinds : List Kind) (row : Row) (number : ℤ) : Type 0 where
  pub cells : AllZip (IsCell texts) kinds row
  pub least : pos 0 ≤ℤ number
  pub some : number ≢ pos 0
  pub fits : FitsSigned w64 number

positive-back : (n : ℤ) → pos 0 ≤ℤ n → n ≢ pos 0 → positive n ≡ Some n
positive-back (pos zero) least some = absurd (some refl)
positive-back (pos (suc n)) least some = refl
positive-back (negsuc n) least some = absurd (omega (arith, ints))

-- the record of an entry is read as the entry
entry-back : (texts : List (List ℕ)) (kinds : List Kind) (entry : Row × ℤ) → IsDistinct bytes_eq texts → IsEntryOver texts kinds entry.0 entry.1 → entry_of Positive texts kinds (record_of texts kinds entry) ≡ Some entry
entry-back texts kinds entry distinct is = rw (whole-decimal entry.1 is.fits, positive-back entry.1 is.least is.some, row-back texts kinds entry.0 distinct is.cells) refl

form-back : (texts : List (List ℕ)) (kinds : List Kind) (entry : Row × ℤ) (width number : ℕ) → width ≡ 1 + length kinds → All IsUtf8 texts → IsEntryOver texts kinds entry.0 entry.1 → form_fault width number (record_of texts kinds entry) ≡ None
form-back texts kinds entry width number many utf8 is =
    let long = row-length texts kinds entry.0 in
    let wide : (length (record_of texts kinds entry) == width) ≡ true = eq-eqb (length (record_of texts kinds entry)) width (omega arith) in
    rw (decimal-utf8 entry.1 is.fits, row-utf8 texts kinds entry.0 utf8 is.cells, wide) refl

-- texts that have numbers add none
pub with-known : (texts more : List (List ℕ)) → all_among texts more ≡ true → with_texts texts more ≡ texts
unfolding with_texts
with-known texts [] all = refl
with-known texts (text ∷ more) all =
    let parts = and_parts (list_any (bytes_eq text) texts) (all_among texts more) all in
    rw parts.0 (with-known texts more parts.1)

pub kept-cells : (texts : List (List ℕ)) (kinds : List Kind) (es : Counted) → map read_back (map (record_of texts kinds) es) ≡ map (record_of texts kinds) es
kept-cells texts kinds [] = refl
kept-cells texts kinds (e ∷ es) = ap (λ rest. record_of texts kinds e ∷ rest) (kept-cells texts kinds es)

-- All records.

-- the record of an entry puts it last, whatever its number and what was read before
abbrev pub IsBack : Content → List NamedKind → List (List ℕ) → Counting → ℕ → Row × ℤ → Type 0
IsBack content columns texts count width entry = (number : ℕ) (before : Counted)
    → record_gives (entry_scheme content columns) width count (record { texts = texts; entries = before }) number (record_of texts (kinds_of columns) entry) ≡ Ok (record { texts = texts; entries = before ++ entry ∷ [] })

pub rows-back : (content : Content) (columns : List NamedKind) (texts : List (List ℕ)) (count : Counting) (width number : ℕ) (before es : Counted) → AllByRecursion (IsBack content columns texts count width) es
    → records_give (entry_scheme content columns) width count number (record { texts = texts; entries = before }) (map (record_of texts (kinds_of columns)) es) ≡ Ok (record { texts = texts; entries = before ++ es })
unfolding records_give
rows-back content columns texts count width number before [] all = ap (λ es. Ok (record { texts = texts; entries = es })) (sym (append-nil before))
rows-back content columns texts count width number before (e ∷ es) all =
    ap (λ r. r >>= (λ after. records_give (entry_scheme content columns) width count (number + 1) after (map (record_of texts (kinds_of columns)) es))) (all.0 number before)
    ∙ rows-back content columns texts count width (number + 1) (before ++ e ∷ []) es all.1
    ∙ ap (λ all. Ok (record { texts = texts; entries = all })) (append_assoc before (e ∷ []) es)

-- each is an entry of a table
abbrev pub AreEntries : List (List ℕ) → List Kind → Counted → Type 0
AreEntries texts kinds es = AllByRecursion (λ (e : Row × ℤ). IsEntryOver texts kinds e.0 e.1) es

is-back : (columns : List NamedKind) (texts : List (List ℕ)) (width : ℕ) (entry : Row × ℤ) → width ≡ 1 + length (kinds_of columns) → IsDistinct bytes_eq texts → All IsUtf8 texts → IsEntryOver texts (kinds_of columns) entry.0 entry.1
    → IsBack Table columns texts Positive width entry
is-back columns texts width entry many distinct utf8 is = λ number before.
    let kinds = kinds_of columns in
    let known : texts_after Positive kinds texts (record_of texts kinds entry) ≡ texts = with-known texts (texts_in_row kinds (cell_texts texts kinds entry.0)) (row-among texts kinds entry.0 is.cells) in
    rw (form-back texts kinds entry width number many utf8 is, known, entry-back texts kinds entry distinct is) refl

all-back : (columns : List NamedKind) (texts : List (List ℕ)) (width : ℕ) (es : Counted) → width ≡ 1 + length (kinds_of columns) → IsDistinct bytes_eq texts → All IsUtf8 texts → AreEntries texts (kinds_of columns) es
    → AllByRecursion (IsBack Table columns texts Positive width) es
all-back columns texts width [] many distinct utf8 all = tt
all-back columns texts width (e ∷ es) many distinct utf8 all = (is-back columns texts width e many distinct utf8 all.0, all-back columns texts width es many distinct utf8 all.1)

-- Sums on the way.

count-least : (texts : List (List ℕ)) (kinds : List Kind) (es : Counted) → AreEntries texts kinds es → (q : Row) → pos 0 ≤ℤ count_in es q
count-least texts kinds [] all q = omega (arith, ints)
count-least texts kinds (e ∷ es) all q = by (is_row q e.0) (count-least texts kinds es all.1 q)
  where
    by : (same : Bool) → pos 0 ≤ℤ count_in es q → pos 0 ≤ℤ (cond same e.1 (pos 0) +ℤ count_in es q)
    by true rest = let own = all.0.least in omega (arith, ints)
    by false rest = omega (arith, ints)

-- a part of a sum that fits, where the rest is not below zero
part-fits : (a c : ℤ) → pos 0 ≤ℤ a → pos 0 ≤ℤ c → FitsSigned w64 (a +ℤ c) → FitsSigned w64 a
part-fits (negsuc n) c least more fits = absurd (omega (arith, ints))
part-fits (pos n) (negsuc m) least more fits = absurd (omega (arith, ints))
part-fits (pos n) (pos m) least more fits = record { sfits = (let total = fits.sfits in omega arith) }

-- the running sum of the first entry after those before, where all sums fit in the end
sum-fits : (texts : List (List ℕ)) (kinds : List Kind) (before : Counted) (e : Row × ℤ) (after : Counted) → AreEntries texts kinds before → IsEntryOver texts kinds e.0 e.1 → AreEntries texts kinds after
    → FitsSigned w64 (count_in (before ++ e ∷ after) e.0) → FitsSigned w64 (running_sum before e)
sum-fits texts kinds before e after all own rest fits =
    let first = count-least texts kinds before all e.0 in
    let last = count-least texts kinds after rest e.0 in
    let mine = own.least in
    let total : count_in (before ++ e ∷ after) e.0 ≡ running_sum before e +ℤ count_in after e.0 =
    count_in-append before (e ∷ after) e.0 ∙ ap (λ same. count_in before e.0 +ℤ (cond same e.1 (pos 0) +ℤ count_in after e.0)) (itself e.0) ∙ grouped (count_in before e.0) e.1 (count_in after e.0) in
    part-fits (running_sum before e) (count_in after e.0) (omega (arith, ints)) last (subst (FitsSigned w64) total fits)
  where
    grouped : (a b c : ℤ) → a +ℤ (b +ℤ c) ≡ (a +ℤ b) +ℤ c
    grouped a b c = omega (arith, ints)

each-sum-fits : (texts : List (List ℕ)) (kinds : List Kind) (before es : Counted) → AreEntries texts kinds before → AreEntries texts kinds es → ((q : Row) → FitsSigned w64 (count_in (before ++ es) q))
    → (place : ℕ) → IfSome (slice_get es place) (λ e. FitsSigned w64 (running_sum (before ++ take place es) e))
each-sum-fits texts kinds before [] all more fits place = tt
each-sum-fits texts kinds before (e ∷ es) all more fits zero = rw (append-nil before) (sum-fits texts kinds before e es all more.0 more.1 (fits e.0))
each-sum-fits texts kinds before (e ∷ es) all more fits (suc place) =
    let later = each-sum-fits texts kinds (before ++ e ∷ []) es (put-last before all more.0) more.1 (λ q. rw (append_assoc before (e ∷ []) es) (fits q)) place in
    rw (append_assoc before (e ∷ []) (take place es)) at later
  where
    put-last : (xs : Counted) → AreEntries texts kinds xs → IsEntryOver texts kinds e.0 e.1 → AreEntries texts kinds (xs ++ e ∷ [])
    put-last [] a own = (own, tt)
    put-last (x ∷ xs) a own = (a.0, put-last xs a.1 own)

-- The header.

header-back : (names : List (List ℕ)) → counting_of Table names (counted_header names) ≡ Some Positive
header-back names =
    rw (unequal bytes_eq (counted_header names) names (λ same. not-suc (length names) same), (pointwise_decides bytes_eq-Decides (counted_header names) (counted_header names)).1 refl) refl
  where
    not-suc : (n : ℕ) → suc n ≡ n → ⊥
    not-suc n e = omega arith

pub names-utf8 : (names : List (List ℕ)) → All IsUtf8 names → list_all is_utf8 names ≡ true
names-utf8 [] all = refl
names-utf8 (n ∷ names) all = rw (is_utf8-from_IsUtf8 n (all 0 [] (omega arith)), names-utf8 names (λ k d l. all (suc k) d (omega arith))) refl

hash-ascii : (i : ℕ) → get_or (codes "#") i 0 < 128
hash-ascii zero = omega arith
hash-ascii (suc i) = omega arith

pub hash-utf8 : is_utf8 (codes "#") ≡ true
hash-utf8 = is_utf8-from_IsUtf8 (codes "#") (IsUtf8-from_ascii (codes "#") hash-ascii)

header-given : (columns : List NamedKind) (rows : List (List (List ℕ))) → All IsUtf8 (names_of columns)
    → below_header (entry_scheme Table columns) (counted_header (names_of columns) ∷ rows) ≡ Ok (record { kind = Positive; width = length (counted_header (names_of columns)); rows = rows })
header-given columns rows utf8 =
    let names = names_of columns in
    let wide : (length (counted_header names) == length (counted_header names)) ≡ true = eq-eqb (length (counted_header names)) (length (counted_header names)) refl in
    let form : form_fault (length (counted_header names)) 1 (counted_header names) ≡ None = rw (hash-utf8, names-utf8 names utf8, wide) refl in
    rw (form, header-back names) refl

-- a header with a count is as long as the record of a row
pub header-wide : (columns : List NamedKind) → length (counted_header (names_of columns)) ≡ 1 + length (kinds_of columns)
header-wide columns =
    let names = length-map columns (λ (column : NamedKind). column.name) in
    let kinds = length-map columns (λ (column : NamedKind). column.kind) in
    omega arith

-- The whole table.

pub bag-back : (bag : Bag) → bag_of (written bag) ≡ bag
bag-back bag = same_bag (bag_of (written bag)) bag (λ q. count-bag_of (written bag) q ∙ count_in-written bag q)

pub table-reads-back : TableReadsBack
unfolding text_gives
table-reads-back columns texts bag is =
    let kinds = kinds_of columns in
    let width = length (counted_header (names_of columns)) in
    let rows = map (record_of texts kinds) (written bag) in
    let entries : AreEntries texts kinds (written bag) =
    each_entry (IsEntryOver texts kinds) bag (λ row some. record { cells = is.rows row some; least = is.table row; some = some; fits = is.counts row }) in
    let read = rows-back Table columns texts Positive width 2 [] (written bag) (all-back columns texts width (written bag) (header-wide columns) is.texts_distinct is.texts_utf8 entries) in
    let fits : EachSumFits (written bag) = each-sum-fits texts kinds [] (written bag) tt entries (λ q. rw (count_in-written bag q) (is.counts q)) in
    ap (λ records. bag_read (part_gives (table_scheme Table columns) (record { texts = texts; entries = [] }) records)) (records-back (names_of columns) rows (kept-cells texts kinds (written bag)))
    ∙ ap bag_read (part-added Table columns (counted_header (names_of columns) ∷ rows) (record { texts = texts; entries = [] }) (record { texts = texts; entries = written bag }) _ (header-given columns rows is.names) read fits)
    ∙ ap (λ b. Ok (b, texts)) (bag-back bag)
