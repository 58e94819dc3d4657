-- Changes that were written are read back.
use Rattle.std.proofs.Common.{◌≡◌, ◌≢◌, ℕ, zero, suc, ◌+◌, ◌==◌, ℤ, pos, negsuc, ◌+ℤ◌, cond, true, List, [], ◌∷◌, ◌++◌, length, map, take, Some, None, Ok, refl, ap, sym, subst, ◌∙◌, arith, FitsSigned, All, append_assoc, eq-eqb}
use Rattle.std.specs.Prelude.{IfSome, IsUtf8, slice_get}
use Rattle.std.specs.Cmp.Lexicographic.{pointwise_decides}
use Rattle.std.specs.Int.{w64}
use Rattle.std.specs.List.{AllByRecursion, AllZip, IsDistinct}
use Rattle.std.specs.List.Sorted.{IsStrictlySortedBy}
use Rattle.std.specs.Str.{bytes_eq}
use Rattle.std.specs.declared.cmp.Ordering.TheVariants.{Less}
use Rattle.std.proofs.lemmas.Int.{ints}
use Rattle.std.proofs.lemmas.List.{append-nil}
use Rattle.std.proofs.lemmas.Slice.Eq.{bytes_eq-Decides}
use Rattle.wh_row.specs.Bag.{written}
use Rattle.wh_row.specs.Records.{EachSumFits, running_sum}
use Rattle.wh_row.specs.Row.{Row, AreRising, row_cmp}
use Rattle.wh_row.specs.Weigh.{Counted, count_in}
use Rattle.wh_row.proofs.BagLaws.{count_in-append, count_in-written, each_entry, itself, rising-written}
use Rattle.wh_text.specs.Columns.{NamedKind, kinds_of, names_of}
use Rattle.wh_text.specs.declared.columns.Kind.{Kind}
use Rattle.wh_text_tables.specs.ChangesReadBack.{ChangesReadBack}
use Rattle.wh_text_tables.specs.Part.{below_header, part_gives}
use Rattle.wh_text_tables.specs.Records.{form_fault}
use Rattle.wh_text_tables.specs.TableReadsBack.{IsCell}
use Rattle.wh_text_tables.specs.TableText.{bag_read, counted_header, counting_of, entry_of, non_zero, table_scheme, text_gives, texts_after, texts_in_row}
use Rattle.wh_text_tables.specs.Inner.TableText.{entry_scheme}
use Rattle.wh_text_tables.specs.TableWritten.{cell_texts, record_of}
use Rattle.wh_text_tables.specs.declared.table.header.Content.TheVariants.{Changes}
use Rattle.wh_text_tables.specs.declared.table.header.Counting.TheVariants.{NonZero}
use Rattle.wh_text_tables.proofs.RecordsReadBack.{records-back}
use Rattle.wh_text_tables.proofs.TableReadingBack.{IsBack, bag-back, decimal-utf8, hash-utf8, header-wide, kept-cells, names-utf8, row-among, row-back, row-length, row-utf8, rows-back, whole-decimal, with-known}
use Rattle.wh_text_tables.proofs.TableSums.{part-added}

-- Records.

-- a row that changes, and by how much
record IsChangeOver (texts : List (List ℕ)) (kinds : List Kind) (row : Row) (number : ℤ) : Type 0 where
  pub cells : AllZip (IsCell texts) kinds row
  pub some : number ≢ pos 0
  pub fits : FitsSigned w64 number

non_zero-back : (n : ℤ) → n ≢ pos 0 → non_zero n ≡ Some n
non_zero-back (pos zero) some = absurd (some refl)
non_zero-back (pos (suc n)) some = refl
non_zero-back (negsuc n) some = refl

-- the record of a change is read as the change
change-back : (texts : List (List ℕ)) (kinds : List Kind) (entry : Row × ℤ) → IsDistinct bytes_eq texts → IsChangeOver texts kinds entry.0 entry.1 → entry_of NonZero texts kinds (record_of texts kinds entry) ≡ Some entry
change-back texts kinds entry distinct is = rw (whole-decimal entry.1 is.fits, non_zero-back entry.1 is.some, row-back texts kinds entry.0 distinct is.cells) refl

form-back : (texts : List (List ℕ)) (kinds : List Kind) (entry : Row × ℤ) (width number : ℕ) → width ≡ 1 + length kinds → All IsUtf8 texts → IsChangeOver texts kinds entry.0 entry.1 → form_fault width number (record_of texts kinds entry) ≡ None
form-back texts kinds entry width number many utf8 is =
    let long = row-length texts kinds entry.0 in
    let wide : (length (record_of texts kinds entry) == width) ≡ true = eq-eqb (length (record_of texts kinds entry)) width (omega arith) in
    rw (decimal-utf8 entry.1 is.fits, row-utf8 texts kinds entry.0 utf8 is.cells, wide) refl

-- All records.

-- each is a change
abbrev AreChanges : List (List ℕ) → List Kind → Counted → Type 0
AreChanges texts kinds es = AllByRecursion (λ (e : Row × ℤ). IsChangeOver texts kinds e.0 e.1) es

is-back : (columns : List NamedKind) (texts : List (List ℕ)) (width : ℕ) (entry : Row × ℤ) → width ≡ 1 + length (kinds_of columns) → IsDistinct bytes_eq texts → All IsUtf8 texts → IsChangeOver texts (kinds_of columns) entry.0 entry.1
    → IsBack Changes columns texts NonZero width entry
is-back columns texts width entry many distinct utf8 is = λ number before.
    let kinds = kinds_of columns in
    let known : texts_after NonZero kinds texts (record_of texts kinds entry) ≡ texts = with-known texts (texts_in_row kinds (cell_texts texts kinds entry.0)) (row-among texts kinds entry.0 is.cells) in
    rw (form-back texts kinds entry width number many utf8 is, known, change-back texts kinds entry distinct is) refl

all-back : (columns : List NamedKind) (texts : List (List ℕ)) (width : ℕ) (es : Counted) → width ≡ 1 + length (kinds_of columns) → IsDistinct bytes_eq texts → All IsUtf8 texts → AreChanges texts (kinds_of columns) es
    → AllByRecursion (IsBack Changes columns texts NonZero width) es
all-back columns texts width [] many distinct utf8 all = tt
all-back columns texts width (e ∷ es) many distinct utf8 all = (is-back columns texts width e many distinct utf8 all.0, all-back columns texts width es many distinct utf8 all.1)

-- Sums on the way: a row stands once, so its running sum is its own count.

absent : (row : Row) (es : Counted) → AllByRecursion (λ y. row_cmp row y ≡ Less) (map {A = Row × ℤ} {B = Row} (λ e. e.0) es) → count_in es row ≡ pos 0
absent row [] below = refl
absent row (e ∷ es) below = rw (below.0, absent row es below.1) refl

-- the running sum of an entry after those before, where no entry after it has its row
own-sum : (before : Counted) (e : Row × ℤ) (after : Counted) → count_in after e.0 ≡ pos 0 → running_sum before e ≡ count_in (before ++ e ∷ after) e.0
own-sum before e after none =
    let total : count_in (before ++ e ∷ after) e.0 ≡ count_in before e.0 +ℤ (e.1 +ℤ count_in after e.0) =
    count_in-append before (e ∷ after) e.0 ∙ ap (λ same. count_in before e.0 +ℤ (cond same e.1 (pos 0) +ℤ count_in after e.0)) (itself e.0) in
    omega (arith, ints)

each-sum-fits : (before es : Counted) → AreRising (map {A = Row × ℤ} {B = Row} (λ e. e.0) es) → ((q : Row) → FitsSigned w64 (count_in (before ++ es) q))
    → (place : ℕ) → IfSome (slice_get es place) (λ e. FitsSigned w64 (running_sum (before ++ take place es) e))
unfolding IsStrictlySortedBy
each-sum-fits before [] rising fits place = tt
each-sum-fits before (e ∷ es) rising fits zero =
    rw (append-nil before) (subst (FitsSigned w64) (sym (own-sum before e es (absent e.0 es rising.0))) (fits e.0))
each-sum-fits before (e ∷ es) rising fits (suc place) =
    let later = each-sum-fits (before ++ e ∷ []) es rising.1 (λ q. rw (append_assoc before (e ∷ []) es) (fits q)) place in
    rw (append_assoc before (e ∷ []) (take place es)) at later

-- The header.

header-given : (columns : List NamedKind) (rows : List (List (List ℕ))) → All IsUtf8 (names_of columns)
    → below_header (entry_scheme Changes columns) (counted_header (names_of columns) ∷ rows) ≡ Ok (record { kind = NonZero; width = length (counted_header (names_of columns)); rows = rows })
header-given columns rows utf8 =
    let names = names_of columns in
    let wide : (length (counted_header names) == length (counted_header names)) ≡ true = eq-eqb (length (counted_header names)) (length (counted_header names)) refl in
    let form : form_fault (length (counted_header names)) 1 (counted_header names) ≡ None = rw (hash-utf8, names-utf8 names utf8, wide) refl in
    let counting : counting_of Changes names (counted_header names) ≡ Some NonZero = rw ((pointwise_decides bytes_eq-Decides (counted_header names) (counted_header names)).1 refl) refl in
    rw (form, counting) refl

-- All changes.

pub changes-read-back : ChangesReadBack
unfolding text_gives
changes-read-back columns texts bag is =
    let kinds = kinds_of columns in
    let width = length (counted_header (names_of columns)) in
    let rows = map (record_of texts kinds) (written bag) in
    let changes : AreChanges texts kinds (written bag) =
    each_entry (IsChangeOver texts kinds) bag (λ row some. record { cells = is.rows row some; some = some; fits = is.counts row }) in
    let read = rows-back Changes columns texts NonZero width 2 [] (written bag) (all-back columns texts width (written bag) (header-wide columns) is.texts_distinct is.texts_utf8 changes) in
    let fits : EachSumFits (written bag) = each-sum-fits [] (written bag) (rising-written bag) (λ q. rw (count_in-written bag q) (is.counts q)) in
    ap (λ records. bag_read (part_gives (table_scheme Changes columns) (record { texts = texts; entries = [] }) records)) (records-back (names_of columns) rows (kept-cells texts kinds (written bag)))
    ∙ ap bag_read (part-added Changes columns (counted_header (names_of columns) ∷ rows) (record { texts = texts; entries = [] }) (record { texts = texts; entries = written bag }) _ (header-given columns rows is.names) read fits)
    ∙ ap (λ b. Ok (b, texts)) (bag-back bag)
