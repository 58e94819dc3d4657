-- What the text of a table or of changes gives is a bag of rows with a cell for each column, and a table counts none of them below zero.
use Rattle.std.proofs.Common.{◌≡◌, ◌≢◌, ℕ, zero, suc, ℤ, pos, negsuc, ◌+ℤ◌, ◌≤ℤ◌, Bool, true, false, cond, List, [], ◌∷◌, ◌++◌, ◌+◌, length, Option, Some, None, Result, Ok, Err, refl, ap, sym, subst, ◌∙◌, arith}
use Rattle.std.specs.Prelude.{ok_or, if◌then◌else◌, option_and_then, option_map, IfOk}
use Rattle.std.specs.Cmp.Lexicographic.{pointwise}
use Rattle.std.specs.List.{AllByRecursion}
use Rattle.std.specs.Str.{bytes_eq}
use Rattle.std.proofs.lemmas.Int.{ints}
use Rattle.std.proofs.lemmas.List.{length-map}
use lib.IntN.{+ℤ_idl}
use Rattle.wh_row.specs.Bag.{Bag, HasWidth, IsTable, bag_of}
use Rattle.wh_row.specs.Records.{running_sum}
use Rattle.wh_row.specs.Row.{Row, is_row}
use Rattle.wh_row.specs.Weigh.{Counted, count_in}
use Rattle.wh_row.proofs.BagLaws.{count-bag_of, same_row}
use Rattle.wh_text.specs.Columns.{NamedKind, kinds_of, names_of}
use Rattle.wh_text.specs.declared.columns.Kind.{Kind}
use Rattle.wh_text.specs.WholeNumber.{is_i64}
use Rattle.wh_text.specs.declared.fault.LoadFault.{LoadFault}
use Rattle.wh_text.specs.declared.fault.LoadFault.TheVariants.{Header, Number}
use Rattle.wh_text.specs.ValueOrFault.{or_fault}
use Rattle.wh_text_tables.specs.Part.{Below, below_header, part_of, record_gives, records_give}
use Rattle.wh_text_tables.specs.Records.{form_fault, records_of}
use Rattle.wh_text_tables.specs.TableText.{EntriesRead, added, cell_number, count_of, counted_header, counting_of, entry_of, positive, row_cells, row_of, table_scheme, text_gives, texts_after, with_entry}
use Rattle.wh_text_tables.specs.declared.table.header.Content.{Content}
use Rattle.wh_text_tables.specs.declared.table.header.Content.TheVariants.{Table}
use Rattle.wh_text_tables.specs.declared.table.header.Counting.{Counting}
use Rattle.wh_text_tables.specs.declared.table.header.Counting.TheVariants.{NonZero, Once, Positive}
use Rattle.wh_text_tables.proofs.PartReads.{from_step, or_fault-ok, same_Ok, some-or}

-- One record.

and_then-some : {A B : Type 0} (f : A → Option B) (o : Option A) (y : B) → option_and_then f o ≡ Some y → (x : A) × (f x ≡ Some y)
and_then-some f None y e = cc e
and_then-some f (Some x) y e = (x, e)

map-some : {A B : Type 0} (f : A → B) (o : Option A) (y : B) → option_map f o ≡ Some y → (x : A) × (o ≡ Some x) × (f x ≡ y)
map-some f None y e = cc e
map-some f (Some x) y e = (x, refl, cc)

length-row : (texts : List (List ℕ)) (kinds : List Kind) (cells : List (List ℕ)) (row : Row) → row_of texts kinds cells ≡ Some row → length row ≡ length kinds
unfolding row_of
length-row texts [] cells row e = let none : [] ≡ row = cc in rw (← none) refl
length-row texts (kind ∷ kinds) [] row e = cc e
length-row texts (kind ∷ kinds) (cell ∷ cells) row e =
    let number = and_then-some (λ n. option_map (λ r. n ∷ r) (row_of texts kinds cells)) (cell_number texts kind cell) row e in
    let rest = map-some (λ r. number.0 ∷ r) (row_of texts kinds cells) row number.1 in
    rw (← rest.2) (ap suc (length-row texts kinds cells rest.0 rest.1))

-- counts that tell of a table
abbrev pub TellsTable : Counting → Type 0
TellsTable Once = Unit {0}
TellsTable Positive = Unit {0}
TellsTable NonZero = ⊥

positive-least : (n m : ℤ) → positive n ≡ Some m → pos 0 ≤ℤ m
positive-least (pos zero) m e = cc e
positive-least (pos (suc n)) m e = let same : pos (suc n) ≡ m = cc in rw (← same) (omega (arith, ints))
positive-least (negsuc n) m e = cc e

least-count : (counting : Counting) (cells : List (List ℕ)) (n : ℤ) → TellsTable counting → count_of counting cells ≡ Some n → pos 0 ≤ℤ n
least-count Once cells n is e = let same : pos 1 ≡ n = cc in rw (← same) (omega (arith, ints))
least-count Positive cells n is e = let written = and_then-some positive _ n e in positive-least written.0 n written.1
least-count NonZero cells n is e = absurd is

-- an entry of a row of this width, which in a table does not count below zero
pub record IsEntry (counting : Counting) (width : ℕ) (entry : Row × ℤ) : Type 0 where
  pub wide : length entry.0 ≡ width
  pub least : TellsTable counting → pos 0 ≤ℤ entry.1

is-entry : (counting : Counting) (texts : List (List ℕ)) (kinds : List Kind) (cells : List (List ℕ)) (entry : Row × ℤ) → entry_of counting texts kinds cells ≡ Some entry → IsEntry counting (length kinds) entry
is-entry counting texts kinds cells entry e = by (count_of counting cells) refl e
  where
    by : (o : Option ℤ) → count_of counting cells ≡ o → option_and_then (λ n. option_map (λ row. (row, n)) (row_of texts kinds (row_cells counting cells))) o ≡ Some entry → IsEntry counting (length kinds) entry
    by None is h = cc h
    by (Some n) is h =
        let row = map-some (λ r. (r, n)) (row_of texts kinds (row_cells counting cells)) entry h in
        rw (← row.2) (record {
          wide = length-row texts kinds (row_cells counting cells) row.0 row.1;
          least = λ table. least-count counting cells n table is;
        })

-- All records.

-- each is an entry of a row of this width
abbrev AreEntries : Counting → ℕ → EntriesRead → Type 0
AreEntries counting width read = AllByRecursion (IsEntry counting width) read.entries

put-last : (counting : Counting) (width : ℕ) (es : Counted) (entry : Row × ℤ) → AllByRecursion (IsEntry counting width) es → IsEntry counting width entry → AllByRecursion (IsEntry counting width) (es ++ entry ∷ [])
put-last counting width [] entry all is = (is, tt)
put-last counting width (e ∷ es) entry all is = (all.0, put-last counting width es entry all.1 is)

added-entry : (kinds : List Kind) (counting : Counting) (read after : EntriesRead) (number : ℕ) (cells : List (List ℕ)) → AreEntries counting (length kinds) read → added kinds counting read number cells ≡ Ok after → AreEntries counting (length kinds) after
added-entry kinds counting read after number cells are e =
    let texts = texts_after counting kinds read.texts cells in
    let own = from_step (ok_or (entry_of counting texts kinds cells) (Number number)) (λ entry. if is_i64 (running_sum read.entries entry) then Ok (with_entry read texts entry) else Err (Number number)) after e in
    let is = is-entry counting texts kinds cells own.0 (some-or (entry_of counting texts kinds cells) (Number number) own.0 own.1) in
    by (is_i64 (running_sum read.entries own.0)) own.0 is own.2
  where
    by : (fits : Bool) (entry : Row × ℤ) → IsEntry counting (length kinds) entry → (if fits then Ok (with_entry read (texts_after counting kinds read.texts cells) entry) else Err (Number number)) ≡ Ok after → AreEntries counting (length kinds) after
    by true entry is h = subst (AreEntries counting (length kinds)) (same_Ok _ _ _ refl h) (put-last counting (length kinds) read.entries entry are is)
    by false entry is h = cc

rows-entries : (content : Content) (columns : List NamedKind) (width : ℕ) (counting : Counting) (number : ℕ) (read after : EntriesRead) (rows : List (List (List ℕ))) → AreEntries counting (length (kinds_of columns)) read
    → records_give (table_scheme content columns) width counting number read rows ≡ Ok after → AreEntries counting (length (kinds_of columns)) after
unfolding records_give
rows-entries content columns width counting number read after [] are e = subst (AreEntries counting (length (kinds_of columns))) (same_Ok _ _ _ refl e) are
rows-entries content columns width counting number read after (cells ∷ rows) are e =
    let next = from_step (record_gives (table_scheme content columns) width counting read number cells) _ after e in
    let own = or_fault-ok (form_fault width number cells) (added (kinds_of columns) counting read number cells) next.0 next.1 in
    rows-entries content columns width counting (number + 1) next.0 after rows (added-entry (kinds_of columns) counting read next.0 number cells are own) next.2

summed-width : (counting : Counting) (width : ℕ) (es : Counted) → AllByRecursion (IsEntry counting width) es → (q : Row) → count_in es q ≢ pos 0 → length q ≡ width
summed-width counting width [] all q some = absurd (some refl)
summed-width counting width (e ∷ es) all q some = by (is_row q e.0) refl some (summed-width counting width es all.1 q)
  where
    by : (same : Bool) → is_row q e.0 ≡ same → (cond same e.1 (pos 0) +ℤ count_in es q) ≢ pos 0 → (count_in es q ≢ pos 0 → length q ≡ width) → length q ≡ width
    by true is more rest = rw (same_row q e.0 is) all.0.wide
    by false is more rest = rest (λ none. more (+ℤ_idl (count_in es q) ∙ none))

summed-least : (counting : Counting) (width : ℕ) (es : Counted) → TellsTable counting → AllByRecursion (IsEntry counting width) es → (q : Row) → pos 0 ≤ℤ count_in es q
summed-least counting width [] table all q = omega (arith, ints)
summed-least counting width (e ∷ es) table all q = by (is_row q e.0) (summed-least counting width es table all.1 q)
  where
    by : (same : Bool) → pos 0 ≤ℤ count_in es q → pos 0 ≤ℤ (cond same e.1 (pos 0) +ℤ count_in es q)
    by true rest = let own = all.0.least table in omega (arith, ints)
    by false rest = omega (arith, ints)

bag-width : (counting : Counting) (width : ℕ) (es : Counted) → AllByRecursion (IsEntry counting width) es → HasWidth (bag_of es) width
bag-width counting width es all q some = summed-width counting width es all q (λ none. some (count-bag_of es q ∙ none))

bag-least : (counting : Counting) (width : ℕ) (es : Counted) → TellsTable counting → AllByRecursion (IsEntry counting width) es → IsTable (bag_of es)
bag-least counting width es table all q = rw (count-bag_of es q) (summed-least counting width es table all q)

-- The whole text.

header-tells : (names header : List (List ℕ)) (counting : Counting) → counting_of Table names header ≡ Some counting → TellsTable counting
header-tells names header counting = by (pointwise bytes_eq header names) (pointwise bytes_eq header (counted_header names))
  where
    by : (bare counted : Bool) → (if bare then Some Once else if counted then Some Positive else None) ≡ Some counting → TellsTable counting
    by true counted e = let same : Once ≡ counting = cc in rw (← same) tt
    by false true e = let same : Positive ≡ counting = cc in rw (← same) tt
    by false false e = cc e

-- what a header of a table tells
table-tells : (columns : List NamedKind) (records : List (List (List ℕ))) (below : Below Counting) → below_header (table_scheme Table columns) records ≡ Ok below → TellsTable below.kind
table-tells columns [] below e = cc
table-tells columns (header ∷ rows) below e =
    let told = from_step (or_fault (form_fault (length header) 1 header) (ok_or (counting_of Table (names_of columns) header) Header)) (λ (kind : Counting). Ok (record { kind = kind; width = length header; rows = rows })) below e in
    let kind = some-or (counting_of Table (names_of columns) header) Header told.0 (or_fault-ok (form_fault (length header) 1 header) _ told.0 told.1) in
    subst (λ (b : Below Counting). TellsTable b.kind) (same_Ok _ _ _ refl told.2) (header-tells (names_of columns) header told.0 kind)

-- what a text gives: these entries below the header
record IsGiven (content : Content) (columns : List NamedKind) (text : List ℕ) (bag : Bag) : Type 0 where
  pub below : Below Counting
  pub read : EntriesRead
  pub header : below_header (table_scheme content columns) (records_of text) ≡ Ok below
  pub are : AreEntries below.kind (length (kinds_of columns)) read
  pub sum : bag ≡ bag_of read.entries

given : (content : Content) (columns : List NamedKind) (texts : List (List ℕ)) (text : List ℕ) (bag : Bag) (after : List (List ℕ)) → text_gives content columns texts text ≡ Ok (bag, after) → IsGiven content columns text bag
unfolding text_gives
given content columns texts text bag after e =
    let read = from_step (part_of (table_scheme content columns) (record { texts = texts; entries = [] }) text) (λ (all : EntriesRead). Ok (bag_of all.entries, all.texts)) (bag, after) e in
    let below = from_step (below_header (table_scheme content columns) (records_of text)) _ read.0 read.1 in
    let same : (bag_of read.0.entries, read.0.texts) ≡ (bag, after) = same_Ok _ _ _ refl read.2 in
    record {
      below = below.0;
      read = read.0;
      header = below.1;
      are = rows-entries content columns below.0.width below.0.kind 2 (record { texts = texts; entries = [] }) read.0 below.0.rows tt below.2;
      sum = ap (λ (pair : Bag × List (List ℕ)). pair.0) (sym same);
    }

-- rows have a cell for each column
pub rows-width : (content : Content) (columns : List NamedKind) (texts : List (List ℕ)) (text : List ℕ) (bag : Bag) (after : List (List ℕ)) → text_gives content columns texts text ≡ Ok (bag, after) → HasWidth bag (length columns)
rows-width content columns texts text bag after e =
    let g = given content columns texts text bag after e in
    rw (g.sum, ← length-map columns (λ (column : NamedKind). column.kind)) (bag-width g.below.kind (length (kinds_of columns)) g.read.entries g.are)

-- a table has no count below zero
pub is-table : (columns : List NamedKind) (texts : List (List ℕ)) (text : List ℕ) (bag : Bag) (after : List (List ℕ)) → text_gives Table columns texts text ≡ Ok (bag, after) → IsTable bag
is-table columns texts text bag after e =
    let g = given Table columns texts text bag after e in
    rw g.sum (bag-least g.below.kind (length (kinds_of columns)) g.read.entries (table-tells columns (records_of text) g.below g.header) g.are)

-- the same of what a reader answers
pub answer-width : (content : Content) (columns : List NamedKind) (texts : List (List ℕ)) (text : List ℕ) (after : List (List ℕ)) (answer : Result Bag LoadFault)
    → IfOk answer (λ bag. text_gives content columns texts text ≡ Ok (bag, after)) → IfOk answer (λ bag. HasWidth bag (length columns))
answer-width content columns texts text after (Ok bag) e = rows-width content columns texts text bag after e
answer-width content columns texts text after (Err f) e = tt

pub answer-table : (columns : List NamedKind) (texts : List (List ℕ)) (text : List ℕ) (after : List (List ℕ)) (answer : Result Bag LoadFault)
    → IfOk answer (λ bag. text_gives Table columns texts text ≡ Ok (bag, after)) → IfOk answer (λ bag. IsTable bag)
answer-table columns texts text after (Ok bag) e = is-table columns texts text bag after e
answer-table columns texts text after (Err f) e = tt
