-- The first fault of a part of a table or of changes.
use Rattle.std.proofs.Common.{◌≡◌, ◌+◌, ℕ, ℤ, pos, ◌+ℤ◌, Bool, true, false, cond, ◌||◌, List, [], ◌∷◌, ◌++◌, length, get_or, Option, Some, None, Result, Ok, Err, ◌⊎◌, inl, inr, refl, sym, ap, subst, ◌∙◌, append_assoc, arith}
use Rattle.std.specs.Prelude.{◌&&◌, if◌then◌else◌, is_some, nat_lt, not, ok_or, option_and_then, option_map, position}
use Rattle.std.specs.List.{list_any, position_or_len}
use Rattle.std.specs.Option.{option_or}
use Rattle.std.specs.Ordering.{int_cmp, is_eq, ordering_then}
use Rattle.std.specs.Result.{result_err}
use Rattle.std.specs.Str.{bytes_eq}
use Rattle.std.specs.declared.cmp.Ordering.{Ordering}
use Rattle.std.specs.declared.cmp.Ordering.TheVariants.{Less, Equal, Greater}
use Rattle.std.proofs.lemmas.Bool.{and_parts, cases_Bool}
use Rattle.std.proofs.lemmas.Int.{ints}
use Rattle.std.proofs.lemmas.List.{append-nil}
use Rattle.std.proofs.lemmas.List.Folds.{list_all-append, list_any-append}
use Rattle.std.proofs.lemmas.List.Quantifiers.{position-Some}
use Rattle.std.proofs.lemmas.Slice.Eq.{bytes_eq-Decides}
use Rattle.wh_row.specs.Records.{running_sum}
use Rattle.wh_row.specs.Row.{Row, is_row, row_cmp}
use Rattle.wh_row.specs.Weigh.{Counted, count_in}
use Rattle.wh_row.proofs.RowLaws.{itself, same_row}
use Rattle.wh_text.specs.Columns.{NamedKind, kinds_of}
use Rattle.wh_text.specs.Dict.{number_of_text, with_text, with_texts}
use Rattle.wh_text.specs.Inner.Dict.{BeginsWith}
use Rattle.wh_text.specs.FirstFault.{EndsByFirst, fault_if}
use Rattle.wh_text.specs.WholeNumber.{is_i64, whole_number}
use Rattle.wh_text.specs.declared.columns.Kind.{Kind}
use Rattle.wh_text.specs.declared.columns.Kind.TheVariants.{Int, Text}
use Rattle.wh_text.specs.declared.fault.LoadFault.{LoadFault}
use Rattle.wh_text.specs.declared.fault.LoadFault.TheVariants.{Number}
use Rattle.wh_text.proofs.DictGrowth.{begins-texts, has-text, number-begins}
use Rattle.wh_text.proofs.FirstFaults.{first_of}
use Rattle.wh_text_tables.specs.FaultPlaces.{Cells, PartWrong}
use Rattle.wh_text.specs.ValueOrFault.{◌>>=◌}
use Rattle.wh_text_tables.specs.Part.{part_gives, record_gives, records_give}
use Rattle.wh_text_tables.specs.Records.{form_fault, records_of}
use Rattle.wh_text_tables.specs.TableFaults.{TablesEndByFirst, cells_judged, counts_row, entry_judged, entry_judging, is_wrong_cell, total_of, write_same_cell, write_same_row}
use Rattle.wh_text_tables.specs.TableText.{EntriesRead, added, bag_read, cell_number, count_of, entry_of, row_cells, row_of, table_scheme, text_gives, text_in, texts_after, texts_in_row, with_entry}
use Rattle.wh_text_tables.specs.declared.table.header.Content.{Content}
use Rattle.wh_text_tables.specs.declared.table.header.Counting.{Counting}
use Rattle.wh_text_tables.proofs.PartFaults.{Judges, part-ends}
use Rattle.wh_text_tables.proofs.PartReads.{from_step, or_fault-ok, records_give-first, records_give-none, same_Ok}
use Rattle.wh_text_tables.proofs.PassingPlaces.{position-any}
use Rattle.wh_text_tables.proofs.TableReadingBack.{all_among}

-- Numbers and texts that are the same.

then-equal : (first second : Ordering) → is_eq (ordering_then first second) ≡ (is_eq first && is_eq second)
then-equal Less second = refl
then-equal Equal second = refl
then-equal Greater second = refl

and-true : (b : Bool) → (b && true) ≡ b
and-true true = refl
and-true false = refl

one-number : (x y : ℤ) → is_eq (int_cmp x y) ≡ true → x ≡ y
one-number x y e =
    let rows : x ∷ [] ≡ y ∷ [] = same_row (x ∷ []) (y ∷ []) (then-equal (int_cmp x y) Equal ∙ and-true (is_eq (int_cmp x y)) ∙ e) in
    cc

number-itself : (x : ℤ) → is_eq (int_cmp x x) ≡ true
number-itself x = sym (then-equal (int_cmp x x) Equal ∙ and-true (is_eq (int_cmp x x))) ∙ itself (x ∷ [])

text-itself : (text : List ℕ) → bytes_eq text text ≡ true
text-itself text = (bytes_eq-Decides text text).1 refl

-- a text among others stands at its number
number-there : (texts : List (List ℕ)) (text : List ℕ) → list_any (bytes_eq text) texts ≡ true → text ≡ get_or texts (number_of_text texts text) []
number-there texts text among = by (nat_lt (position_or_len (bytes_eq text) texts) (length texts)) refl
  where
    by : (b : Bool) → nat_lt (position_or_len (bytes_eq text) texts) (length texts) ≡ b → text ≡ get_or texts (number_of_text texts text) []
    by true e =
        let found : position (bytes_eq text) texts ≡ Some (number_of_text texts text) = rw e refl in
        (bytes_eq-Decides text (get_or texts (number_of_text texts text) [])).0 (position-Some (bytes_eq text) texts (number_of_text texts text) [] found).1
    by false e =
        let found : position (bytes_eq text) texts ≡ None = rw e refl in
        let bad : false ≡ true = sym (ap is_some found) ∙ position-any (bytes_eq text) texts ∙ among in
        cc

one-text : (texts : List (List ℕ)) (first second : List ℕ) → list_any (bytes_eq first) texts ≡ true → list_any (bytes_eq second) texts ≡ true
    → is_eq (int_cmp (pos (number_of_text texts first)) (pos (number_of_text texts second))) ≡ bytes_eq first second
one-text texts first second a b = by (cases_Bool (bytes_eq first second)) (cases_Bool (is_eq (int_cmp (pos (number_of_text texts first)) (pos (number_of_text texts second)))))
  where
    by : (bytes_eq first second ≡ true) ⊎ (bytes_eq first second ≡ false)
        → (is_eq (int_cmp (pos (number_of_text texts first)) (pos (number_of_text texts second))) ≡ true) ⊎ (is_eq (int_cmp (pos (number_of_text texts first)) (pos (number_of_text texts second))) ≡ false)
        → is_eq (int_cmp (pos (number_of_text texts first)) (pos (number_of_text texts second))) ≡ bytes_eq first second
    by (inl equal) number =
        let same = (bytes_eq-Decides first second).0 equal in
        ap (λ text. is_eq (int_cmp (pos (number_of_text texts first)) (pos (number_of_text texts text)))) (sym same) ∙ number-itself (pos (number_of_text texts first)) ∙ sym equal
    by (inr other) (inr apart) = apart ∙ sym other
    by (inr other) (inl one) =
        let numbers : pos (number_of_text texts first) ≡ pos (number_of_text texts second) = one-number _ _ one in
        let places : number_of_text texts first ≡ number_of_text texts second = cc in
        let same : first ≡ second = number-there texts first a ∙ ap (λ n. get_or texts n []) places ∙ sym (number-there texts second b) in
        let bad : true ≡ false = sym ((bytes_eq-Decides first second).1 same) ∙ other in
        cc

-- One row.

-- the texts of the row that these cells write are among those
abbrev AmongRow : List (List ℕ) → List Kind → Cells → Type 0
AmongRow texts kinds cells = all_among texts (texts_in_row kinds cells) ≡ true

-- what a row of a first cell and others is made of
row-parts : (texts : List (List ℕ)) (kind : Kind) (kinds : List Kind) (cell : List ℕ) (cells : Cells) (row : Row) → row_of texts (kind ∷ kinds) (cell ∷ cells) ≡ Some row
    → (number : ℤ) × (rest : Row) × (cell_number texts kind cell ≡ Some number) × (row_of texts kinds cells ≡ Some rest) × (row ≡ number ∷ rest)
unfolding row_of
row-parts texts kind kinds cell cells row e = by (cell_number texts kind cell) (row_of texts kinds cells) e
  where
    by : (o : Option ℤ) (r : Option Row) → option_and_then (λ number. option_map (λ row. number ∷ row) r) o ≡ Some row
        → (number : ℤ) × (rest : Row) × (o ≡ Some number) × (r ≡ Some rest) × (row ≡ number ∷ rest)
    by None r e = cc
    by (Some number) None e = cc
    by (Some number) (Some rest) e = (number, rest, refl, refl, (let same : row ≡ number ∷ rest = cc in same))

among-parts : (texts : List (List ℕ)) (kind : Kind) (kinds : List Kind) (cell : List ℕ) (cells : Cells) → AmongRow texts (kind ∷ kinds) (cell ∷ cells)
    → (all_among texts (text_in kind cell) ≡ true) × AmongRow texts kinds cells
unfolding texts_in_row
among-parts texts kind kinds cell cells e =
    let parts = and_parts (all_among texts (text_in kind cell)) (all_among texts (texts_in_row kinds cells)) (sym (list_all-append (λ text. list_any (bytes_eq text) texts) (text_in kind cell) (texts_in_row kinds cells)) ∙ e) in
    (parts.0, parts.1)

text-among : (texts : List (List ℕ)) (text : List ℕ) → all_among texts (text ∷ []) ≡ true → list_any (bytes_eq text) texts ≡ true
text-among texts text e = (and_parts (list_any (bytes_eq text) texts) true e).0

-- cells write the same where their numbers are one
one-cell : (texts : List (List ℕ)) (kind : Kind) (first second : List ℕ) (x y : ℤ) → cell_number texts kind first ≡ Some x → cell_number texts kind second ≡ Some y
    → all_among texts (text_in kind first) ≡ true → all_among texts (text_in kind second) ≡ true → is_eq (int_cmp x y) ≡ write_same_cell kind first second
one-cell texts Int first second x y a b in_first in_second = rw (a, b) refl
one-cell texts Text first second x y a b in_first in_second =
    let own : pos (number_of_text texts first) ≡ x = cc in
    let other : pos (number_of_text texts second) ≡ y = cc in
    rw (← own, ← other) (one-text texts first second (text-among texts first in_first) (text-among texts second in_second))

-- rows are one where their cells write the same
one-row : (texts : List (List ℕ)) (kinds : List Kind) (first second : Cells) (q r : Row) → row_of texts kinds first ≡ Some q → row_of texts kinds second ≡ Some r
    → AmongRow texts kinds first → AmongRow texts kinds second → is_row q r ≡ write_same_row kinds first second
unfolding row_of write_same_row
one-row texts [] first second q r a b in_first in_second =
    let own : [] ≡ q = cc in
    let other : [] ≡ r = cc in
    rw (← own, ← other) refl
one-row texts (kind ∷ kinds) [] second q r a b in_first in_second = cc
one-row texts (kind ∷ kinds) (cell ∷ first) [] q r a b in_first in_second = cc
one-row texts (kind ∷ kinds) (cell ∷ first) (other ∷ second) q r a b in_first in_second =
    let one = row-parts texts kind kinds cell first q a in
    let two = row-parts texts kind kinds other second r b in
    let among_one = among-parts texts kind kinds cell first in_first in
    let among_two = among-parts texts kind kinds other second in_second in
    rw (one.4, two.4)
    (then-equal (int_cmp one.0 two.0) (row_cmp one.1 two.1)
    ∙ ap (λ b. b && is_row one.1 two.1) (one-cell texts kind cell other one.0 two.0 one.2 two.2 among_one.0 among_two.0)
    ∙ ap (λ b. write_same_cell kind cell other && b) (one-row texts kinds first second one.1 two.1 one.3 two.3 among_one.1 among_two.1))

-- cells that write a row write the same as themselves
row-itself : (texts : List (List ℕ)) (kinds : List Kind) (cells : Cells) (row : Row) → row_of texts kinds cells ≡ Some row → write_same_row kinds cells cells ≡ true
unfolding row_of write_same_row
row-itself texts [] cells row e = refl
row-itself texts (kind ∷ kinds) [] row e = cc
row-itself texts (kind ∷ kinds) (cell ∷ cells) row e =
    let parts = row-parts texts kind kinds cell cells row e in
    rw (own kind parts.0 parts.2, row-itself texts kinds cells parts.1 parts.3) refl
  where
    own : (kind : Kind) (number : ℤ) → cell_number texts kind cell ≡ Some number → write_same_cell kind cell cell ≡ true
    own Int number is = rw is (number-itself number)
    own Text number is = text-itself cell

-- What stays while the dictionary grows.

among-begins : (texts all : List (List ℕ)) (text : List ℕ) → BeginsWith texts all → list_any (bytes_eq text) texts ≡ true → list_any (bytes_eq text) all ≡ true
among-begins texts all text begins among = ap (list_any (bytes_eq text)) begins.parts ∙ list_any-append (bytes_eq text) texts begins.more ∙ ap (λ b. b || list_any (bytes_eq text) begins.more) among

all-among-begins : (texts all more : List (List ℕ)) → BeginsWith texts all → all_among texts more ≡ true → all_among all more ≡ true
all-among-begins texts all [] begins among = refl
all-among-begins texts all (text ∷ more) begins among =
    let parts = and_parts (list_any (bytes_eq text) texts) (all_among texts more) among in
    rw (among-begins texts all text begins parts.0, all-among-begins texts all more begins parts.1) refl

-- texts that got their numbers are among those that have some
with-among : (texts more : List (List ℕ)) → all_among (with_texts texts more) more ≡ true
unfolding with_texts
with-among texts [] = refl
with-among texts (text ∷ more) =
    rw (among-begins (with_text texts text) (with_texts (with_text texts text) more) text (begins-texts (with_text texts text) more) (has-text texts text), with-among (with_text texts text) more) refl

cell-begins : (texts all : List (List ℕ)) (kind : Kind) (cell : List ℕ) → BeginsWith texts all → all_among texts (text_in kind cell) ≡ true → cell_number all kind cell ≡ cell_number texts kind cell
cell-begins texts all Int cell begins among = refl
cell-begins texts all Text cell begins among = ap (λ n. Some (pos n)) (number-begins texts all cell begins (text-among texts cell among))

row-begins : (texts all : List (List ℕ)) (kinds : List Kind) (cells : Cells) → BeginsWith texts all → AmongRow texts kinds cells → row_of all kinds cells ≡ row_of texts kinds cells
unfolding row_of
row-begins texts all [] cells begins among = refl
row-begins texts all (kind ∷ kinds) [] begins among = refl
row-begins texts all (kind ∷ kinds) (cell ∷ cells) begins among =
    let parts = among-parts texts kind kinds cell cells among in
    rw (cell-begins texts all kind cell begins parts.0, row-begins texts all kinds cells begins parts.1) refl

-- The records above.

-- each entry is what its record writes
EntriesOf : Counting → List Kind → List (List ℕ) → List Cells → Counted → Type 0
EntriesOf count kinds texts [] [] = Unit {0}
EntriesOf count kinds texts [] (e ∷ es) = ⊥
EntriesOf count kinds texts (cells ∷ rows) [] = ⊥
EntriesOf count kinds texts (cells ∷ rows) (e ∷ es) =
    (entry_of count texts kinds cells ≡ Some e) × AmongRow texts kinds (row_cells count cells) × EntriesOf count kinds texts rows es

entry-begins : (count : Counting) (kinds : List Kind) (texts all : List (List ℕ)) (cells : Cells) → BeginsWith texts all → AmongRow texts kinds (row_cells count cells)
    → entry_of count all kinds cells ≡ entry_of count texts kinds cells
entry-begins count kinds texts all cells begins among = rw (row-begins texts all kinds (row_cells count cells) begins among) refl

entries-begin : (count : Counting) (kinds : List Kind) (texts all : List (List ℕ)) (rows : List Cells) (es : Counted) → BeginsWith texts all → EntriesOf count kinds texts rows es → EntriesOf count kinds all rows es
unfolding EntriesOf
entries-begin count kinds texts all [] [] begins are = tt
entries-begin count kinds texts all [] (e ∷ es) begins are = absurd are
entries-begin count kinds texts all (cells ∷ rows) [] begins are = absurd are
entries-begin count kinds texts all (cells ∷ rows) (e ∷ es) begins are = (
  entry-begins count kinds texts all cells begins are.1 ∙ are.0,
  all-among-begins texts all (texts_in_row kinds (row_cells count cells)) begins are.1,
  entries-begin count kinds texts all rows es begins are.2,
)

entries-more : (count : Counting) (kinds : List Kind) (texts : List (List ℕ)) (rows : List Cells) (es : Counted) (cells : Cells) (e : Row × ℤ) → EntriesOf count kinds texts rows es
    → entry_of count texts kinds cells ≡ Some e → AmongRow texts kinds (row_cells count cells) → EntriesOf count kinds texts (rows ++ cells ∷ []) (es ++ e ∷ [])
unfolding EntriesOf
entries-more count kinds texts [] [] cells e are is among = (is, among, tt)
entries-more count kinds texts [] (o ∷ es) cells e are is among = absurd are
entries-more count kinds texts (own ∷ rows) [] cells e are is among = absurd are
entries-more count kinds texts (own ∷ rows) (o ∷ es) cells e are is among = (are.0, are.1, entries-more count kinds texts rows es cells e are.2 is among)

-- a record that is added puts its entry last
record Adds (kinds : List Kind) (count : Counting) (read after : EntriesRead) (cells : Cells) : Type 0 where
  pub entry : Row × ℤ
  pub is : entry_of count (texts_after count kinds read.texts cells) kinds cells ≡ Some entry
  pub texts : after.texts ≡ texts_after count kinds read.texts cells
  pub entries : after.entries ≡ read.entries ++ entry ∷ []

adds : (kinds : List Kind) (count : Counting) (read after : EntriesRead) (number : ℕ) (cells : Cells) → added kinds count read number cells ≡ Ok after → Adds kinds count read after cells
adds kinds count read after number cells e = by (entry_of count (texts_after count kinds read.texts cells) kinds cells) refl e
  where
    by : (o : Option (Row × ℤ)) → entry_of count (texts_after count kinds read.texts cells) kinds cells ≡ o
        → (ok_or o (Number number) >>= (λ entry. if is_i64 (running_sum read.entries entry) then Ok (with_entry read (texts_after count kinds read.texts cells) entry) else Err (Number number))) ≡ Ok after
        → Adds kinds count read after cells
    by None is e = cc
    by (Some entry) is e = fits (is_i64 (running_sum read.entries entry)) e
      where
        fits : (b : Bool) → (if b then Ok (with_entry read (texts_after count kinds read.texts cells) entry) else Err (Number number)) ≡ Ok after → Adds kinds count read after cells
        fits true e =
            let same : with_entry read (texts_after count kinds read.texts cells) entry ≡ after = same_Ok _ _ _ refl e in
            record { entry = entry; is = is; texts = ap (λ (r : EntriesRead). r.texts) (sym same); entries = ap (λ (r : EntriesRead). r.entries) (sym same) }
        fits false e = cc

-- the entries of the records that are taken, those before them among them
entries-taken : (content : Content) (columns : List NamedKind) (width number : ℕ) (count : Counting) (read after : EntriesRead) (before rows : List Cells)
    → EntriesOf count (kinds_of columns) read.texts before read.entries → records_give (table_scheme content columns) width count number read rows ≡ Ok after
    → EntriesOf count (kinds_of columns) after.texts (before ++ rows) after.entries
entries-taken content columns width number count read after before [] are e =
    let same : read ≡ after = same_Ok _ _ _ (records_give-none (table_scheme content columns) width count number read) e in
    rw (append-nil before) (subst (λ (r : EntriesRead). EntriesOf count (kinds_of columns) r.texts before r.entries) same are)
entries-taken content columns width number count read after before (cells ∷ rows) are e =
    let kinds = kinds_of columns in
    let next = from_step (record_gives (table_scheme content columns) width count read number cells) _ after (sym (records_give-first (table_scheme content columns) width count number read cells rows) ∙ e) in
    let own = adds kinds count read next.0 number cells (or_fault-ok (form_fault width number cells) (added kinds count read number cells) next.0 next.1) in
    let texts = texts_after count kinds read.texts cells in
    let old = entries-begin count kinds read.texts texts before read.entries (begins-texts read.texts (texts_in_row kinds (row_cells count cells))) are in
    let more = entries-more count kinds texts before read.entries cells own.entry old own.is (with-among read.texts (texts_in_row kinds (row_cells count cells))) in
    let now : EntriesOf count kinds next.0.texts (before ++ cells ∷ []) next.0.entries = rw (own.texts, own.entries) more in
    subst (λ rs. EntriesOf count kinds after.texts rs after.entries) (append_assoc before (cells ∷ []) rows)
    (entries-taken content columns width (number + 1) count next.0 after (before ++ cells ∷ []) rows now next.2)

-- One record.

-- what an entry is made of
record IsEntry (count : Counting) (texts : List (List ℕ)) (kinds : List Kind) (cells : Cells) (entry : Row × ℤ) : Type 0 where
  pub counted : count_of count cells ≡ Some entry.1
  pub row : row_of texts kinds (row_cells count cells) ≡ Some entry.0

is-entry : (count : Counting) (texts : List (List ℕ)) (kinds : List Kind) (cells : Cells) (entry : Row × ℤ) → entry_of count texts kinds cells ≡ Some entry → IsEntry count texts kinds cells entry
is-entry count texts kinds cells entry e = by (count_of count cells) (row_of texts kinds (row_cells count cells)) refl refl e
  where
    by : (n : Option ℤ) (r : Option Row) → count_of count cells ≡ n → row_of texts kinds (row_cells count cells) ≡ r → option_and_then (λ n. option_map (λ row. (row, n)) r) n ≡ Some entry
        → IsEntry count texts kinds cells entry
    by None r a b e = cc
    by (Some n) None a b e = cc
    by (Some n) (Some row) a b e =
        let same : (row, n) ≡ entry = cc in
        record { counted = a ∙ ap Some (ap (λ (p : Row × ℤ). p.1) same); row = b ∙ ap Some (ap (λ (p : Row × ℤ). p.0) same) }

-- how often the records above count a row is what their entries count
same-total : (count : Counting) (kinds : List Kind) (texts : List (List ℕ)) (rows : List Cells) (es : Counted) (cells : Cells) (row : Row) → EntriesOf count kinds texts rows es
    → row_of texts kinds (row_cells count cells) ≡ Some row → AmongRow texts kinds (row_cells count cells) → count_in es row ≡ total_of count kinds cells rows
unfolding EntriesOf total_of
same-total count kinds texts [] [] cells row are is among = refl
same-total count kinds texts [] (e ∷ es) cells row are is among = absurd are
same-total count kinds texts (own ∷ rows) [] cells row are is among = absurd are
same-total count kinds texts (own ∷ rows) (e ∷ es) cells row are is among =
    let entry = is-entry count texts kinds own e are.0 in
    let one = one-row texts kinds (row_cells count cells) (row_cells count own) row e.0 is entry.row among are.1 in
    rw (one, entry.counted, same-total count kinds texts rows es cells row are.2 is among) refl

total-last : (count : Counting) (kinds : List Kind) (cells : Cells) (rows : List Cells) (own : Cells) → total_of count kinds cells (rows ++ own ∷ []) ≡ total_of count kinds cells rows +ℤ counts_row count kinds cells own
unfolding total_of
total-last count kinds cells [] own = omega (arith, ints)
total-last count kinds cells (first ∷ rows) own = (let more = total-last count kinds cells rows own in omega (arith, ints))

-- the running sum of an entry is how often its record and those above it count its row
running-total : (count : Counting) (kinds : List Kind) (before : List (List ℕ)) (rows : List Cells) (es : Counted) (cells : Cells) (entry : Row × ℤ) → EntriesOf count kinds before rows es
    → entry_of count (texts_after count kinds before cells) kinds cells ≡ Some entry → running_sum es entry ≡ total_of count kinds cells (rows ++ cells ∷ [])
running-total count kinds before rows es cells entry are e =
    let texts = texts_after count kinds before cells in
    let is = is-entry count texts kinds cells entry e in
    let old = entries-begin count kinds before texts rows es (begins-texts before (texts_in_row kinds (row_cells count cells))) are in
    let above = same-total count kinds texts rows es cells entry.0 old is.row (with-among before (texts_in_row kinds (row_cells count cells))) in
    let own : counts_row count kinds cells cells ≡ entry.1 = rw (row-itself texts kinds (row_cells count cells) entry.0 is.row, is.counted) refl in
    ap (λ n. n +ℤ entry.1) above ∙ ap (λ n. total_of count kinds cells rows +ℤ n) (sym own) ∙ sym (total-last count kinds cells rows cells)

-- what is judged of cells says whether they write a row
cells-judge : (texts : List (List ℕ)) (kinds : List Kind) (number : ℕ) (cells : Cells) (rest : List (Option LoadFault))
    → first_of (cells_judged kinds number cells ++ rest) ≡ cond (is_some (row_of texts kinds cells)) (first_of rest) (Some (Number number))
unfolding row_of cells_judged
cells-judge texts [] number cells rest = refl
cells-judge texts (kind ∷ kinds) number [] rest = refl
cells-judge texts (kind ∷ kinds) number (cell ∷ cells) rest = by kind (cells-judge texts kinds number cells rest)
  where
    known : (o : Option Row) (n : ℤ) → is_some (option_map (λ row. n ∷ row) o) ≡ is_some o
    known None n = refl
    known (Some row) n = refl

    whole : (o : Option ℤ) (r : Option Row) → first_of (cells_judged kinds number cells ++ rest) ≡ cond (is_some r) (first_of rest) (Some (Number number))
        → first_of (fault_if (not (is_some o)) (Number number) ∷ (cells_judged kinds number cells ++ rest))
        ≡ cond (is_some (option_and_then (λ n. option_map (λ row. n ∷ row) r) o)) (first_of rest) (Some (Number number))
    whole None r more = refl
    whole (Some n) r more = more ∙ ap (λ b. cond b (first_of rest) (Some (Number number))) (sym (known r n))

    by : (kind : Kind) → first_of (cells_judged kinds number cells ++ rest) ≡ cond (is_some (row_of texts kinds cells)) (first_of rest) (Some (Number number))
        → first_of (fault_if (is_wrong_cell kind cell) (Number number) ∷ (cells_judged kinds number cells ++ rest))
        ≡ cond (is_some (option_and_then (λ n. option_map (λ row. n ∷ row) (row_of texts kinds cells)) (cell_number texts kind cell))) (first_of rest) (Some (Number number))
    by Int more = whole (whole_number cell) (row_of texts kinds cells) more
    by Text more = more ∙ ap (λ b. cond b (first_of rest) (Some (Number number))) (sym (known (row_of texts kinds cells) (pos (number_of_text texts cell))))

-- taking a record is what is judged of it
entry-judges : (kinds : List Kind) (count : Counting) (read : EntriesRead) (rows : List Cells) (number : ℕ) (cells : Cells) → EntriesOf count kinds read.texts rows read.entries
    → result_err (added kinds count read number cells) ≡ first_of (entry_judged kinds count rows number cells)
entry-judges kinds count read rows number cells are =
    by (texts_after count kinds read.texts cells) (is_i64 (total_of count kinds cells (rows ++ cells ∷ []))) (count_of count cells) (row_of (texts_after count kinds read.texts cells) kinds (row_cells count cells))
    (λ entry e. ap is_i64 (running-total count kinds read.texts rows read.entries cells entry are e))
    ∙ sym (ap (λ f. option_or (fault_if (not (is_some (count_of count cells))) (Number number)) f)
    (cells-judge (texts_after count kinds read.texts cells) kinds number (row_cells count cells) (fault_if (not (is_i64 (total_of count kinds cells (rows ++ cells ∷ [])))) (Number number) ∷ [])))
  where
    last : (texts : List (List ℕ)) (b : Bool) (entry : Row × ℤ) → result_err (if b then Ok (with_entry read texts entry) else Err (Number number)) ≡ first_of (fault_if (not b) (Number number) ∷ [])
    last texts true entry = refl
    last texts false entry = refl

    by : (texts : List (List ℕ)) (sum : Bool) (n : Option ℤ) (r : Option Row)
        → ((entry : Row × ℤ) → option_and_then (λ n. option_map (λ row. (row, n)) r) n ≡ Some entry → is_i64 (running_sum read.entries entry) ≡ sum)
        → result_err (ok_or (option_and_then (λ n. option_map (λ row. (row, n)) r) n) (Number number) >>= (λ (entry : Row × ℤ). if is_i64 (running_sum read.entries entry) then Ok (with_entry read texts entry) else Err (Number number)))
        ≡ option_or (fault_if (not (is_some n)) (Number number)) (cond (is_some r) (first_of (fault_if (not sum) (Number number) ∷ [])) (Some (Number number)))
    by texts sum None r same = refl
    by texts sum (Some n) None same = refl
    by texts sum (Some n) (Some row) same = rw (same (row, n) refl) (last texts sum (row, n))

-- All records.

none-yet : (count : Counting) (kinds : List Kind) (texts : List (List ℕ)) → EntriesOf count kinds texts [] []
unfolding EntriesOf
none-yet count kinds texts = tt

tables-judge : (content : Content) (columns : List NamedKind) (texts : List (List ℕ)) → Judges (table_scheme content columns) (entry_judging content columns) (record { texts = texts; entries = [] })
tables-judge content columns texts = record {
  kinds = λ header. refl;
  cells = λ count width rows before number cells made.
      entry-judges (kinds_of columns) count before rows number cells
      (entries-taken content columns width 2 count (record { texts = texts; entries = [] }) before [] rows (none-yet count (kinds_of columns) texts) made);
}

bag-ends : (content : Content) (columns : List NamedKind) (records : List Cells) (read : Result EntriesRead LoadFault) → EndsByFirst (PartWrong (entry_judging content columns) records) read
    → EndsByFirst (PartWrong (entry_judging content columns) records) (bag_read read)
bag-ends content columns records (Ok all) ends = record { fault = λ fault e. cc; value = λ value e. ends.value all refl }
bag-ends content columns records (Err own) ends = record { fault = λ fault e. (let same : own ≡ fault = cc in ends.fault fault (ap Err same)); value = λ value e. cc }

-- tables and changes end by their first fault
pub tables-end : TablesEndByFirst
unfolding text_gives
tables-end content columns texts text =
    bag-ends content columns (records_of text) (part_gives (table_scheme content columns) (record { texts = texts; entries = [] }) (records_of text))
    (part-ends (table_scheme content columns) (entry_judging content columns) (record { texts = texts; entries = [] }) (records_of text) (tables-judge content columns texts))
