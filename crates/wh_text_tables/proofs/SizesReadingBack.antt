-- Sizes that were written are read back.
use Rattle.std.proofs.Common.{◌≡◌, ◌<◌, ◌≤◌, ◌+◌, ◌^◌, ℕ, pos, zero, suc, true, false, List, [], ◌∷◌, ◌++◌, length, map, set, replicate, codes, get_or, Option, Some, None, Result, Ok, refl, sym, ap, ◌∙◌, arith, append_assoc, length-append, All, FitsSigned}
use Rattle.std.specs.Prelude.{IsUtf8, decimal, is_some, nat_le, nat_lt, not, position}
use Rattle.std.specs.Int.{w64}
use Rattle.std.specs.List.{IsDistinct, filter_map, list_all, list_any, position_or_len}
use Rattle.std.specs.Str.{bytes_eq, is_utf8}
use Rattle.std.proofs.Math.Seq.{get_or-append_seam}
use Rattle.std.proofs.lemmas.Bool.{and_parts, false_from_ne_true, lt-ltb}
use Rattle.std.proofs.lemmas.Bool.Decides.{nat_tests}
use Rattle.std.proofs.lemmas.List.{append-nil}
use Rattle.std.proofs.lemmas.List.Sums.{position_or_len_is}
use Rattle.std.proofs.lemmas.Map.Made.{AllPairs-from_IsDistinct}
use Rattle.std.proofs.lemmas.Slice.Eq.{bytes_eq-Decides}
use Rattle.std.proofs.lemmas.Str.{IsUtf8-from_ascii, is_utf8-from_IsUtf8}
use Rattle.csv.specs.Writing.{read_back}
use Rattle.wh_dag.specs.Written.{number_of}
use Rattle.wh_strategy.specs.Sizes.{AreSizeRows, IsSizeRow}
use Rattle.wh_strategy.specs.declared.sizes.SizeRow.{SizeRow}
use Rattle.wh_text.specs.WholeNumber.{whole_number}
use Rattle.wh_text.specs.declared.fault.LoadFault.{LoadFault}
use Rattle.wh_text.proofs.WholeNumbers.{is_i64-decides}
use Rattle.wh_text.specs.ValueOrFault.{◌>>=◌}
use Rattle.wh_text_tables.specs.Part.{below_header, part_gives, record_gives, records_give}
use Rattle.wh_text_tables.specs.Records.{form_fault}
use Rattle.wh_text_tables.specs.RowSizes.{counts_of, size_within, weight_of}
use Rattle.wh_text_tables.specs.SizesReadBack.{SizesReadBack, TellWeights, size_record, size_records}
use Rattle.wh_text_tables.specs.SizesText.{all_sizes, columns_of, size_written, sizes_header, sizes_of_text, sizes_scheme, weight_heading}
use Rattle.wh_text_tables.specs.declared.sizes.header.Columns.{Columns}
use Rattle.wh_text_tables.specs.declared.sizes.header.Columns.TheVariants as of_columns
use Rattle.wh_text_tables.proofs.PartReads.{records_give-first, records_give-none}
use Rattle.wh_text_tables.proofs.PassingPlaces.{position-any}
use Rattle.wh_text_tables.proofs.RecordsReadBack.{view-back}
use Rattle.wh_text_tables.proofs.TableReadingBack.{decimal-utf8, whole-decimal}

-- Numbers.

small-fits : (n : ℕ) → n ≤ 2 ^ 40 → FitsSigned w64 (pos n)
small-fits n small = (is_i64-decides (pos n)).0 (lt-ltb n (2 ^ 63) (omega arith))

rows-read : (n : ℕ) → n ≤ 2 ^ 40 → whole_number (decimal n) ≡ Some (pos n)
rows-read n small = whole-decimal (pos n) (small-fits n small)

not-more : (n k : ℕ) → n ≤ k → nat_le n k ≡ true
not-more n k small = grind (arith, nat_tests)

-- a size within its limits is read as it was
size-read : (size : SizeRow) → IsSizeRow size → size_within (record { pre = pos size.pre; post = pos size.post; change = pos size.change; weight = pos size.weight }) ≡ Some size
unfolding size_within
size-read size is =
    rw (
      not-more size.pre (2 ^ 40) is.few_before,
      not-more size.post (2 ^ 40) is.few_after,
      not-more size.change (2 ^ 40) is.small_change,
      not-more size.post (size.pre + size.change) is.grows_within,
      not-more size.pre (size.post + size.change) is.shrinks_within,
      not-more 1 size.weight is.some_weight,
      not-more size.weight 1000 is.little_weight,
    ) refl

-- the columns have room for the weight of a view
abbrev TellsWeight : Columns → SizeRow → Type 0
TellsWeight of_columns.Plain size = size.weight ≡ 1
TellsWeight of_columns.Weighted size = Unit {0}

few-weights : (size : SizeRow) → IsSizeRow size → size.weight ≤ 2 ^ 40
few-weights size is = (let little = is.little_weight in omega arith)

-- a weight is read as it was
weight-read : (columns : Columns) (name : List ℕ) (size : SizeRow) → IsSizeRow size → TellsWeight columns size → weight_of columns (size_record columns name size) ≡ Some (pos size.weight)
weight-read of_columns.Plain name size is tells = ap (λ n. Some (pos n)) (sym tells)
weight-read of_columns.Weighted name size is tells = rows-read size.weight (few-weights size is)

row-read : (columns : Columns) (name : List ℕ) (size : SizeRow) (number : ℕ) → IsSizeRow size → TellsWeight columns size → size_written columns number (size_record columns name size) ≡ Ok size
unfolding counts_of
row-read columns name size number is tells =
    rw (
      rows-read size.pre is.few_before,
      rows-read size.post is.few_after,
      rows-read size.change is.small_change,
      weight-read columns name size is tells,
      size-read size is,
    ) refl

-- how many cells a record has
abbrev width_of : Columns → ℕ
width_of columns = length (sizes_header columns)

form-read : (columns : Columns) (name : List ℕ) (size : SizeRow) (number : ℕ) → IsUtf8 name → IsSizeRow size → form_fault (width_of columns) number (size_record columns name size) ≡ None
form-read of_columns.Plain name size number utf8 is =
    rw (
      is_utf8-from_IsUtf8 name utf8,
      decimal-utf8 (pos size.pre) (small-fits size.pre is.few_before),
      decimal-utf8 (pos size.post) (small-fits size.post is.few_after),
      decimal-utf8 (pos size.change) (small-fits size.change is.small_change),
    ) refl
form-read of_columns.Weighted name size number utf8 is =
    rw (
      is_utf8-from_IsUtf8 name utf8,
      decimal-utf8 (pos size.pre) (small-fits size.pre is.few_before),
      decimal-utf8 (pos size.post) (small-fits size.post is.few_after),
      decimal-utf8 (pos size.change) (small-fits size.change is.small_change),
      decimal-utf8 (pos size.weight) (small-fits size.weight (few-weights size is)),
    ) refl

-- Names.

-- a name among distinct ones has its own number
own-number : (before : List (List ℕ)) (name : List ℕ) (after : List (List ℕ)) → IsDistinct bytes_eq (before ++ name ∷ after) → number_of (before ++ name ∷ after) name ≡ Some (length before)
own-number before name after distinct =
    let all = before ++ name ∷ after in
    let here : get_or all (length before) [] ≡ name = get_or-append_seam before name after [] in
    let long = length-append before (name ∷ after) in
    let within : length before < length all = omega arith in
    let apart = AllPairs-from_IsDistinct bytes_eq-Decides all distinct in
    let first : position_or_len (λ n. bytes_eq n name) all ≡ length before =
    position_or_len_is (λ n. bytes_eq n name) all (length before) [] (omega arith)
    (λ k l. false_from_ne_true (bytes_eq (get_or all k []) name) (λ e. apart k (length before) [] l within ((bytes_eq-Decides (get_or all k []) name).0 e ∙ sym here)))
    (λ l. rw here ((bytes_eq-Decides name name).1 refl)) in
    rw (first, lt-ltb (length before) (length all) within) refl

-- Rows.

-- views with sizes, and so many without
abbrev so_far : List SizeRow → ℕ → List (Option SizeRow)
so_far done left = map Some done ++ replicate left None

none-there : (done : List SizeRow) (left : ℕ) → get_or (so_far done (suc left)) (length done) None ≡ None
none-there [] left = refl
none-there (size ∷ done) left = none-there done left

set-there : (done : List SizeRow) (size : SizeRow) (left : ℕ) → set (so_far done (suc left)) (length done) (Some size) ≡ so_far (done ++ size ∷ []) left
set-there [] size left = refl
set-there (own ∷ done) size left = ap (λ rest. Some own ∷ rest) (set-there done size left)

-- the row of the next view gives it its size
row-placed : (columns : Columns) (all before : List (List ℕ)) (name : List ℕ) (after : List (List ℕ)) (done : List SizeRow) (size : SizeRow) (number : ℕ) → all ≡ before ++ name ∷ after
    → length done ≡ length before → IsDistinct bytes_eq all → IsUtf8 name → IsSizeRow size → TellsWeight columns size
    → record_gives (sizes_scheme all) (width_of columns) columns (so_far done (suc (length after))) number (size_record columns name size) ≡ Ok (so_far (done ++ size ∷ []) (length after))
row-placed columns all before name after done size number parts long distinct utf8 is tells =
    let own : number_of all name ≡ Some (length done) =
    ap (λ ns. number_of ns name) parts ∙ own-number before name after (rw (← parts) distinct) ∙ ap Some (sym long) in
    rw (form-read columns name size number utf8 is, own, none-there done (length after), row-read columns name size number is tells) (ap Ok (set-there done size (length after)))

-- each of these is a size that the columns have room for, and each of these names UTF-8
abbrev AreEach : Columns → List (List ℕ) → List SizeRow → Type 0
AreEach columns [] [] = Unit {0}
AreEach columns (name ∷ names) (size ∷ sizes) = IsUtf8 name × IsSizeRow size × TellsWeight columns size × AreEach columns names sizes
AreEach columns _ _ = ⊥

rows-placed : (columns : Columns) (all before names : List (List ℕ)) (done sizes : List SizeRow) (number : ℕ) → all ≡ before ++ names → length done ≡ length before → IsDistinct bytes_eq all
    → AreEach columns names sizes → records_give (sizes_scheme all) (width_of columns) columns number (so_far done (length names)) (size_records columns names sizes) ≡ Ok (map Some (done ++ sizes))
unfolding size_records
rows-placed columns all before [] done [] number parts long distinct each =
    records_give-none (sizes_scheme all) (width_of columns) columns number (so_far done 0) ∙ ap Ok (append-nil (map Some done) ∙ ap (λ (d : List SizeRow). map Some d) (sym (append-nil done)))
rows-placed columns all before [] done (size ∷ sizes) number parts long distinct each = absurd each
rows-placed columns all before (name ∷ names) done [] number parts long distinct each = absurd each
rows-placed columns all before (name ∷ names) done (size ∷ sizes) number parts long distinct each =
    let one = length-append before (name ∷ []) in
    let more = length-append done (size ∷ []) in
    records_give-first (sizes_scheme all) (width_of columns) columns number (so_far done (suc (length names))) (size_record columns name size) (size_records columns names sizes)
    ∙ ap (λ (r : Result (List (Option SizeRow)) LoadFault). r >>= (λ after. records_give (sizes_scheme all) (width_of columns) columns (number + 1) after (size_records columns names sizes)))
    (row-placed columns all before name names done size number parts long distinct each.0 each.1 each.2)
    ∙ rows-placed columns all (before ++ name ∷ []) names (done ++ size ∷ []) sizes (number + 1) (parts ∙ sym (append_assoc before (name ∷ []) names)) (omega arith) distinct each.3
    ∙ ap (λ (d : List SizeRow). Ok (map Some d)) (append_assoc done (size ∷ []) sizes)

first-tells : (columns : Columns) (size : SizeRow) (sizes : List SizeRow) → TellWeights columns (size ∷ sizes) → TellsWeight columns size
first-tells of_columns.Plain size sizes tell = tell 0 size (omega arith)
first-tells of_columns.Weighted size sizes tell = tt

others-tell : (columns : Columns) (size : SizeRow) (sizes : List SizeRow) → TellWeights columns (size ∷ sizes) → TellWeights columns sizes
others-tell of_columns.Plain size sizes tell = λ k d l. tell (suc k) d (omega arith)
others-tell of_columns.Weighted size sizes tell = tt

are-each : (columns : Columns) (names : List (List ℕ)) (sizes : List SizeRow) → All IsUtf8 names → length sizes ≡ length names → AreSizeRows sizes → TellWeights columns sizes → AreEach columns names sizes
are-each columns [] [] utf8 long within tell = tt
are-each columns [] (size ∷ sizes) utf8 long within tell = absurd (omega arith)
are-each columns (name ∷ names) [] utf8 long within tell = absurd (omega arith)
are-each columns (name ∷ names) (size ∷ sizes) utf8 long within tell = (
  utf8 0 [] (omega arith),
  within 0 size refl,
  first-tells columns size sizes tell,
  are-each columns names sizes (λ k d l. utf8 (suc k) d (omega arith)) (omega arith) (λ u row there. within (suc u) row there) (others-tell columns size sizes tell),
)

-- The header.

below-128 : (bytes : List ℕ) → list_all (λ byte. nat_lt byte 128) bytes ≡ true → (i : ℕ) → get_or bytes i 0 < 128
below-128 [] e i = omega arith
below-128 (byte ∷ bytes) e zero = (let here = (and_parts (nat_lt byte 128) (list_all (λ byte. nat_lt byte 128) bytes) e).0 in grind (arith, nat_tests))
below-128 (byte ∷ bytes) e (suc i) = below-128 bytes (and_parts (nat_lt byte 128) (list_all (λ byte. nat_lt byte 128) bytes) e).1 i

ascii-utf8 : (bytes : List ℕ) → list_all (λ byte. nat_lt byte 128) bytes ≡ true → is_utf8 bytes ≡ true
ascii-utf8 bytes e = is_utf8-from_IsUtf8 bytes (IsUtf8-from_ascii bytes (below-128 bytes e))

header-form : (columns : Columns) → form_fault (width_of columns) 1 (sizes_header columns) ≡ None
header-form of_columns.Plain = rw (ascii-utf8 (codes "view") refl, ascii-utf8 (codes "pre") refl, ascii-utf8 (codes "post") refl, ascii-utf8 (codes "change") refl) refl
header-form of_columns.Weighted =
    rw (ascii-utf8 (codes "view") refl, ascii-utf8 (codes "pre") refl, ascii-utf8 (codes "post") refl, ascii-utf8 (codes "change") refl, ascii-utf8 (codes "weight") refl) refl

header-kind : (columns : Columns) → columns_of (sizes_header columns) ≡ Some columns
header-kind of_columns.Plain = refl
header-kind of_columns.Weighted = refl

header-given : (names : List (List ℕ)) (columns : Columns) (rows : List (List (List ℕ)))
    → below_header (sizes_scheme names) (sizes_header columns ∷ rows) ≡ Ok (record { kind = columns; width = width_of columns; rows = rows })
header-given names columns rows = rw (header-form columns, header-kind columns) refl

-- The whole text.

kept-records : (columns : Columns) (names : List (List ℕ)) (sizes : List SizeRow) → map read_back (size_records columns names sizes) ≡ size_records columns names sizes
unfolding size_records
kept-records columns [] sizes = refl
kept-records columns (name ∷ names) [] = refl
kept-records columns (name ∷ names) (size ∷ sizes) = ap (λ rest. size_record columns name size ∷ rest) (kept-records columns names sizes)

none-missing : (sizes : List SizeRow) → list_any (λ (size : Option SizeRow). not (is_some size)) (map Some sizes) ≡ false
none-missing [] = refl
none-missing (size ∷ sizes) = none-missing sizes

no-place : (o : Option ℕ) → is_some o ≡ false → o ≡ None
no-place None e = refl
no-place (Some place) e = cc

all-found : (sizes : List SizeRow) → filter_map (λ (size : Option SizeRow). size) (map Some sizes) ≡ sizes
all-found [] = refl
all-found (size ∷ sizes) = ap (λ rest. size ∷ rest) (all-found sizes)

covered : (names : List (List ℕ)) (sizes : List SizeRow) → all_sizes names (map Some sizes) ≡ Ok sizes
covered names sizes =
    let none : position (λ (size : Option SizeRow). not (is_some size)) (map Some sizes) ≡ None =
    no-place _ (position-any (λ (size : Option SizeRow). not (is_some size)) (map Some sizes) ∙ none-missing sizes) in
    rw none (ap Ok (all-found sizes))

pub sizes-read-back : SizesReadBack
unfolding sizes_of_text
sizes-read-back columns names sizes are tell =
    let rows = size_records columns names sizes in
    let read = rows-placed columns names [] names [] sizes 2 refl refl are.distinct (are-each columns names sizes are.utf8 are.long are.within tell) in
    ap (λ records. part_gives (sizes_scheme names) (replicate (length names) None) records >>= all_sizes names)
    (view-back (codes "pre" ∷ codes "post" ∷ codes "change" ∷ weight_heading columns) rows (kept-records columns names sizes))
    ∙ rw (header-given names columns rows, read) (covered names sizes)
