-- Tables and changes as parts write them: a header, and a record for each row with its count.
use Rattle.std.specs.Prelude.{ℕ, zero, suc, ℤ, pos, negsuc, List, [], ◌∷◌, ◌++◌, drop, codes, Option, Some, None, ok_or, Result, Ok, Err, if◌then◌else◌, option_and_then, option_map}
use Rattle.std.specs.Cmp.Lexicographic.{pointwise}
use Rattle.std.specs.Str.{bytes_eq}
use Rattle.wh_row.specs.Bag.{Bag, bag_of}
use Rattle.wh_row.specs.Records.{running_sum}
use Rattle.wh_row.specs.Row.{Row}
use Rattle.wh_row.specs.Weigh.{Counted}
use Rattle.wh_text.specs.Columns.{NamedKind, kinds_of, names_of}
use Rattle.wh_text.specs.Dict.{number_of_text, with_texts}
use Rattle.wh_text.specs.WholeNumber.{is_i64, whole_number}
use Rattle.wh_text.specs.declared.columns.Kind.{Kind}
use Rattle.wh_text.specs.declared.columns.Kind.TheVariants as of_kind
use Rattle.wh_text.specs.declared.fault.LoadFault.{LoadFault}
use Rattle.wh_text.specs.declared.fault.LoadFault.TheVariants.{Number}
pub use Rattle.wh_text.specs.ValueOrFault.{or_fault}
use Rattle.wh_text.specs.ValueOrFault.{◌>>=◌}
use Rattle.wh_text_tables.specs.Part.{Scheme, part_of}
use Rattle.wh_text_tables.specs.Records.{cell}
use Rattle.wh_text_tables.specs.declared.table.header.Content.{Content}
use Rattle.wh_text_tables.specs.declared.table.header.Content.TheVariants as of_content
use Rattle.wh_text_tables.specs.declared.table.header.Counting.{Counting}
use Rattle.wh_text_tables.specs.declared.table.header.Counting.TheVariants as of_counting

-- The header.

-- the header of rows with a count before them
abbrev pub counted_header : List (List ℕ) → List (List ℕ)
counted_header names = codes "#" ∷ names

-- How records say the counts of their rows, by the header that they stand under. The header of a table has the names of the columns, with
-- or without `#` before them, and that of changes always has `#`
abbrev pub counting_of : Content → List (List ℕ) → List (List ℕ) → Option Counting
counting_of of_content.Table names header =
    if pointwise bytes_eq header names then Some of_counting.Once
    else if pointwise bytes_eq header (counted_header names) then Some of_counting.Positive
    else None
counting_of of_content.Changes names header = if pointwise bytes_eq header (counted_header names) then Some of_counting.NonZero else None

-- One record.

-- how many cells of a record tell its count
abbrev pub count_cells : Counting → ℕ
count_cells of_counting.Once = 0
count_cells of_counting.Positive = 1
count_cells of_counting.NonZero = 1

-- a count above zero
abbrev pub positive : ℤ → Option ℤ
positive (pos zero) = None
positive (pos (suc n)) = Some (pos (suc n))
positive (negsuc n) = None

-- a count that is not zero
abbrev pub non_zero : ℤ → Option ℤ
non_zero (pos zero) = None
non_zero (pos (suc n)) = Some (pos (suc n))
non_zero (negsuc n) = Some (negsuc n)

-- How often a record counts its row, where its count is allowed. It is once where the record tells no count, else as its first cell tells,
-- above zero in a table and not zero in changes
abbrev pub count_of : Counting → List (List ℕ) → Option ℤ
count_of of_counting.Once cells = Some (pos 1)
count_of of_counting.Positive cells = option_and_then positive (whole_number (cell cells 0))
count_of of_counting.NonZero cells = option_and_then non_zero (whole_number (cell cells 0))

-- the cells of a record's row
abbrev pub row_cells : Counting → List (List ℕ) → List (List ℕ)
row_cells count cells = drop (count_cells count) cells

-- the number that a cell of this kind stands for, if it stands for one: a whole number for itself, a text for its number among these
abbrev pub cell_number : List (List ℕ) → Kind → List ℕ → Option ℤ
cell_number texts of_kind.Int cell = whole_number cell
cell_number texts of_kind.Text cell = Some (pos (number_of_text texts cell))

-- the row that cells write, one of each kind, where each stands for a number
unfoldable pub row_of : List (List ℕ) → List Kind → List (List ℕ) → Option Row
row_of texts [] cells = Some []
row_of texts (kind ∷ kinds) [] = None
row_of texts (kind ∷ kinds) (cell ∷ cells) = option_and_then (λ number. option_map (λ row. number ∷ row) (row_of texts kinds cells)) (cell_number texts kind cell)

-- the row of a record and how often it counts
abbrev pub entry_of : Counting → List (List ℕ) → List Kind → List (List ℕ) → Option (Row × ℤ)
entry_of count texts kinds cells = option_and_then (λ n. option_map (λ row. (row, n)) (row_of texts kinds (row_cells count cells))) (count_of count cells)

-- the cell as a list, where it is a text
abbrev pub text_in : Kind → List ℕ → List (List ℕ)
text_in of_kind.Int cell = []
text_in of_kind.Text cell = cell ∷ []

-- the texts among cells of these kinds
unfoldable pub texts_in_row : List Kind → List (List ℕ) → List (List ℕ)
texts_in_row [] cells = []
texts_in_row (kind ∷ kinds) [] = []
texts_in_row (kind ∷ kinds) (cell ∷ cells) = text_in kind cell ++ texts_in_row kinds cells

-- All records.

-- what was read so far: the texts of the dictionary, and the row of each record with how often it counts
pub record EntriesRead : Type 0 where
  pub texts : List (List ℕ)
  pub entries : Counted

-- the dictionary once it has the texts of this record's row
abbrev pub texts_after : Counting → List Kind → List (List ℕ) → List (List ℕ) → List (List ℕ)
texts_after count kinds texts cells = with_texts texts (texts_in_row kinds (row_cells count cells))

-- what was read so far, with the texts and the entry of one record more
abbrev pub with_entry : EntriesRead → List (List ℕ) → Row × ℤ → EntriesRead
with_entry read texts entry = record { texts = texts; entries = read.entries ++ entry ∷ [] }

-- what was read so far, with one record more; a record that brings the sum of its row out of i64 has a fault
abbrev pub added : List Kind → Counting → EntriesRead → ℕ → List (List ℕ) → Result EntriesRead LoadFault
added kinds count read number cells = do
  entry ← ok_or (entry_of count (texts_after count kinds read.texts cells) kinds cells) (Number number)
  if is_i64 (running_sum read.entries entry) then Ok (with_entry read (texts_after count kinds read.texts cells) entry) else Err (Number number)

-- the scheme of a table or of changes, where a record that brings the sum of its row out of i64 has a fault
abbrev pub table_scheme : Content → List NamedKind → Scheme Counting EntriesRead
table_scheme content columns = record { kind_of = counting_of content (names_of columns); take = added (kinds_of columns) }

-- the bag in which each row counts the sum of its records' counts, and the dictionary
abbrev pub bag_read : Result EntriesRead LoadFault → Result (Bag × List (List ℕ)) LoadFault
bag_read read = do
  all ← read
  Ok (bag_of all.entries, all.texts)

-- what the text of a table or of changes gives, over these columns, to a dictionary of these texts: the bag and the dictionary after it, or the first fault
unfoldable pub text_gives : Content → List NamedKind → List (List ℕ) → List ℕ → Result (Bag × List (List ℕ)) LoadFault
text_gives content columns texts text = bag_read (part_of (table_scheme content columns) (record { texts = texts; entries = [] }) text)

-- How far a reader came.
