-- What is wrong with a part of a table or of changes, each fault by itself and at its place.
use Rattle.std.specs.Prelude.{◌&&◌, ◌++◌, ◌+ℤ◌, ℕ, ℤ, pos, Bool, true, false, not, List, [], ◌∷◌, Option, Some, is_some, unwrap_or, if◌then◌else◌}
use Rattle.std.specs.Ordering.{int_cmp, is_eq}
use Rattle.std.specs.Str.{bytes_eq}
use Rattle.wh_text.specs.Columns.{NamedKind, kinds_of, names_of}
use Rattle.wh_text.specs.FirstFault.{EndsByFirst, fault_if}
use Rattle.wh_text.specs.WholeNumber.{is_i64, whole_number}
use Rattle.wh_text.specs.declared.columns.Kind.{Kind}
use Rattle.wh_text.specs.declared.columns.Kind.TheVariants as of_kind
use Rattle.wh_text.specs.declared.fault.LoadFault.{LoadFault}
use Rattle.wh_text.specs.declared.fault.LoadFault.TheVariants.{Number}
use Rattle.wh_text_tables.specs.FaultPlaces.{Cells, Judging, PartWrong}
use Rattle.wh_text_tables.specs.Records.{records_of}
use Rattle.wh_text_tables.specs.TableText.{count_of, counting_of, row_cells, text_gives}
use Rattle.wh_text_tables.specs.declared.table.header.Content.{Content}
use Rattle.wh_text_tables.specs.declared.table.header.Counting.{Counting}

-- both are numbers, and one number
abbrev pub are_one_number : Option ℤ → Option ℤ → Bool
are_one_number (Some first) (Some second) = is_eq (int_cmp first second)
are_one_number _ _ = false

-- two cells of a kind write one and the same value: a whole number, or a text
abbrev pub write_same_cell : Kind → List ℕ → List ℕ → Bool
write_same_cell of_kind.Int first second = are_one_number (whole_number first) (whole_number second)
write_same_cell of_kind.Text first second = bytes_eq first second

-- the cells of two records write one row, with a cell of each kind
unfoldable pub write_same_row : List Kind → Cells → Cells → Bool
write_same_row [] first second = true
write_same_row (kind ∷ kinds) (cell ∷ first) (other ∷ second) = write_same_cell kind cell other && write_same_row kinds first second
write_same_row (kind ∷ kinds) _ _ = false

-- how often a record counts the row that others write: as it says, where it writes that row
abbrev pub counts_row : Counting → List Kind → Cells → Cells → ℤ
counts_row count kinds cells own = if write_same_row kinds (row_cells count cells) (row_cells count own) then unwrap_or (count_of count own) (pos 0) else pos 0

-- how often some records together count the row that these cells write
unfoldable pub total_of : Counting → List Kind → Cells → List Cells → ℤ
total_of count kinds cells [] = pos 0
total_of count kinds cells (own ∷ rest) = counts_row count kinds cells own +ℤ total_of count kinds cells rest

-- a cell of whole numbers that is none
abbrev pub is_wrong_cell : Kind → List ℕ → Bool
is_wrong_cell of_kind.Int cell = not (is_some (whole_number cell))
is_wrong_cell of_kind.Text cell = false

-- what is judged of the cells of a row, one of each kind, from left to right
unfoldable pub cells_judged : List Kind → ℕ → Cells → List (Option LoadFault)
cells_judged [] number cells = []
cells_judged (kind ∷ kinds) number [] = Some (Number number) ∷ []
cells_judged (kind ∷ kinds) number (cell ∷ cells) = fault_if (is_wrong_cell kind cell) (Number number) ∷ cells_judged kinds number cells

-- what is judged of a record: its count, then its cells, then how often it and the records above it count its row
abbrev pub entry_judged : List Kind → Counting → List Cells → ℕ → Cells → List (Option LoadFault)
entry_judged kinds count above number cells =
    fault_if (not (is_some (count_of count cells))) (Number number)
    ∷ (cells_judged kinds number (row_cells count cells) ++ fault_if (not (is_i64 (total_of count kinds cells (above ++ cells ∷ [])))) (Number number) ∷ [])

-- what the records of a table or of changes are judged by, over these columns
abbrev pub entry_judging : Content → List NamedKind → Judging Counting
entry_judging content columns = record { kind_of = counting_of content (names_of columns); judged = entry_judged (kinds_of columns) }

-- a text of a table or of changes is read as its first fault, and as rows only where it has none
abbrev pub TablesEndByFirst : Type 0
TablesEndByFirst =
    (content : Content) (columns : List NamedKind) (texts : List (List ℕ)) (text : List ℕ) →
    EndsByFirst (PartWrong (entry_judging content columns) (records_of text)) (text_gives content columns texts text)
