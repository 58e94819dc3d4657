-- A table as it is written.
use Rattle.std.specs.Prelude.{ℕ, ℤ, List, [], ◌∷◌, map, unwrap_or}
use Rattle.std.specs.Fmt.{signed_decimal}
use Rattle.std.specs.List.{flat_map}
use Rattle.csv.specs.Writing.{default_writer, row_text}
use Rattle.wh_row.specs.Bag.{Bag, written}
use Rattle.wh_row.specs.Row.{Row}
use Rattle.wh_text.specs.Columns.{NamedKind, kinds_of, names_of}
use Rattle.wh_text.specs.Dict.{text_of_cell}
use Rattle.wh_text.specs.declared.columns.Kind.{Kind}
use Rattle.wh_text.specs.declared.columns.Kind.TheVariants as of_kind
use Rattle.wh_text_tables.specs.TableText.{counted_header}

-- a cell as it is written: a whole number in decimal, a text as itself, and nothing for a number that no text has
abbrev pub cell_text : List (List ℕ) → Kind → ℤ → List ℕ
cell_text texts of_kind.Int number = signed_decimal number
cell_text texts of_kind.Text number = unwrap_or (text_of_cell texts number) []

-- the cells of a row as they are written, one for each column; nothing where the row has no cell
unfoldable pub cell_texts : List (List ℕ) → List Kind → Row → List (List ℕ)
cell_texts texts [] row = []
cell_texts texts (kind ∷ kinds) [] = [] ∷ cell_texts texts kinds []
cell_texts texts (kind ∷ kinds) (number ∷ row) = cell_text texts kind number ∷ cell_texts texts kinds row

-- the record of a row: its count, and then its cells
abbrev pub record_of : List (List ℕ) → List Kind → Row × ℤ → List (List ℕ)
record_of texts kinds entry = signed_decimal entry.1 ∷ cell_texts texts kinds entry.0

-- the records of a table: `#` and the columns' names, and then a record for each row, in rising order
abbrev pub table_records : List NamedKind → List (List ℕ) → Bag → List (List (List ℕ))
table_records columns texts bag = counted_header (names_of columns) ∷ map (record_of texts (kinds_of columns)) (written bag)

-- The text of a table: each record on a line that LF ends, its fields parted by commas. Fields are in quotes where they have a comma, a
-- quote, CR or LF
abbrev pub table_text : List NamedKind → List (List ℕ) → Bag → List ℕ
table_text columns texts bag = flat_map (row_text default_writer) (table_records columns texts bag)
