-- Reading a table that was written.
use Rattle.std.specs.Prelude.{◌≡◌, ◌≢◌, ℕ, ℤ, pos, List, FitsSigned, IsUtf8, IsSome, Ok}
use Rattle.std.specs.Int.{w64}
use Rattle.std.specs.List.{All, AllZip, IsDistinct}
use Rattle.std.specs.Str.{bytes_eq}
use Rattle.wh_row.specs.Bag.{Bag, IsTable, count}
use Rattle.wh_row.specs.Row.{Row}
use Rattle.wh_text.specs.Columns.{AreNamed, NamedKind, kinds_of, names_of}
use Rattle.wh_text.specs.Dict.{text_of_cell}
use Rattle.wh_text.specs.declared.columns.Kind.{Kind}
use Rattle.wh_text.specs.declared.columns.Kind.TheVariants as of_kind
use Rattle.wh_text_tables.specs.TableText.{text_gives}
use Rattle.wh_text_tables.specs.TableWritten.{table_text}
use Rattle.wh_text_tables.specs.declared.table.header.Content.TheVariants.{Table}

-- what a column of this kind can hold: an i64, or the number of one of these texts
abbrev pub IsCell : List (List ℕ) → Kind → ℤ → Type 0
IsCell texts of_kind.Int number = FitsSigned w64 number
IsCell texts of_kind.Text number = IsSome (text_of_cell texts number)

-- A table of these columns and texts. Names and texts are UTF-8, no text stands twice, and no row counts below zero or past i64. A row that
-- counts has in each column what that column can hold, and no further cell
pub record IsTableOver (columns : List NamedKind) (texts : List (List ℕ)) (bag : Bag) : Type 0 where
  pub names : All IsUtf8 (names_of columns)
  pub texts_distinct : IsDistinct bytes_eq texts
  pub texts_utf8 : All IsUtf8 texts
  pub table : IsTable bag
  pub counts : (row : Row) → FitsSigned w64 (count bag row)
  pub rows : (row : Row) → count bag row ≢ pos 0 → AllZip (IsCell texts) (kinds_of columns) row

-- a table that was written is read back as it was, and leaves the texts as they are
abbrev pub TableReadsBack : Type 0
TableReadsBack =
    (columns : List NamedKind) (texts : List (List ℕ)) (bag : Bag) → IsTableOver columns texts bag →
    text_gives Table columns texts (table_text columns texts bag) ≡ Ok (bag, texts)

-- the names of columns that are read of a catalogue are UTF-8
abbrev pub NamesAreText : Type 0
NamesAreText = (columns : List NamedKind) → AreNamed columns → All IsUtf8 (names_of columns)
