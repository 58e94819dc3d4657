-- Reading changes that were written.
use Rattle.std.specs.Prelude.{◌≡◌, ◌≢◌, ℕ, pos, List, FitsSigned, IsUtf8, Ok}
use Rattle.std.specs.Int.{w64}
use Rattle.std.specs.List.{All, AllZip, IsDistinct}
use Rattle.std.specs.Str.{bytes_eq}
use Rattle.wh_row.specs.Bag.{Bag, count}
use Rattle.wh_row.specs.Row.{Row}
use Rattle.wh_text.specs.Columns.{NamedKind, kinds_of, names_of}
use Rattle.wh_text_tables.specs.TableReadsBack.{IsCell}
use Rattle.wh_text_tables.specs.TableText.{text_gives}
use Rattle.wh_text_tables.specs.TableWritten.{table_text}
use Rattle.wh_text_tables.specs.declared.table.header.Content.TheVariants.{Changes}

-- Changes of these columns and texts, a bag of any sign. Names and texts are UTF-8, no text stands twice, and each count is an i64. A row
-- that counts has in each column what that column can hold, and no further cell
pub record AreChangesOver (columns : List NamedKind) (texts : List (List ℕ)) (bag : Bag) : Type 0 where
  pub names : All IsUtf8 (names_of columns)
  pub texts_distinct : IsDistinct bytes_eq texts
  pub texts_utf8 : All IsUtf8 texts
  pub counts : (row : Row) → FitsSigned w64 (count bag row)
  pub rows : (row : Row) → count bag row ≢ pos 0 → AllZip (IsCell texts) (kinds_of columns) row

-- changes that were written as a table is are read back as they were, and leave the texts as they are
abbrev pub ChangesReadBack : Type 0
ChangesReadBack =
    (columns : List NamedKind) (texts : List (List ℕ)) (bag : Bag) → AreChangesOver columns texts bag →
    text_gives Changes columns texts (table_text columns texts bag) ≡ Ok (bag, texts)
