-- What the texts of tables and of changes give.
use Rattle.std.specs.Prelude.{ℕ, List, Result}
use Rattle.wh_row.specs.Bag.{Bag}
use Rattle.wh_text.specs.Columns.{NamedKind}
use Rattle.wh_text.specs.declared.fault.LoadFault.{LoadFault}
use Rattle.wh_text_tables.specs.Records.{records_of}
use Rattle.wh_text_tables.specs.TableText.{text_gives}
use Rattle.wh_text_tables.specs.Inner.Pieces.{IsReadAlone}
use Rattle.wh_text_tables.specs.declared.table.header.Content.{Content}
use Rattle.wh_text_tables.specs.declared.table.header.Content.TheVariants as content
use Rattle.wh_text_tables.specs.declared.table.rows.RowsRead.{RowsRead}

-- what the text of a table gives, over these columns, to a dictionary of these texts: the bag and the dictionary after it, or the first fault
abbrev pub table_gives : List NamedKind → List (List ℕ) → List ℕ → Result (Bag × List (List ℕ)) LoadFault
table_gives columns texts text = text_gives content.Table columns texts text

-- what the text of changes gives, over these columns, to a dictionary of these texts: the bag and the dictionary after it, or the first
-- fault
abbrev pub changes_give : List NamedKind → List (List ℕ) → List ℕ → Result (Bag × List (List ℕ)) LoadFault
changes_give columns texts text = text_gives content.Changes columns texts text

-- this is what the text of a table or of changes gives, over these columns, as if no text had a number yet
abbrev pub IsAhead : Content → List NamedKind → List ℕ → List RowsRead → Type 0
IsAhead content columns text ahead = IsReadAlone content columns (records_of text) ahead
