use Rattle.std.proofs.Common.{◌≡◌, ◌++◌, ◌∷◌, [], drop}
use Rattle.csv.specs.Writing.{default_writer, fields_text, row_text}
use Rattle.wh_text.specs.Columns.{names_of}
use Rattle.wh_text_tables.specs.TableText.{counted_header}
use Rattle.wh_text_tables.proofs.table.write.write_header.Given as goal

abbrev pub invariant-loop-column : goal.invariant-loop-column
invariant-loop-column l =
    l.out.items ++ (fields_text default_writer (names_of (drop l.column-index l.columns)) ++ 10 ∷ []) ≡ l.fn.out.items ++ row_text default_writer (counted_header (names_of l.columns))
