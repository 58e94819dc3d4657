use Rattle.std.proofs.Common.{◌≡◌, ◌++◌, ◌∷◌, [], drop}
use Rattle.csv.specs.Writing.{default_writer, fields_text, row_text}
use Rattle.wh_text.specs.Columns.{kinds_of}
use Rattle.wh_text_tables.specs.TableWritten.{cell_texts, record_of}
use Rattle.wh_text_tables.proofs.table.write.write_row.Given as goal

abbrev pub invariant-loop-place : goal.invariant-loop-place
invariant-loop-place l =
    l.out.items ++ (fields_text default_writer (cell_texts l.dict (kinds_of (drop l.place l.columns)) (drop l.place l.row)) ++ 10 ∷ [])
    ≡ l.fn.out.items ++ row_text default_writer (record_of l.dict (kinds_of l.columns) (l.row, l.count))
