use Rattle.std.proofs.Common.{◌+◌, drop}
use Rattle.csv.specs.Records.{fields_of}
use Rattle.wh_text.specs.Columns.{kinds_of}
use Rattle.wh_text_tables.proofs.TableRow.{IsReadTo}
use Rattle.wh_text_tables.proofs.table.entry.read_row.Given as goal

abbrev pub invariant-loop-place : goal.invariant-loop-place
invariant-loop-place l =
    IsReadTo (kinds_of l.reader.columns.now) (kinds_of (drop l.place l.reader.columns.now)) (drop l.from (fields_of l.cells)) (drop (l.from + l.place) (fields_of l.cells)) l.fn.dict l.dict l.row.items
