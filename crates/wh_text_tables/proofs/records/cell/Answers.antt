use Rattle.std.proofs.Common.{refl}
use Rattle.csv.specs.Records.{fields_of}
use Rattle.wh_text_tables.proofs.Cells.{cell-get}
use Rattle.wh_text_tables.proofs.records.cell.Goals as goal

pub returns : goal.returns
returns c = rw c.unwrap_or.ensures (cell-get (fields_of c.args.cells.now) c.args.place c.get.result _ c.get.ensures.value refl)
