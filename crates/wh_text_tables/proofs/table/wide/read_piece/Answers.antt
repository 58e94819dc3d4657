use Rattle.wh_text_tables.specs.Records.{records_of}
use Rattle.wh_text_tables.specs.TableText.{EntriesRead}
use Rattle.wh_text_tables.specs.Inner.TableText.{entry_scheme}
use Rattle.wh_text_tables.proofs.PartReads.{taken-all}
use Rattle.wh_text_tables.proofs.PieceLaws.{piece-read}
use Rattle.wh_text_tables.proofs.table.wide.read_piece.Goals as goal

pub returns-in-Ok : goal.returns-in-Ok
returns-in-Ok c =
    let content = c.args.reader.now.content in
    let columns = c.args.reader.now.columns.now in
    let new : EntriesRead = record { texts = c.read_rows.new.state.dict; entries = c.read_rows.new.state.counted } in
    let taken = rw (c.in-Ok.is, c.below_header-records.ensures, c.new.ensures, c.new-2.ensures) at c.read_rows.ensures.taken in
    piece-read content columns c.args.layout.counting c.args.layout.width 2 new (records_of c.args.text.now) (taken-all (entry_scheme content columns) _ _ new taken)
