use Rattle.wh_text_tables.specs.TableText.{EntriesRead}
use Rattle.std.specs.Result.{result_err}
use Rattle.wh_text_tables.specs.Records.{records_of}
use Rattle.wh_text_tables.proofs.TableRows.{part-begins}
use Rattle.wh_text_tables.proofs.TableSums.{answer-ok, answer-err}
use Rattle.wh_text_tables.proofs.table.read_through.Goals as goal

pub returns-clause-ok : goal.returns-clause-ok
returns-clause-ok g c =
    let old : EntriesRead = record { texts = c.args.rows.now.dict; entries = c.args.rows.now.counted } in
    let new : EntriesRead = record { texts = c.read_part-read.new.state.dict; entries = c.read_part-read.new.state.counted } in
    answer-ok c.args.reader.now.content c.args.reader.now.columns.now c.args.text.now old new c.read_part-read.result c.sum_up.result c.requires c.read_part-read.ensures.read c.sum_up.ensures.ok c.sum_up.ensures.fits

pub returns-clause-err : goal.returns-clause-err
returns-clause-err g c =
    let old : EntriesRead = record { texts = c.args.rows.now.dict; entries = c.args.rows.now.counted } in
    let new : EntriesRead = record { texts = c.read_part-read.new.state.dict; entries = c.read_part-read.new.state.counted } in
    answer-err c.args.reader.now.content c.args.reader.now.columns.now c.args.text.now old new c.read_part-read.result c.sum_up.result c.requires c.read_part-read.ensures.read c.sum_up.ensures.err

pub returns-clause-begins : goal.returns-clause-begins
returns-clause-begins g c =
    let old : EntriesRead = record { texts = c.args.rows.now.dict; entries = c.args.rows.now.counted } in
    let new : EntriesRead = record { texts = c.read_part-read.new.state.dict; entries = c.read_part-read.new.state.counted } in
    part-begins c.args.reader.now.content c.args.reader.now.columns.now (records_of c.args.text.now) old new (result_err c.read_part-read.result) c.read_part-read.ensures.read
