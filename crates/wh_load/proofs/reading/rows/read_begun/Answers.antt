use Rattle.wh_load.specs.Inner.ReadingRows.{shown_rows}
use Rattle.wh_load.proofs.ReadingAhead.{given-by}
use Rattle.wh_load.proofs.reading.rows.read_begun.Goals as goal

pub returns-in-Some-clause-ok : goal.returns-in-Some-clause-ok
returns-in-Some-clause-ok g c = rw (c.content.ensures, given-by (shown_rows c.args.rows) c.args.columns.now c.args.texts.now c.args.text.now) at c.read_from.ensures.ok

pub returns-in-Some-clause-err : goal.returns-in-Some-clause-err
returns-in-Some-clause-err g c = rw (c.content.ensures, given-by (shown_rows c.args.rows) c.args.columns.now c.args.texts.now c.args.text.now) at c.read_from.ensures.err
