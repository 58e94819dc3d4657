use Rattle.wh_text_tables.proofs.ChangesReadingBack.{changes-read-back}
use Rattle.wh_text_tables.proofs.table.changes_read_back_law.Goals as goal

pub returns : goal.returns
returns c = changes-read-back
