use Rattle.wh_maint.proofs.MetRows.{met_rows_count}
use Rattle.wh_maint.proofs.laws.met_rows_count.Goals as goal

pub returns : goal.returns
returns c = met_rows_count
