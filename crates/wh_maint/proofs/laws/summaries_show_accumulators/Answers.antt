use Rattle.wh_maint.proofs.FitTables.{summaries_show_accumulators}
use Rattle.wh_maint.proofs.laws.summaries_show_accumulators.Goals as goal

pub returns : goal.returns
returns c = summaries_show_accumulators
