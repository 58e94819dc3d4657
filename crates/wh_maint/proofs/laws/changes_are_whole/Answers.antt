use Rattle.wh_maint.proofs.FitTables.{changes_are_whole}
use Rattle.wh_maint.proofs.laws.changes_are_whole.Goals as goal

pub returns : goal.returns
returns c = changes_are_whole
