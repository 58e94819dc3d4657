use Rattle.wh_maint.proofs.FitTables.{fit_is_told_by_rows}
use Rattle.wh_maint.proofs.laws.fit_is_told_by_rows.Goals as goal

pub returns : goal.returns
returns c = fit_is_told_by_rows
