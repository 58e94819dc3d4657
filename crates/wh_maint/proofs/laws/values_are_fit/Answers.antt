use Rattle.wh_maint.proofs.FitTables.{values_are_fit}
use Rattle.wh_maint.proofs.laws.values_are_fit.Goals as goal

pub returns : goal.returns
returns c = values_are_fit
