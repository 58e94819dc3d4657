use Rattle.wh_maint.proofs.Folds.{folds_add_up}
use Rattle.wh_maint.proofs.laws.folds_add_up.Goals as goal

pub returns : goal.returns
returns c = folds_add_up
