use Rattle.wh_maint.proofs.MetRows.{new_sums_fit}
use Rattle.wh_maint.proofs.laws.new_sums_fit.Goals as goal

pub returns : goal.returns
returns c = new_sums_fit
