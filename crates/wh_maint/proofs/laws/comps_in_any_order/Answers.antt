use Rattle.wh_maint.proofs.Differences.{comps_in_any_order}
use Rattle.wh_maint.proofs.laws.comps_in_any_order.Goals as goal

pub returns : goal.returns
returns c = comps_in_any_order
