use Rattle.wh_maint.proofs.Differences.{comps_are_differences}
use Rattle.wh_maint.proofs.laws.comps_are_differences.Goals as goal

pub returns : goal.returns
returns c = comps_are_differences
