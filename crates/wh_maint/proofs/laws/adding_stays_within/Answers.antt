use Rattle.wh_maint.proofs.SizeBounds.{adding_stays_within}
use Rattle.wh_maint.proofs.laws.adding_stays_within.Goals as goal

pub returns : goal.returns
returns c = adding_stays_within
