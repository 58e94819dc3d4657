use Rattle.wh_maint.proofs.GroupChanges.{groups_stand_together}
use Rattle.wh_maint.proofs.laws.groups_stand_together.Goals as goal

pub returns : goal.returns
returns c = groups_stand_together
