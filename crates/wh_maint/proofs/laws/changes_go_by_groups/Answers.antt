use Rattle.wh_maint.proofs.GroupChanges.{changes_go_by_groups}
use Rattle.wh_maint.proofs.laws.changes_go_by_groups.Goals as goal

pub returns : goal.returns
returns c = changes_go_by_groups
