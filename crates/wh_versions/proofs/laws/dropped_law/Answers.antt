use Rattle.wh_versions.proofs.RowLaws.{dropped_are_unread}
use Rattle.wh_versions.proofs.laws.dropped_law.Goals as goal

pub returns : goal.returns
returns c = dropped_are_unread
