use Rattle.wh_versions.proofs.ShownLaws.{each_added_is_unseen}
use Rattle.wh_versions.proofs.laws.added_unseen_law.Goals as goal

pub returns : goal.returns
returns c = each_added_is_unseen
