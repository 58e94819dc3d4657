use Rattle.wh_store.proofs.VersionLaws.{windows_follow}
use Rattle.wh_store.proofs.laws.window_law.Goals as goal

pub returns : goal.returns
returns c = windows_follow
