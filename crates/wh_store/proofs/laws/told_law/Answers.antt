use Rattle.wh_store.proofs.Shown.{windows_tell}
use Rattle.wh_store.proofs.laws.told_law.Goals as goal

pub returns : goal.returns
returns c = windows_tell
