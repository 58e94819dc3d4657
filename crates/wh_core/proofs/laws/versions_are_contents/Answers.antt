use Rattle.wh_core.proofs.Sound.{versions_are_contents}
use Rattle.wh_core.proofs.laws.versions_are_contents.Goals as goal

pub returns : goal.returns
returns c = versions_are_contents c.versions_stay_law.ensures
