use Rattle.wh_core.proofs.Sound.{commits_make_contents}
use Rattle.wh_core.proofs.laws.commits_make_contents.Goals as goal

pub returns : goal.returns
returns c = commits_make_contents c.versions_stay_law.ensures
