use Rattle.wh_desk.proofs.Growing.{seen_versions_stay}
use Rattle.wh_desk.proofs.laws.seen_versions_stay_law.Goals as goal

pub returns : goal.returns
returns c = seen_versions_stay c.versions_stay_law.ensures
