use Rattle.wh_store.proofs.VersionLaws.{versions_stay}
use Rattle.wh_store.proofs.laws.versions_stay_law.Goals as goal

pub returns : goal.returns
returns c = versions_stay
