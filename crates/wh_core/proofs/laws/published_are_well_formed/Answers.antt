use Rattle.wh_core.proofs.WellFormed.{are_well_formed}
use Rattle.wh_core.proofs.laws.published_are_well_formed.Goals as goal

pub returns : goal.returns
returns c = are_well_formed c.versions_stay_law.ensures
