use Rattle.wh_core.proofs.Headline.{runs_come_true}
use Rattle.wh_core.proofs.laws.runs_come_true.Goals as goal

pub returns : goal.returns
returns c = runs_come_true c.pages_join_law.ensures c.versions_stay_law.ensures
