use Rattle.wh_headline.proofs.Logs.{desks_that_lag}
use Rattle.wh_headline.proofs.desks.desks_that_lag_answer_as_the_machine.Goals as goal

pub returns : goal.returns
returns c = desks_that_lag c.versions_stay_law.ensures c.seen_versions_stay_law.ensures
