use Rattle.wh_headline.proofs.Logs.{desks_beside}
use Rattle.wh_headline.proofs.desks.desks_beside_nights_answer_as_the_machine.Goals as goal

pub returns : goal.returns
returns c = desks_beside c.versions_stay_law.ensures c.seen_versions_stay_law.ensures
