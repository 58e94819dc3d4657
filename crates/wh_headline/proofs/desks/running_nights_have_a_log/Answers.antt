use Rattle.wh_headline.proofs.Logs.{have_a_log}
use Rattle.wh_headline.proofs.desks.running_nights_have_a_log.Goals as goal

pub returns : goal.returns
returns c = have_a_log c.versions_stay_law.ensures
