use Rattle.wh_headline.proofs.Beginnings.{beginnings}
use Rattle.wh_headline.proofs.desks.beginnings_are_running_nights.Goals as goal

pub returns : goal.returns
returns c = beginnings
