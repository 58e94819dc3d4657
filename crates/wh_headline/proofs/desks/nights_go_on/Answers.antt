use Rattle.wh_headline.proofs.GoOn.{go_on}
use Rattle.wh_headline.proofs.desks.nights_go_on.Goals as goal

pub returns : goal.returns
returns c = go_on
