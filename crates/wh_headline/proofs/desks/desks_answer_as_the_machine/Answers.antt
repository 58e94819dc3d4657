use Rattle.wh_headline.proofs.Answered.{answered}
use Rattle.wh_headline.proofs.desks.desks_answer_as_the_machine.Goals as goal

pub returns : goal.returns
returns c = answered
