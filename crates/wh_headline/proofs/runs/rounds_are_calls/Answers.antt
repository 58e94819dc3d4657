use Rattle.wh_headline.proofs.Rounds.{rounds}
use Rattle.wh_headline.proofs.runs.rounds_are_calls.Goals as goal

pub returns : goal.returns
returns c = rounds
