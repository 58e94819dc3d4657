use Rattle.wh_core.proofs.Told.{told_in_turn}
use Rattle.wh_core.proofs.laws.refusals_are_told_in_turn.Goals as goal

pub returns : goal.returns
returns c = told_in_turn
