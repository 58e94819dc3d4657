use Rattle.wh_carry.proofs.FirstRefusals.{refusals_are_one}
use Rattle.wh_carry.proofs.laws.refusals_are_one.Goals as goal

pub returns : goal.returns
returns c = refusals_are_one
