use Rattle.wh_carry.proofs.StepRows.{steps_are_summands}
use Rattle.wh_carry.proofs.laws.steps_are_summands.Goals as goal

pub returns : goal.returns
returns c = steps_are_summands
