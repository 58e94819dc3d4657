use Rattle.wh_carry.proofs.StageLaws.{waves_are_side_by_side}
use Rattle.wh_carry.proofs.laws.waves_are_side_by_side.Goals as goal

pub returns : goal.returns
returns c = waves_are_side_by_side
