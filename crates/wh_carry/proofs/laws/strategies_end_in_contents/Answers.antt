use Rattle.wh_carry.proofs.NewValues.{strategies_end_in_contents}
use Rattle.wh_carry.proofs.laws.strategies_end_in_contents.Goals as goal

pub returns : goal.returns
returns c = strategies_end_in_contents
