use Rattle.wh_strategy.proofs.Marks.{taken_none}
use Rattle.wh_strategy.proofs.earlier.Taken.new.Goals as goal

pub returns : goal.returns
returns c = taken_none
