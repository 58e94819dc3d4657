use Rattle.wh_strategy.proofs.Marks.{read_none}
use Rattle.wh_strategy.proofs.earlier.Read.new.Goals as goal

pub returns : goal.returns
returns c = read_none
