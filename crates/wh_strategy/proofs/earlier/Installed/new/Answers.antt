use Rattle.wh_strategy.proofs.Marks.{installed_none}
use Rattle.wh_strategy.proofs.earlier.Installed.new.Goals as goal

pub returns : goal.returns
returns c = installed_none
