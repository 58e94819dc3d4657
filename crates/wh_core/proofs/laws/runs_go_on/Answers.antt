use Rattle.wh_core.proofs.Later.{runs_go_on}
use Rattle.wh_core.proofs.laws.runs_go_on.Goals as goal

pub returns : goal.returns
returns c = runs_go_on
