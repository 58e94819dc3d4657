use Rattle.wh_core.proofs.Jobs.{drawn_once}
use Rattle.wh_core.proofs.laws.jobs_are_drawn_once.Goals as goal

pub returns : goal.returns
returns c = drawn_once
