use Rattle.wh_core.proofs.Jobs.{workers_do}
use Rattle.wh_core.proofs.laws.workers_do_their_jobs.Goals as goal

pub returns : goal.returns
returns c = workers_do
