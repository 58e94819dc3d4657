use Rattle.std.proofs.Common.{◌-◌}
use Rattle.wh_workers.proofs.work.+workers.Given as goal

abbrev pub decreases-work : goal.decreases-work
decreases-work g l = l.budget.now.threads

abbrev pub decreases-rest : goal.decreases-rest
decreases-rest g l = l.workers - 1
