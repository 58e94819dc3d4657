use Rattle.std.proofs.Common.{length}
use Rattle.wh_night.proofs.tested.+can_run_wave.Given as goal

abbrev pub decreases-can_run_wave : goal.decreases-can_run_wave
decreases-can_run_wave g l = length l.jobs.now
