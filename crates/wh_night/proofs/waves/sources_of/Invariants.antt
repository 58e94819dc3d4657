use Rattle.std.proofs.Common.{◌≡◌, ℕ, take}
use Rattle.wh_dag.specs.Shape.{has}
use Rattle.wh_carry.specs.Standing.{is_source}
use Rattle.wh_night.proofs.waves.sources_of.Given as goal

abbrev pub invariant-loop-job : goal.invariant-loop-job
invariant-loop-job l = (u : ℕ) → has l.views.items u ≡ is_source (take l.job-index l.jobs) u
