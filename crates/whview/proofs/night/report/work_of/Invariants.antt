use Rattle.std.proofs.Common.{◌≡◌, take}
use Rattle.whview.specs.NightOutput.{work_in}
use Rattle.whview.proofs.night.report.work_of.Given as goal

abbrev pub invariant-loop-rows : goal.invariant-loop-rows
invariant-loop-rows l = l.work ≡ work_in (take l.rows-index l.steps)
