use Rattle.wh_core.specs.Standing.{IsStanding}
use Rattle.test_core.proofs.machine.schedules.assert_further_steps.Given as goal

abbrev pub invariant-loop-place : goal.invariant-loop-place
invariant-loop-place g l = IsStanding l.core
