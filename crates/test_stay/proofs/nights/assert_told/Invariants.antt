use Rattle.wh_stay.specs.Standing.{IsLive}
use Rattle.test_stay.proofs.nights.assert_told.Given as goal

abbrev pub invariant-loop-asked : goal.invariant-loop-asked
invariant-loop-asked g l = IsLive l.live
