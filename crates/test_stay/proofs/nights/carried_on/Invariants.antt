use Rattle.wh_stay.specs.Standing.{IsLive}
use Rattle.test_stay.proofs.nights.carried_on.Given as goal

abbrev pub invariant-loop : goal.invariant-loop
invariant-loop l = IsLive l.live
