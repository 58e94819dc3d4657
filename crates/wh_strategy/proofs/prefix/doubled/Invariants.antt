use Rattle.std.proofs.Common.{◌≡◌, drop}
use Rattle.wh_strategy.specs.Tests.{is_doubled}
use Rattle.wh_strategy.proofs.prefix.doubled.Given as goal

abbrev pub invariant-loop-i : goal.invariant-loop-i
invariant-loop-i l = is_doubled (drop l.i l.views) ≡ is_doubled l.views
