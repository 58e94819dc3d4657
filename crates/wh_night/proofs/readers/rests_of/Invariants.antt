use Rattle.std.proofs.Common.{◌≡◌}
use Rattle.wh_night.specs.Serving.{rests}
use Rattle.wh_night.proofs.readers.rests_of.Given as goal

abbrev pub invariant-loop-view : goal.invariant-loop-view
invariant-loop-view l = l.asks.items ≡ rests l.view
