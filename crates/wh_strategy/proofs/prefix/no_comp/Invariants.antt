use Rattle.std.proofs.Common.{◌≡◌, drop}
use Rattle.wh_strategy.specs.Tests.{lacks_comp}
use Rattle.wh_strategy.proofs.prefix.no_comp.Given as goal

abbrev pub invariant-loop-v : goal.invariant-loop-v
invariant-loop-v l = lacks_comp l.all l.v (drop l.v l.children) ≡ lacks_comp l.all 0 l.children
