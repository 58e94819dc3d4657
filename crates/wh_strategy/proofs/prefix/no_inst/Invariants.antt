use Rattle.std.proofs.Common.{◌≡◌, drop}
use Rattle.wh_strategy.specs.Tests.{lacks_inst}
use Rattle.wh_strategy.proofs.prefix.no_inst.Given as goal

abbrev pub invariant-loop-v : goal.invariant-loop-v
invariant-loop-v l = lacks_inst l.all l.v (drop l.v l.children) ≡ lacks_inst l.all 0 l.children
