use Rattle.std.proofs.Common.{◌≡◌, ◌≤◌, ◌-◌, drop, length}
use Rattle.wh_cert.specs.Inner.Descent.{turned}
use Rattle.wh_cert.proofs.descent.Descent.turn.Given as goal

abbrev pub invariant-loop-self : goal.invariant-loop-self
invariant-loop-self l = record {
  within : l.self-inside.top ≤ 1000;
  long : length l.self-inside.table ≡ 1000;
  same : turned (drop l.self-inside.top l.self-inside.table) ≡ turned l.fn.self;
}

abbrev pub decreases-loop-self : goal.decreases-loop-self
decreases-loop-self l = 1000 - l.self-inside.top
