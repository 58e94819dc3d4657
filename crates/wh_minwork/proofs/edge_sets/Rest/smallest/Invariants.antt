use Rattle.std.proofs.Common.{◌≡◌, ◌<◌, ℕ, false}
use Rattle.wh_minwork.specs.Inner.Sets.{in_rows}
use Rattle.wh_minwork.proofs.edge_sets.Rest.smallest.Given as goal

abbrev pub invariant-loop-v : goal.invariant-loop-v
invariant-loop-v l = (v u : ℕ) → v < l.v → in_rows l.self.comps v u ≡ false
