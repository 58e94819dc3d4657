use Rattle.std.proofs.Common.{◌≡◌, ◌<◌, ℕ, take}
use Rattle.wh_cert.specs.Graph.{decides}
use Rattle.wh_minwork.specs.Inner.Sets.{in_rows}
use Rattle.wh_minwork.proofs.edge_sets.before_of.Given as goal

abbrev pub invariant-loop-u : goal.invariant-loop-u
invariant-loop-u l = (u w : ℕ) → u < 64 → w < 64 → in_rows l.before w u ≡ decides (take l.u-index l.decided) u w
