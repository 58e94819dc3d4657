use Rattle.std.proofs.Common.{◌≡◌, ◌<◌, ℕ, take}
use Rattle.wh_cert.specs.Graph.{decides}
use Rattle.wh_cert.specs.Relations.{related}
use Rattle.wh_cert.proofs.relation.Relation.of_couples.Given as goal

abbrev pub invariant-loop-u : goal.invariant-loop-u
invariant-loop-u l = (a b : ℕ) → a < 64 → b < 64 → related l.first a b ≡ decides (take l.u-index l.couples) a b
