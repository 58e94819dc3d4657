use Rattle.std.proofs.Common.{◌≡◌, ◌&&◌, ◌||◌, ℕ, take}
use Rattle.wh_dag.specs.Shape.{has}
use Rattle.wh_cert.specs.Relations.{related}
use Rattle.wh_cert.proofs.relation.Relation.insert_all.Given as goal

abbrev pub invariant-loop-u : goal.invariant-loop-u
invariant-loop-u l = (a b : ℕ) → related l.self a b ≡ ((has (take l.u-index l.row) a && has l.row b) || related l.initial.self a b)
