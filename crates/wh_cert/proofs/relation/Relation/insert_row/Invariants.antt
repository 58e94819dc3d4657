use Rattle.std.proofs.Common.{◌≡◌, ◌&&◌, ◌||◌, ℕ, eqb, take}
use Rattle.wh_dag.specs.Shape.{has}
use Rattle.wh_cert.specs.Relations.{related}
use Rattle.wh_cert.proofs.relation.Relation.insert_row.Given as goal

abbrev pub invariant-loop-w : goal.invariant-loop-w
invariant-loop-w l = (a b : ℕ) → related l.self a b ≡ ((eqb l.u a && has (take l.w-index l.row) b) || related l.initial.self a b)
