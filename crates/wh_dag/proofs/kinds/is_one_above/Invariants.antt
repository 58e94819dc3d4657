use Rattle.std.proofs.Common.{◌≡◌, ◌+◌, ℕ, true, take}
use Rattle.std.specs.Prelude.{slice_index}
use Rattle.wh_dag.specs.Shape.{has}
use Rattle.wh_dag.proofs.kinds.is_one_above.Given as goal

abbrev pub invariant-loop-child : goal.invariant-loop-child
invariant-loop-child l = (u : ℕ) → has (take l.child-index l.own) u ≡ true → l.level ≡ slice_index l.levels u + 1
