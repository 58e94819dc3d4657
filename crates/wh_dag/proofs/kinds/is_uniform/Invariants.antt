use Rattle.std.proofs.Common.{◌≡◌, ◌+◌, ◌<◌, ℕ, true}
use Rattle.wh_dag.specs.Level.{level_of}
use Rattle.wh_dag.specs.Shape.{has, children_of}
use Rattle.wh_dag.proofs.kinds.is_uniform.Given as goal

abbrev pub invariant-loop-view : goal.invariant-loop-view
invariant-loop-view l = (v u : ℕ) → v < l.view → has (children_of l.shape v) u ≡ true → level_of l.shape v ≡ level_of l.shape u + 1
