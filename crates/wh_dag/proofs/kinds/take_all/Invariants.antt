use Rattle.std.proofs.Common.{◌≡◌, ◌||◌, ℕ, take}
use Rattle.wh_dag.specs.Inner.Taken.{AreFree, is_taken}
use Rattle.wh_dag.specs.Shape.{has}
use Rattle.wh_dag.proofs.kinds.take_all.Given as goal

abbrev pub invariant-loop-child : goal.invariant-loop-child
invariant-loop-child l = record {
  free : AreFree l.initial.taken (take l.child-index l.own);
  taken : (u : ℕ) → is_taken l.taken u ≡ (is_taken l.initial.taken u || has (take l.child-index l.own) u);
}
