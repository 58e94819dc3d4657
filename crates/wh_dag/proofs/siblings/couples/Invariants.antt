use Rattle.std.proofs.Common.{◌≡◌, filter, length}
use Rattle.wh_dag.specs.Siblings.{is_couple, pairs_with, each_below}
use Rattle.wh_dag.proofs.siblings.couples.Given as goal

abbrev pub invariant-loop-lower : goal.invariant-loop-lower
invariant-loop-lower l = record {
  made : l.couples.items ≡ filter (is_couple l.fn.shape) (each_below (λ lower. pairs_with lower (length l.fn.shape)) l.lower);
}
