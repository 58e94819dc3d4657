use Rattle.std.proofs.Common.{◌≡◌, ◌++◌, filter, length}
use Rattle.wh_dag.specs.Siblings.{is_sibling_pair, triples_with, each_below}
use Rattle.wh_dag.proofs.siblings.add_of.Given as goal

abbrev pub invariant-loop-lower : goal.invariant-loop-lower
invariant-loop-lower l = record {
  added : l.pairs.items ≡ l.fn.pairs.items ++ filter (is_sibling_pair l.fn.shape) (each_below (λ lower. triples_with l.fn.parent lower (length l.fn.shape)) l.lower);
}
