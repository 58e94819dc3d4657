use Rattle.std.proofs.Common.{◌≡◌, ◌++◌, filter}
use Rattle.wh_dag.specs.Siblings.{is_sibling_pair, triples_with}
use Rattle.wh_dag.proofs.siblings.add_with.Given as goal

abbrev pub invariant-loop-higher : goal.invariant-loop-higher
invariant-loop-higher l = record {
  added : l.pairs.items ≡ l.fn.pairs.items ++ filter (is_sibling_pair l.fn.shape) (triples_with l.fn.parent l.fn.lower l.higher);
}
