use Rattle.std.proofs.Common.{◌≡◌, filter, length}
use Rattle.wh_dag.specs.Siblings.{is_sibling_pair, triples_of, each_below}
use Rattle.wh_dag.proofs.siblings.sibling_pairs.Given as goal

abbrev pub invariant-loop-parent : goal.invariant-loop-parent
invariant-loop-parent l = record {
  made : l.pairs.items ≡ filter (is_sibling_pair l.fn.shape) (each_below (λ parent. triples_of parent (length l.fn.shape)) l.parent);
}
