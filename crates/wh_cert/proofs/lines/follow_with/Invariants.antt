use Rattle.std.proofs.Common.{List, ◌++◌}
use Rattle.wh_dag.specs.Siblings.{triples_with}
use Rattle.wh_strategy.specs.Sizes.{sizes_of}
use Rattle.wh_cert.specs.declared.certificate.PairMin.{PairMin}
use Rattle.wh_cert.specs.Inner.Followed.{Follows, lines_among}
use Rattle.wh_cert.proofs.lines.follow_with.Given as goal

abbrev pub invariant-loop-higher : goal.invariant-loop-higher
invariant-loop-higher l = record {
  follows : (before : List PairMin) → Follows l.fn.lines before l.fn.followed → Follows l.fn.lines (before ++ lines_among l.fn.children (sizes_of l.fn.sizes) (triples_with l.fn.parent l.fn.lower l.higher)) l.so_far;
}
