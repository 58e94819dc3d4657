use Rattle.std.proofs.Common.{List, ◌++◌, length}
use Rattle.wh_dag.specs.Siblings.{each_below, triples_with}
use Rattle.wh_strategy.specs.Sizes.{sizes_of}
use Rattle.wh_cert.specs.declared.certificate.PairMin.{PairMin}
use Rattle.wh_cert.specs.Inner.Followed.{Follows, lines_among}
use Rattle.wh_cert.proofs.lines.follow_of.Given as goal

abbrev pub invariant-loop-lower : goal.invariant-loop-lower
invariant-loop-lower l = record {
  follows : (before : List PairMin) → Follows l.fn.lines before l.fn.followed → Follows l.fn.lines (before ++ lines_among l.fn.children (sizes_of l.fn.sizes) (each_below (λ lower. triples_with l.fn.parent lower (length l.fn.children)) l.lower)) l.so_far;
}
