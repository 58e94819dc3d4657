use Rattle.std.proofs.Common.{length}
use Rattle.wh_dag.specs.Siblings.{each_below, triples_of}
use Rattle.wh_strategy.specs.Sizes.{sizes_of}
use Rattle.wh_cert.specs.Inner.Followed.{Follows, lines_among}
use Rattle.wh_cert.proofs.lines.follow_all.Given as goal

abbrev pub invariant-loop-parent : goal.invariant-loop-parent
invariant-loop-parent l = record {
  follows : Follows l.fn.lines (lines_among l.fn.children (sizes_of l.fn.sizes) (each_below (λ parent. triples_of parent (length l.fn.children)) l.parent)) l.so_far;
}
