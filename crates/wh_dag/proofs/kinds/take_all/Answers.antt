use Rattle.std.proofs.Common.{◌<◌, get_or, refl, sym, ◌∙◌, arith}
use Rattle.std.proofs.lemmas.Bool.{false≢true}
use Rattle.wh_dag.proofs.Marked.{has_none, or_none, taken_more, free_more, not_free}
use Rattle.wh_dag.proofs.kinds.take_all.Goals as goal

pub loop-child-init : goal.loop-child-init
loop-child-init c = record {
  free = λ u m. absurd (false≢true (sym (has_none u) ∙ m));
  taken = λ u. sym (or_none _ _ (has_none u));
}

pub returns-then-taken-child-clause-free : goal.returns-then-taken-child-clause-free
returns-then-taken-child-clause-free c = (
  λ t. absurd (false≢true t),
  λ f. absurd (not_free c.loop-child.taken c.args.taken.now c.args.own.now c.loop-child.child-index c.requires.distinct c.loop-child-test.true c.loop-child.invariant.taken c.if-taken-child.true f),
)

pub loop-child-preserved : goal.loop-child-preserved
loop-child-preserved c =
    let low : get_or c.args.own.now c.loop-child.child-index 0 < 64 = c.requires.views c.loop-child.child-index 0 c.loop-child-test.true in
    record {
      free = free_more c.loop-child.taken c.args.taken.now c.args.own.now c.loop-child.child-index c.loop-child-test.true c.loop-child.invariant.taken c.if-taken-child.false c.loop-child.invariant.free;
      taken =
          taken_more c.loop-child.taken _ c.args.taken.now c.args.own.now c.loop-child.child-index c.loop-child-test.true (omega arith) refl c.loop-child.invariant.taken;
    }
