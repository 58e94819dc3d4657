use Rattle.std.proofs.Common.{◌≡◌, ◌++◌, ℕ, List, length, sym, subst, ◌∙◌, arith}
use Rattle.wh_dag.specs.Siblings.{each_below, triples_with}
use Rattle.wh_dag.specs.declared.siblings.SiblingPair.{SiblingPair}
use Rattle.wh_dag.proofs.SiblingLists.{no_pair_with}
use Rattle.wh_strategy.specs.Sizes.{sizes_of}
use Rattle.wh_cert.specs.Inner.Followed.{Follows, lines_among}
use Rattle.wh_cert.proofs.Following.{then_more, then_same, none_yet, among_none, among_more, among_skipped}
use Rattle.wh_cert.proofs.lines.follow_of.Goals as goal
use Rattle.wh_cert.proofs.lines.follow_of.Goals.{then-is_over, else-is_over}

pub loop-lower-init : goal.loop-lower-init
loop-lower-init c =
    let f : ℕ → List SiblingPair = λ lower. triples_with c.args.parent lower (length c.args.children.now) in
    record { follows = λ before f'. then_same c.args.lines.now before _ _ c.args.followed (among_none c.args.children.now (sizes_of c.args.sizes.now) f) (none_yet c.args.lines.now before c.args.followed f') }

pub loop-lower-preserved : goal.loop-lower-preserved
loop-lower-preserved c =
    let shape = c.args.children.now in
    let sizes = sizes_of c.args.sizes.now in
    let f : ℕ → List SiblingPair = λ lower. triples_with c.args.parent lower (length c.args.children.now) in
    let n : ℕ = c.loop-lower.lower in
    elim c.if-is_over.branch [
      | then-is_over w ↦
          rw w.so_far-is
          (record {
            follows = λ before f'. then_more c.args.lines.now before (lines_among shape sizes (each_below f n)) (lines_among shape sizes (f n)) _ w.follow_with-so_far.result
                (among_more shape sizes f n)
                (w.follow_with-so_far.ensures (before ++ lines_among shape sizes (each_below f n)) (c.loop-lower.invariant.follows before f'));
          })
      | else-is_over w ↦
          rw w.so_far-is
          (record {
            follows = λ before f'. then_same c.args.lines.now before (lines_among shape sizes (each_below f n)) _ c.loop-lower.so_far
                (among_skipped shape sizes f n (no_pair_with shape c.args.parent n (length shape) (sym c.is_over.ensures ∙ w.if-is_over.false)))
                (c.loop-lower.invariant.follows before f');
          })
    ]

pub returns : goal.returns
returns c before f' =
    let shape = c.args.children.now in
    let n : c.loop-lower.lower ≡ length c.args.children.now = omega arith in
    subst (λ k. Follows c.args.lines.now (before ++ lines_among shape (sizes_of c.args.sizes.now) (each_below (λ lower. triples_with c.args.parent lower (length shape)) k)) c.loop-lower.so_far) n (c.loop-lower.invariant.follows before f')
