use Rattle.std.proofs.Common.{◌≡◌, ℕ, List, length, true, sym, subst, arith}
use Rattle.wh_dag.specs.Siblings.{each_below, triples_of, sibling_pairs_of}
use Rattle.wh_dag.specs.declared.siblings.SiblingPair.{SiblingPair}
use Rattle.wh_strategy.specs.Sizes.{sizes_of}
use Rattle.wh_cert.specs.Inner.Followed.{Follows, lines_among}
use Rattle.wh_cert.proofs.Following.{begins, among_none, among_more}
use Rattle.wh_cert.proofs.lines.follow_all.Goals as goal

pub loop-parent-init : goal.loop-parent-init
loop-parent-init c =
    let f : ℕ → List SiblingPair = λ parent. triples_of parent (length c.args.children.now) in
    record { follows = subst (λ l. Follows c.args.lines.now l (record { same = 0; agrees = true })) (sym (among_none c.args.children.now (sizes_of c.args.sizes.now) f)) (begins c.args.lines.now) }

pub loop-parent-preserved : goal.loop-parent-preserved
loop-parent-preserved c =
    let shape = c.args.children.now in
    let sizes = sizes_of c.args.sizes.now in
    let f : ℕ → List SiblingPair = λ parent. triples_of parent (length c.args.children.now) in
    let n : ℕ = c.loop-parent.parent in
    record { follows = subst (λ l. Follows c.args.lines.now l c.follow_of-so_far.result) (sym (among_more shape sizes f n)) (c.follow_of-so_far.ensures (lines_among shape sizes (each_below f n)) c.loop-parent.invariant.follows) }

pub returns : goal.returns
unfolding sibling_pairs_of
returns c =
    let shape = c.args.children.now in
    let n : c.loop-parent.parent ≡ length c.args.children.now = omega arith in
    subst (λ k. Follows c.args.lines.now (lines_among shape (sizes_of c.args.sizes.now) (each_below (λ parent. triples_of parent (length shape)) k)) c.loop-parent.so_far) n c.loop-parent.invariant.follows
