use Rattle.std.proofs.Common.{◌≡◌, ◌<◌, filter, length, sym, ap, ◌∙◌, arith}
use Rattle.wh_dag.specs.Siblings.{is_sibling_pair, triples_of, each_below, sibling_pairs_of}
use Rattle.wh_dag.proofs.SiblingLists.{kept_none, made_each, some_each, on_err}
use Rattle.wh_dag.proofs.siblings.sibling_pairs.Goals as goal

pub loop-parent-init : goal.loop-parent-init
loop-parent-init c =
    rw c.new-pairs.ensures.items
    (record { made = sym (kept_none (is_sibling_pair c.args.shape.now) (λ parent. triples_of parent (length c.args.shape.now))) })

pub loop-parent-preserved : goal.loop-parent-preserved
loop-parent-preserved c =
    record { made = made_each (is_sibling_pair c.args.shape.now) (λ parent. triples_of parent (length c.args.shape.now)) c.loop-parent.parent c.loop-parent.pairs.items c.add_of.new.pairs.items c.loop-parent.invariant.made c.in_ok-add_of.ensures.added }

pub returns-clause-pairs : goal.returns-clause-pairs
unfolding sibling_pairs_of
returns-clause-pairs c =
    let n : c.loop-parent.parent ≡ length c.args.shape.now = omega arith in
    c.loop-parent.invariant.made ∙ ap (λ k. filter (is_sibling_pair c.args.shape.now) (each_below (λ parent. triples_of parent (length c.args.shape.now)) k)) n

pub returns-in_err-add_of-clause-memory : goal.returns-in_err-add_of-clause-memory
unfolding sibling_pairs_of
returns-in_err-add_of-clause-memory c =
    let low : c.loop-parent.parent < length c.args.shape.now = omega arith in
    on_err _ (some_each (is_sibling_pair c.args.shape.now) (λ parent. triples_of parent (length c.args.shape.now)) (length c.args.shape.now) c.loop-parent.parent low c.in_err-add_of.ensures.memory)
