use Rattle.std.proofs.Common.{◌<◌, ◌++◌, length, sym, ap, ◌∙◌, arith}
use Rattle.std.proofs.lemmas.List.{append-nil}
use Rattle.wh_dag.specs.Siblings.{is_sibling_pair, triples_with}
use Rattle.wh_dag.proofs.SiblingLists.{kept_none, added_each, skipped_each, no_pair_with, some_each, on_err}
use Rattle.wh_dag.proofs.siblings.add_of.Goals as goal
use Rattle.wh_dag.proofs.siblings.add_of.Goals.{then-is_over+in_ok-add_with, else-is_over}

pub loop-lower-init : goal.loop-lower-init
loop-lower-init c =
    record { added = sym (ap (λ l. c.args.pairs.now.items ++ l) (kept_none (is_sibling_pair c.args.shape.now) (λ lower. triples_with c.args.parent lower (length c.args.shape.now))) ∙ append-nil c.args.pairs.now.items) }

pub loop-lower-preserved : goal.loop-lower-preserved
loop-lower-preserved c =
    elim c.if-is_over.branch [
      | then-is_over+in_ok-add_with w ↦
          rw w.pairs-is
          (record { added = added_each (is_sibling_pair c.args.shape.now) (λ lower. triples_with c.args.parent lower (length c.args.shape.now)) c.loop-lower.lower c.args.pairs.now.items c.loop-lower.pairs.items w.add_with.new.pairs.items c.loop-lower.invariant.added w.in_ok-add_with.ensures.added })
      | else-is_over w ↦
          rw w.pairs-is
          (record { added = skipped_each (is_sibling_pair c.args.shape.now) (λ lower. triples_with c.args.parent lower (length c.args.shape.now)) c.loop-lower.lower c.args.pairs.now.items c.loop-lower.pairs.items c.loop-lower.invariant.added (no_pair_with c.args.shape.now c.args.parent c.loop-lower.lower (length c.args.shape.now) (sym c.is_over.ensures ∙ w.if-is_over.false)) })
    ]

pub returns-in_err-add_with-clause-memory : goal.returns-in_err-add_with-clause-memory
returns-in_err-add_with-clause-memory c =
    let low : c.loop-lower.lower < length c.args.shape.now = omega arith in
    on_err _ (some_each (is_sibling_pair c.args.shape.now) (λ lower. triples_with c.args.parent lower (length c.args.shape.now)) (length c.args.shape.now) c.loop-lower.lower low c.in_err-add_with.ensures.memory)
