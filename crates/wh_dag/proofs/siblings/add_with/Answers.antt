use Rattle.std.proofs.Common.{◌<◌, length, sym, ◌∙◌, arith}
use Rattle.wh_dag.specs.Siblings.{is_sibling_pair}
use Rattle.wh_dag.proofs.SiblingLists.{added_one, skipped_one, some_one, on_err}
use Rattle.wh_dag.proofs.siblings.add_with.Goals as goal
use Rattle.wh_dag.proofs.siblings.add_with.Goals.{then-is_of+in_ok-push, else-is_of}

pub loop-higher-preserved : goal.loop-higher-preserved
loop-higher-preserved c =
    elim c.if-is_of.branch [
      | then-is_of+in_ok-push w ↦
          rw (w.pairs-is, w.in_ok-push.ensures.items)
          (record { added = added_one (is_sibling_pair c.args.shape.now) (λ higher. record { parent = c.args.parent; lower = c.args.lower; higher = higher }) c.loop-higher.higher c.args.pairs.now.items c.loop-higher.pairs.items c.loop-higher.invariant.added (sym c.is_of.ensures ∙ w.if-is_of.true) })
      | else-is_of w ↦
          rw w.pairs-is
          (record { added = skipped_one (is_sibling_pair c.args.shape.now) (λ higher. record { parent = c.args.parent; lower = c.args.lower; higher = higher }) c.loop-higher.higher c.args.pairs.now.items c.loop-higher.pairs.items c.loop-higher.invariant.added (sym c.is_of.ensures ∙ w.if-is_of.false) })
    ]

pub returns-in_err-push-clause-memory : goal.returns-in_err-push-clause-memory
returns-in_err-push-clause-memory c =
    let low : c.loop-higher.higher < length c.args.shape.now = omega arith in
    on_err _ (some_one (is_sibling_pair c.args.shape.now) (λ higher. record { parent = c.args.parent; lower = c.args.lower; higher = higher }) (length c.args.shape.now) c.loop-higher.higher low (sym c.is_of.ensures ∙ c.if-is_of.true))
