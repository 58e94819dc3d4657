use Rattle.std.proofs.Common.{◌≡◌, ◌<◌, length, ap, sym, ◌∙◌, arith}
use Rattle.wh_dag.specs.Shape.{has, children_of}
use Rattle.wh_dag.specs.Parents.{parents_of}
use Rattle.wh_dag.proofs.SiblingLists.{some_below, on_err}
use Rattle.wh_dag.proofs.Levels.{filter_range_in, filter_range_out}
use Rattle.wh_dag.proofs.parents.parents_of_view.Goals as goal
use Rattle.wh_dag.proofs.parents.parents_of_view.Goals.{then-is_over+in_ok-push, else-is_over}

pub loop-parent-preserved : goal.loop-parent-preserved
loop-parent-preserved c =
    let test : has (children_of c.args.shape.now c.loop-parent.parent) c.args.view ≡ c.is_over.result = sym c.is_over.ensures in
    elim c.if-is_over.branch [
      | then-is_over+in_ok-push w ↦
          filter_range_in (λ parent. has (children_of c.args.shape.now parent) c.args.view) c.loop-parent.parent _ _
          c.loop-parent.invariant (test ∙ w.if-is_over.true)
          (ap (λ v. v.items) w.parents-is ∙ w.in_ok-push.ensures.items)
      | else-is_over w ↦
          filter_range_out (λ parent. has (children_of c.args.shape.now parent) c.args.view) c.loop-parent.parent _ _
          c.loop-parent.invariant (test ∙ w.if-is_over.false) (ap (λ v. v.items) w.parents-is)
    ]

pub returns-in_err-push-clause-memory : goal.returns-in_err-push-clause-memory
unfolding parents_of
returns-in_err-push-clause-memory c =
    let low : c.loop-parent.parent < length c.args.shape.now = omega arith in
    on_err _
    (some_below (λ parent. has (children_of c.args.shape.now parent) c.args.view) (length c.args.shape.now) c.loop-parent.parent low
    (sym c.is_over.ensures ∙ c.if-is_over.true))
