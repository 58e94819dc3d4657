use Rattle.std.proofs.Common.{◌≡◌, subst, sym, ap, ◌∙◌}
use Rattle.wh_store.specs.Operations.{Commits}
use Rattle.wh_store.specs.Faults.{refused}
use Rattle.wh_store.specs.declared.publish_fault.PublishFault.TheVariants as publish
use Rattle.wh_maint.specs.declared.fault.MaintFault.TheVariants.{Memory}
use Rattle.wh_night.specs.Inner.Underway.{IsStopped}
use Rattle.wh_night.proofs.Ends.{committed, put_stops}
use Rattle.wh_night.proofs.running.commit.Goals as goal

pub returns-in-Ok-clause-done : goal.returns-in-Ok-clause-done
returns-in-Ok-clause-done g c = λ n l p. committed n l (g.P.Publish.kept c.args.writer.now) (g.P.Publish.kept c.publish.new.self) p c.in-Ok.ensures.ok

pub returns-in-Err-Memory-false-clause-leaves : goal.returns-in-Err-Memory-false-clause-leaves
returns-in-Err-Memory-false-clause-leaves g c = λ n l allowed p.
    let old = g.P.Publish.kept c.args.writer.now in
    let same : g.P.Publish.kept c.publish.new.self ≡ old =
    c.in-Err-Memory-false.ensures.err ∙ ap (refused old Commits) c.in-Err-Memory-false.field-0-is ∙ ap (λ b. refused old Commits (publish.Memory b)) c.in-Err-Memory-false.field-0-0-test in
    c.given_up.ensures.leaves n l allowed (subst (IsStopped n l Memory) (sym same) (put_stops n l old p))
