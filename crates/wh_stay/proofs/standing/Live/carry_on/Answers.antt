use Rattle.std.proofs.Common.{rules, ◌≡◌, subst}
use Rattle.wh_core.specs.Log.{logged}
use Rattle.wh_core.specs.Replies.{IsReply}
use Rattle.wh_core.specs.Standing.{StandsWith}
use Rattle.wh_core.specs.declared.event.Event.TheVariants as event
use Rattle.wh_core.specs.declared.reply.Cause.TheVariants as cause
use Rattle.wh_core.specs.declared.reply.Reply.TheVariants as reply
use Rattle.wh_stay.proofs.Nights.{false_true}
use Rattle.wh_stay.specs.Told.{a_done, a_draw}
use Rattle.wh_stay.proofs.standing.Live.carry_on.Goals as goal

pub returns-then-is_busy-clause-told : goal.returns-then-is_busy-clause-told
returns-then-is_busy-clause-told g c = λ s log is h.
    let first = c.step-reply.ensures.reply s log is h in
    let busy : c.step-reply.result ≡ reply.Refused cause.Busy = search rules in
    let both = c.step.ensures.reply s log is (subst (λ r. StandsWith s (logged log (event.Take 0) r) c.step-reply.new.self) busy first.0) in
    (a_done c.step.result (subst (IsReply s log (event.Take 0)) busy first.1), both.1, both.0)

pub returns-clause-told : goal.returns-clause-told
returns-clause-told g c = λ s log is h.
    let both = c.step-reply.ensures.reply s log is h in
    (a_draw c.step-reply.result (λ e. false_true (c.if-is_busy.ensures.1 e)) (λ e. false_true (c.if-is_without_job.ensures.1 e)), both.1, both.0)
