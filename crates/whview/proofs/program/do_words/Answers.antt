use Rattle.std.proofs.Common.{ap}
use Rattle.clap.specs.Walk.{texts}
use Rattle.whview.specs.Status.{status_number}
use Rattle.whview.proofs.HandedWords.{by_command, by_refusal}
use Rattle.whview.proofs.IfOks.{if_ok_both}
use Rattle.whview.proofs.Outputs.{of_refusal, refused_as}
use Rattle.whview.proofs.program.do_words.Goals as goal

pub returns-in-Ok-clause-told : goal.returns-in-Ok-clause-told
returns-in-Ok-clause-told g c written =
    by_command (texts c.args.words.now) c.in-Ok.asked _ _ _ _ _ c.do_asked.result (record { taken = c.in-Ok.ensures.fails; asked = c.in-Ok.ensures.asked }) (c.do_asked.ensures.told written)

pub returns-in-Ok-clause-unread : goal.returns-in-Ok-clause-unread
returns-in-Ok-clause-unread g c not =
    c.do_asked.ensures.unread (λ reads. not (c.in-Ok.asked, record { taken = c.in-Ok.ensures.fails; asked = c.in-Ok.ensures.asked }, reads))

pub returns-in-Err-clause-told : goal.returns-in-Err-clause-told
returns-in-Err-clause-told g c written =
    let told = c.tell.ensures.told written in
    by_refusal (texts c.args.words.now) c.refusal.result _ _ _ _ _ c.tell.result
    (if_ok_both c.refusal.result _ _ _ c.refusal.ensures.status c.refusal.ensures.told
    (λ a ended fault. of_refusal (texts c.args.words.now) _ _ a.text (status_number a.status)
    (refused_as (texts c.args.words.now) c.in-Err.fault (status_number a.status) c.in-Err.ensures.fails fault (ap status_number ended))))
    told.0 told.1 told.2
