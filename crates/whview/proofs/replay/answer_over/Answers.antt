use Rattle.std.proofs.Common.{◌∙◌, ap, map, subst}
use Rattle.wh_core.specs.Standing.{nights_of}
use Rattle.wh_dag.specs.Shape.{Views}
use Rattle.wh_load.specs.ReadingShown.{shown_given, shown_opening}
use Rattle.whview.specs.Inner.FitReplay.{AreJudgedRightly, IsNightsFault}
use Rattle.whview.specs.NightOutput.{refused_text}
use Rattle.whview.specs.ReplayOutput.{AreCorrect}
use Rattle.wh_replies.specs.ReplyText.{replies_text}
use Rattle.whview.specs.Status.{status_number}
use Rattle.whview.proofs.ReplayDecided.{is_ready, judged_over, told_broken, told_no_contents, told_replayed}
use Rattle.whview.proofs.replay.answer_over.Goals as goal

pub returns-in-Err-Broken : goal.returns-in-Err-Broken
returns-in-Err-Broken g c =
    let nights = map shown_given c.args.nights.items in
    told_broken c.args.catalog (shown_opening c.args.opening) nights c.args.schedule.now c.in-Err-Broken.rule c.in-Err-Broken.place c.in-Err-Broken.field-0
    c.refused.result.text (status_number c.refused.result.status) c.in-Err-Broken.field-0-is
    (subst (λ (v : Views). IsNightsFault v.children nights c.in-Err-Broken.field-0) c.shape.ensures.views c.in-Err-Broken.ensures.err)
    (c.refused.ensures.text ∙ c.in_ok-text-in-Err-Broken.ensures) (ap status_number c.refused.ensures.status)

pub returns-in-Err : goal.returns-in-Err
returns-in-Err g c =
    let nights = map shown_given c.args.nights.items in
    told_no_contents c.args.catalog (shown_opening c.args.opening) nights c.args.schedule.now c.requires.shown c.in-Err.fault
    c.refused-in-Err.result.text (status_number c.refused-in-Err.result.status)
    (subst (λ (v : Views). AreCorrect v.children nights) c.shape.ensures.views c.in-Ok.ensures.correct)
    c.in-Err.ensures.refused c.in_ok-text-in-Err.ensures.told
    (c.refused-in-Err.ensures.text ∙ c.in_ok-text-in-Err.ensures.text ∙ ap (λ (v : Views). refused_text v.names c.in-Err.fault) c.shape-in-Err.ensures.views)
    (ap status_number c.refused-in-Err.ensures.status)

pub replies_to-requires-clause-ready : goal.replies_to-requires-clause-ready
replies_to-requires-clause-ready g c κs within =
    is_ready c.args.catalog c.shape.ensures.catalog c.args.opening.tables.items c.in-Ok-opening_contents.tables.items c.requires.tables
    c.in-Ok-opening_contents.ensures.bags c.in-Ok-opening_contents.ensures.contents c.in-Ok-opening_contents.ensures.valued
    (map shown_given c.args.nights.items)
    (subst (λ (v : Views). AreCorrect v.children (map shown_given c.args.nights.items)) c.shape.ensures.views c.in-Ok.ensures.correct)
    c.requires.changes (nights_of c.in-Ok.nights.items) c.in-Ok.ensures.nights

pub replies_to-requires-clause-judged : goal.replies_to-requires-clause-judged
replies_to-requires-clause-judged g c κs within =
    judged_over c.args.catalog c.in-Ok.nights.items (subst (λ (v : Views). AreJudgedRightly v.children c.in-Ok.nights.items) c.shape.ensures.views c.in-Ok.ensures.judged)

pub returns : goal.returns
returns g c =
    told_replayed c.args.catalog (shown_opening c.args.opening) (map shown_given c.args.nights.items) c.args.schedule.now c.requires.shown
    c.in-Ok-opening_contents.tables.items (nights_of c.in-Ok.nights.items) c.in_ok-replies.replies.items c.of.result
    (subst (λ (v : Views). AreCorrect v.children (map shown_given c.args.nights.items)) c.shape.ensures.views c.in-Ok.ensures.correct)
    c.in-Ok-opening_contents.ensures.bags.each c.in-Ok-opening_contents.ensures.contents c.in-Ok-opening_contents.ensures.valued c.in-Ok.ensures.nights
    c.in_ok-replies.ensures.setup c.in_ok-replies.ensures.legal c.in_ok-replies.ensures.comes_true c.in_ok-replies.ensures.told (c.of.ensures ∙ c.in_ok-text.ensures ∙ ap replies_text c.deref.ensures.value)
