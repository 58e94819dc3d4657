use Rattle.wh_opening.specs.OpeningRead.{shown_opening_input}
use Rattle.whview.proofs.Opened.{live_fault, live_opened}
use Rattle.whview.proofs.live.open_and_talk.Goals as goal

pub returns-in-Ok-clause-told : goal.returns-in-Ok-clause-told
returns-in-Ok-clause-told g c written =
    live_opened c.args.warehouse.now.how c.args.warehouse.now.from.limit (shown_opening_input c.in-Ok.opened) _ _ _ _ _ c.talk_from.result c.in-Ok.ensures.ok (c.talk_from.ensures.told written)

pub returns-in-Err-clause-told : goal.returns-in-Err-clause-told
returns-in-Err-clause-told g c written =
    let told = c.tell.ensures.told written in
    live_fault c.args.warehouse.now.how c.args.warehouse.now.from.limit c.in-Err.fault c.answer.result _ _ _ _ c.tell.result c.in-Err.ensures.err c.answer.ensures.shown c.answer.ensures.told told.0 told.1 told.2
