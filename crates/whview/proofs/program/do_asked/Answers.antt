use Rattle.whview.proofs.HandedWords.{by_answer, by_warehouse, opens_reads}
use Rattle.whview.proofs.program.do_asked.Goals as goal

pub returns-in-Some-clause-told : goal.returns-in-Some-clause-told
returns-in-Some-clause-told g c written =
    by_warehouse c.in-Some.warehouse c.args.asked.now _ _ _ _ _ c.open_and_talk.result c.in-Some.ensures.how c.in-Some.ensures.file c.in-Some.ensures.limit (c.open_and_talk.ensures.told written)

pub returns-in-Some-clause-unread : goal.returns-in-Some-clause-unread
returns-in-Some-clause-unread g c not = absurd (not (opens_reads c.in-Some.warehouse.how c.args.asked.now c.in-Some.warehouse.from.path.now c.in-Some.ensures.how c.in-Some.ensures.file))

pub returns-in-None-clause-told : goal.returns-in-None-clause-told
returns-in-None-clause-told g c written =
    let told = c.tell.ensures.told written in
    by_answer c.args.asked.now c.asked_answer-answer.result _ _ _ _ _ c.tell.result c.asked_answer-answer.ensures.answer told.0 told.1 told.2
