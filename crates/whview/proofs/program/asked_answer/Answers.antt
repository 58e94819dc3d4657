use Rattle.std.proofs.Common.{sym, ◌∙◌}
use Rattle.whview.specs.Status.{status_number}
use Rattle.whview.proofs.IfOks.{if_ok}
use Rattle.whview.proofs.Outputs.{from_file, from_none, from_reader, reads_input}
use Rattle.whview.proofs.program.asked_answer.Goals as goal

pub returns-then-is_live-clause-answer : goal.returns-then-is_live-clause-answer
returns-then-is_live-clause-answer g c =
    if_ok c.input_wanted.result _ _ c.input_wanted.ensures
    (λ a wanted. from_none c.args.asked.now _ _ a.text (status_number a.status) (sym c.is_live.ensures ∙ c.if-is_live.true) c.requires wanted)

pub returns-in-Some-clause-answer : goal.returns-in-Some-clause-answer
returns-in-Some-clause-answer g c =
    if_ok c.file_answer.result _ _ c.file_answer.ensures
    (λ a holds. from_file c.args.asked.now _ _ a.text (status_number a.status) c.in-Some.path.now (sym c.is_live.ensures ∙ c.if-is_live.false) c.in-Some.ensures holds)

pub returns-in-None-clause-answer : goal.returns-in-None-clause-answer
returns-in-None-clause-answer g c =
    if_ok c.read_answer.result _ _ c.read_answer.ensures
    (λ a holds. from_reader c.args.asked.now _ _ _ a.text (status_number a.status) (sym c.is_live.ensures ∙ c.if-is_live.false) c.in-None.ensures holds)

pub returns-in-None-clause-unread : goal.returns-in-None-clause-unread
returns-in-None-clause-unread g c not = absurd (not (reads_input c.args.asked.now (sym c.is_live.ensures ∙ c.if-is_live.false) c.in-None.ensures))
