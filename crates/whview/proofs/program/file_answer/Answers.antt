use Rattle.std.proofs.Common.{sym, ◌∙◌}
use Rattle.whview.specs.Status.{status_number}
use Rattle.whview.proofs.IfOks.{if_ok}
use Rattle.whview.proofs.Outputs.{by_itself, by_rows}
use Rattle.whview.proofs.program.file_answer.Goals as goal

pub returns-then-reads_rows : goal.returns-then-reads_rows
returns-then-reads_rows g c =
    if_ok c.filled_answer.result _ _ c.filled_answer.ensures
    (λ a holds. by_rows c.args.asked.now a.text (status_number a.status) (sym c.reads_rows.ensures ∙ c.if-reads_rows.true) holds)

pub returns-else-reads_rows : goal.returns-else-reads_rows
returns-else-reads_rows g c =
    if_ok c.lone_answer.result _ _ c.lone_answer.ensures
    (λ a holds. by_itself c.args.asked.now a.text (status_number a.status) (sym c.reads_rows.ensures ∙ c.if-reads_rows.false) holds)
