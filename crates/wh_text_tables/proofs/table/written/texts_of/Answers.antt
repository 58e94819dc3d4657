use Rattle.std.proofs.Common.{◌≡◌, IfOk}
use Rattle.std.proofs.lemmas.Result.{IfOk-weaker}
use Rattle.wh_text_tables.specs.Inner.TableWritten.{rows_text}
use Rattle.wh_threads.proofs.Answers.{each-answers}
use Rattle.wh_text_tables.proofs.table.written.texts_of.Goals as goal

pub returns : goal.returns
returns g c = IfOk-weaker c.each.result _ _ (λ made are.
    each-answers _ _ (λ part text. IfOk text (λ t. t.items ≡ rows_text c.args.columns.now c.args.dict.now part)) (λ lent text met. met) c.args.parts.now made.items are) c.each.ensures.answers
