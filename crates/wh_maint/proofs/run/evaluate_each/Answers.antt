use Rattle.std.proofs.lemmas.Result.{IfOk-weaker}
use Rattle.wh_threads.proofs.Answers.{each-answers}
use Rattle.wh_maint.specs.Comp.{bag_at}
use Rattle.wh_maint.specs.Inner.Opening.{IsAnswerOf}
use Rattle.wh_maint.proofs.run.evaluate_each.Goals as goal

pub returns : goal.returns
returns g c = IfOk-weaker c.each.result _ _ (λ made are.
    each-answers _ _ (IsAnswerOf c.args.catalog.now (bag_at c.args.tables.now)) (λ lent answer met. met) c.args.views.now made.items are) c.each.ensures.answers
