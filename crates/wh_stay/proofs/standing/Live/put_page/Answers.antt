use Rattle.wh_stay.proofs.Nights.{false_true}
use Rattle.wh_stay.specs.Told.{a_page}
use Rattle.wh_stay.proofs.standing.Live.put_page.Goals as goal

pub returns-clause-told : goal.returns-clause-told
returns-clause-told g c = λ s log is h none. (let both = c.step-reply.ensures.reply s log is h in
    (a_page c.step-reply.result none (λ e. false_true (c.if-is_not_ready.ensures.1 e)), both.1, both.0))
