use Rattle.wh_core.specs.Log.{logged}
use Rattle.wh_core.proofs.warehouse.Core.step.Goals as goal

pub returns-clause-stands : goal.returns-clause-stands
returns-clause-stands g c =
    let r = c.requires in
    let both = c.answer.ensures.reply r.setup r.log r.is_setup r.stands in
    record { setup = r.setup; log = logged r.log c.args.event c.answer.result; is_setup = r.is_setup; stands = both.0 }
