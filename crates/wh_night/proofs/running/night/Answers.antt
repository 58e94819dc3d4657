use Rattle.wh_store.specs.Operations.{Opens}
use Rattle.wh_store.specs.Faults.{publish_refusal}
use Rattle.wh_carry.proofs.HandedOn.{handed_on}
use Rattle.wh_night.proofs.Beginnings.{none_gives, none_refuses}
use Rattle.wh_night.proofs.Outs.{on_err}
use Rattle.wh_night.proofs.running.night.Goals as goal

pub returns-in_err-carried-clause-leaves : goal.returns-in_err-carried-clause-leaves
returns-in_err-carried-clause-leaves g c = handed_on _ c.from_residual.result c.in_err-carried.field-0.0 c.from_residual.ensures c.in_err-carried.ensures.leaves

pub returns-in_err-carried-clause-newest : goal.returns-in_err-carried-clause-newest
returns-in_err-carried-clause-newest g c = on_err _ c.from_residual.result c.in_err-carried.ensures.newest

pub returns-in_err-carried-clause-refused : goal.returns-in_err-carried-clause-refused
returns-in_err-carried-clause-refused g c =
    let o = publish_refusal (g.P.Publish.kept c.args.writer.now) Opens in
    none_refuses o _ _ c.in_default.ensures (handed_on _ c.from_residual.result c.in_err-carried.field-0.0 c.from_residual.ensures (none_gives o _ _ c.in_default.ensures c.in_err-carried.ensures.refused))

pub returns-clause-refused : goal.returns-clause-refused
returns-clause-refused g c = none_refuses (publish_refusal (g.P.Publish.kept c.args.writer.now) Opens) _ _ c.in_default.ensures tt
