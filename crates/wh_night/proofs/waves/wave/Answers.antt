use Rattle.std.proofs.Common.{inl, sym, subst, ⊎_elim}
use Rattle.wh_carry.specs.Kept.{KeptLists, kept}
use Rattle.wh_carry.specs.Inner.Standing.{StandsAt}
use Rattle.wh_carry.proofs.HandedOn.{handed_on}
use Rattle.wh_night.specs.RefusedWaves.{IsRefusedWave}
use Rattle.wh_night.specs.Inner.Underway.{night_given}
use Rattle.wh_night.proofs.Comes.{first_uncomputed}
use Rattle.wh_night.proofs.Outs.{if_err, on_ok}
use Rattle.wh_night.proofs.waves.wave.Goals as goal

pub returns-in_err-added-clause-refused : goal.returns-in_err-added-clause-refused
returns-in_err-added-clause-refused g c =
    let fault = c.in_err-added.field-0.0 in
    handed_on _ c.from_residual-in_err-added.result fault c.from_residual-in_err-added.ensures (λ keys place t wave come.
    let n = night_given c.args.asked.now.catalog.now keys t in
    let x = c.in_ok-finish_sources.ensures.stands keys place t wave come.stands in
    ⊎_elim (λ m. inl m.0)
    (λ f. first_uncomputed n place c.args.jobs.now wave (kept c.finish_sources.new.state) x.0 c.in_ok-finish_sources.ensures.known x.1 fault f)
    (subst (λ (s : KeptLists). IsRefusedWave c.args.asked.now.catalog.now (kept s) c.args.jobs.now fault) c.build_indexes.ensures.same c.in_err-added.ensures.refused))

pub returns-clause-goes : goal.returns-clause-goes
returns-clause-goes g c =
    on_ok _ _ c.add_all.result
    (λ goes keys place t wave come.
    let x = c.in_ok-finish_sources.ensures.stands keys place t wave come.stands in
    let stands = subst (λ (s : KeptLists). StandsAt (night_given c.args.asked.now.catalog.now keys t) place (kept s)) (sym c.build_indexes.ensures.same) x.0 in
    goes keys place t wave (record { stands = stands; passed = come.passed; reported = come.reported }))
    c.add_all.ensures.goes

pub returns-clause-refused : goal.returns-clause-refused
returns-clause-refused g c =
    if_err _ _ c.add_all.result
    (λ fault refused keys place t wave come.
    let x = c.in_ok-finish_sources.ensures.stands keys place t wave come.stands in
    let stands = subst (λ (s : KeptLists). StandsAt (night_given c.args.asked.now.catalog.now keys t) place (kept s)) (sym c.build_indexes.ensures.same) x.0 in
    refused keys place t wave (record { stands = stands; passed = come.passed; reported = come.reported }) x.1)
    c.add_all.ensures.refused
