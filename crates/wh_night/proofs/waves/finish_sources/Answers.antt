use Rattle.std.proofs.Common.{◌≡◌, sym, ap, subst, ◌∙◌, arith}
use Rattle.std.proofs.lemmas.Bool.{or_left}
use Rattle.wh_dag.specs.Shape.{has}
use Rattle.wh_carry.specs.Kept.{Kept, kept}
use Rattle.wh_carry.proofs.Storing.{can_finish_after}
use Rattle.wh_carry.proofs.Sources.{its_job}
use Rattle.wh_carry.specs.Standing.{is_source}
use Rattle.wh_carry.specs.Inner.Standing.{StandsAt}
use Rattle.wh_night.specs.Inner.Underway.{night_given}
use Rattle.wh_night.proofs.Comes.{sources_refused, sources_stand}
use Rattle.wh_night.proofs.Outs.{if_err, on_both, on_ok}
use Rattle.wh_night.proofs.waves.finish_sources.Goals as goal

pub finish-requires-clause-views : goal.finish-requires-clause-views
finish-requires-clause-views g c κs within = λ u m.
    let same : has c.as_slice.result.now u ≡ is_source c.args.jobs.now u = ap (λ vs. has vs u) c.as_slice.ensures.value ∙ c.in-Ok.ensures u in
    let r = its_job c.args.jobs.now u (sym same ∙ m) in
    let e = c.requires.jobs r.0 r.1 r.2 in
    let low = c.requires.parts.catalogue.shape.lower r.1.view u (e.2.among u r.3) in
    let inside = e.0 in
    omega (arith, low, inside)

pub returns-clause-fit : goal.returns-clause-fit
returns-clause-fit g c =
    on_ok _ _ c.finish.result (λ done. can_finish_after c.args.catalog.now (kept c.args.state.now) (kept c.finish.new.self) (has c.as_slice.result.now) c.requires.fit done) c.finish.ensures.done

pub returns-clause-known : goal.returns-clause-known
returns-clause-known g c =
    on_ok _ _ c.finish.result
    (λ done u m.
    let same : has c.as_slice.result.now u ≡ is_source c.args.jobs.now u = ap (λ vs. has vs u) c.as_slice.ensures.value ∙ c.in-Ok.ensures u in
    ap (λ (k : Kept). k.known u) done ∙ or_left (has c.as_slice.result.now u) ((kept c.args.state.now).known u) (same ∙ m))
    c.finish.ensures.done

pub returns-clause-stands : goal.returns-clause-stands
returns-clause-stands g c =
    on_both _ _ _ c.finish.result
    (λ done passed keys place t wave stands.
    let n = night_given c.args.catalog.now keys t in
    let x = sources_stand n place c.args.jobs.now wave c.as_slice.result.now (λ u. ap (λ vs. has vs u) c.as_slice.ensures.value ∙ c.in-Ok.ensures u) (kept c.args.state.now) stands passed in
    (subst (StandsAt n place) (sym done) x.0, x.1))
    c.finish.ensures.done c.finish.ensures.passed

pub returns-clause-refused : goal.returns-clause-refused
returns-clause-refused g c =
    if_err _ _ c.finish.result
    (λ fault refused keys place t wave stands.
    sources_refused (night_given c.args.catalog.now keys t) place c.args.jobs.now wave c.as_slice.result.now (λ u. ap (λ vs. has vs u) c.as_slice.ensures.value ∙ c.in-Ok.ensures u) (kept c.args.state.now) stands fault refused)
    c.finish.ensures.refused
