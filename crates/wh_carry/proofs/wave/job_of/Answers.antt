use Rattle.std.proofs.Common.{◌≡◌, sym, ap, subst, ◌∙◌, ℕ, ◌<◌, List, length, true, Some, None, get_or, arith}
use Rattle.std.specs.Prelude.{slice_get}
use Rattle.std.proofs.lemmas.Option.{slice_get-get_or}
use Rattle.wh_dag.specs.Shape.{has}
use Rattle.wh_dag.specs.Catalog.{CatalogOf}
use Rattle.wh_carry.specs.Kept.{AreKnown, kept}
use Rattle.std.proofs.Common.{refl}
use Rattle.wh_carry.specs.declared.stages.Job.{Job}
use Rattle.wh_carry.specs.Night.{Night}
use Rattle.wh_carry.specs.Inner.Standing.{IsFirstOf, IsWaveAt}
use Rattle.wh_carry.proofs.CourseWaves.{Tried, amid_refused, amid_tried, fit_tried, known_tried, outcome_tried, source_refused, tried_so}
use Rattle.wh_carry.proofs.wave.job_of.Given.{Over}
use Rattle.wh_carry.proofs.wave.job_of.Goals.{In_ok-refusal}
use Rattle.wh_carry.proofs.wave.job_of.Goals as goal

-- the wave as one of the night's own catalogue
own : {catalog : CatalogOf} {jobs : List Job} {n : Night} {place : ℕ} → IsWaveAt catalog jobs n place → IsWaveAt n.catalog jobs n place
own wave = record { same = refl; are = wave.are; side = wave.side }

pub returns-in-Some-clause-outcome : goal.returns-in-Some-clause-outcome
returns-in-Some-clause-outcome g c = λ n place jobs j first wave is stands outcomes amid.
    let r = c.in-Some.refusal in
    let e : length c.args.refusals.now ≡ length n.catalog.views.children = c.requires.each ∙ ap (λ (cat : CatalogOf). length cat.views.children) (sym wave.same) in
    source_refused n place jobs (own wave) stands.catalogue stands.correct j c.args.job.now is c.args.refusals.now first r e stands outcomes
    (subst (λ ys. IsFirstOf c.args.refusals.now ys r) c.as_slice.ensures (c.in-Some.ensures.some r refl))

pub returns-in-Some-clause-amid : goal.returns-in-Some-clause-amid
returns-in-Some-clause-amid g c = λ n place jobs j first wave is stands amid.
    amid_refused n place jobs (own wave) stands.catalogue stands.correct j c.args.job.now is c.args.keeps (kept c.args.state.now) amid c.in-Some.refusal

pub tried-requires-clause-known : goal.tried-requires-clause-known
tried-requires-clause-known g c κs within = λ u m.
    let refusals = c.args.refusals.now in
    let v = c.args.job.now.view in
    let job = c.requires.job in
    let low : u < v = c.requires.parts.catalogue.shape.lower v u (job.2.among u m) in
    let inside = job.0 in
    let each = c.requires.each in
    let there : slice_get refusals u ≡ Some (get_or refusals u None) = slice_get-get_or refusals u None (omega (arith, low, inside, each)) in
    let none : get_or refusals u None ≡ None = c.in_default.ensures.none refl u (get_or refusals u None) (subst (λ ys. has ys u ≡ true) (sym c.as_slice.ensures) m) there in
    c.requires.known u m (there ∙ ap Some none)

is_tried : (g : Over) (c : In_ok-refusal g) → Tried c.args.catalog.now c.args.job.now c.args.keeps (kept c.args.state.now) (kept c.tried.new.state) c.in_ok-refusal.refusal
is_tried g c =
    tried_so c.args.catalog.now c.args.job.now c.args.keeps (kept c.args.state.now) (kept c.tried.new.state) c.in_ok-refusal.refusal
    c.in_ok-refusal.ensures.computed c.in_ok-refusal.ensures.fits c.in_ok-refusal.ensures.keeps (λ r e. ap kept (c.in_ok-refusal.ensures.stays r e)) c.in_ok-refusal.ensures.refused

pub returns-clause-fit : goal.returns-clause-fit
returns-clause-fit g c = fit_tried c.args.catalog.now c.args.job.now c.args.keeps (kept c.args.state.now) (kept c.tried.new.state) c.in_ok-refusal.refusal c.requires.fit (is_tried g c)

pub returns-clause-known : goal.returns-clause-known
returns-clause-known g c = known_tried c.args.catalog.now c.args.job.now c.args.keeps (kept c.args.state.now) (kept c.tried.new.state) c.in_ok-refusal.refusal (is_tried g c)

known : (g : Over) (c : In_ok-refusal g) → AreKnown (kept c.args.state.now) c.args.job.now.from
known g c = λ u m.
    let refusals = c.args.refusals.now in
    let v = c.args.job.now.view in
    let job = c.requires.job in
    let low : u < v = c.requires.parts.catalogue.shape.lower v u (job.2.among u m) in
    let inside = job.0 in
    let each = c.requires.each in
    let there : slice_get refusals u ≡ Some (get_or refusals u None) = slice_get-get_or refusals u None (omega (arith, low, inside, each)) in
    let none : get_or refusals u None ≡ None = c.in_default.ensures.none refl u (get_or refusals u None) (subst (λ ys. has ys u ≡ true) (sym c.as_slice.ensures) m) there in
    c.requires.known u m (there ∙ ap Some none)

pub returns-clause-outcome : goal.returns-clause-outcome
returns-clause-outcome g c = λ n place jobs j first wave is stands outcomes amid.
    outcome_tried n place jobs (own wave) stands.catalogue stands.correct j c.args.job.now is c.args.keeps (kept c.args.state.now) amid (kept c.tried.new.state) c.in_ok-refusal.refusal (known g c)
    (subst (λ cat. Tried cat c.args.job.now c.args.keeps (kept c.args.state.now) (kept c.tried.new.state) c.in_ok-refusal.refusal) (sym wave.same) (is_tried g c))

pub returns-clause-amid : goal.returns-clause-amid
returns-clause-amid g c = λ n place jobs j first wave is stands amid.
    amid_tried n place jobs (own wave) stands.catalogue stands.correct j c.args.job.now is c.args.keeps (kept c.args.state.now) amid (kept c.tried.new.state) c.in_ok-refusal.refusal (known g c)
    (subst (λ cat. Tried cat c.args.job.now c.args.keeps (kept c.args.state.now) (kept c.tried.new.state) c.in_ok-refusal.refusal) (sym wave.same) (is_tried g c))
