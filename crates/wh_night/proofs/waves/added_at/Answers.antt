use Rattle.std.proofs.Common.{◌≡◌, refl, sym, subst, ◌∙◌, Some, length}
use Rattle.std.specs.Prelude.{slice_get}
use Rattle.std.proofs.lemmas.Option.{same_Some, slice_get_read}
use Rattle.std.proofs.lemmas.Result.{IfErr-weaker, IfOk-weaker}
use Rattle.wh_carry.specs.Kept.{kept}
use Rattle.wh_carry.specs.Refused.{IsCompFaultIn}
use Rattle.wh_carry.proofs.CourseWaves.{source_among}
use Rattle.wh_night.specs.Underway.{IsAdded}
use Rattle.wh_night.proofs.waves.added_at.Goals as goal

pub added_by-requires-clause-job : goal.added_by-requires-clause-job
added_by-requires-clause-job g c κs within =
    c.requires.jobs c.args.number c.index-jobs-number.result (slice_get_read c.args.jobs.now (length c.args.jobs.now) c.args.number c.index-jobs-number.result refl c.requires.there c.index-jobs-number.is)

pub added_by-requires-clause-known : goal.added_by-requires-clause-known
added_by-requires-clause-known g c κs within = λ u m.
    c.requires.known u (source_among c.args.jobs.now c.args.number c.index-jobs-number.result
    (slice_get_read c.args.jobs.now (length c.args.jobs.now) c.args.number c.index-jobs-number.result refl c.requires.there c.index-jobs-number.is) u m)

pub returns-clause-added : goal.returns-clause-added
returns-clause-added g c =
    let here : slice_get c.args.jobs.now c.args.number ≡ Some c.index-jobs-number.result =
    slice_get_read c.args.jobs.now (length c.args.jobs.now) c.args.number c.index-jobs-number.result refl c.requires.there c.index-jobs-number.is in
    IfOk-weaker c.added_by.result _ _ (λ p is job e. subst (λ x. IsAdded c.args.catalog.now (kept c.args.state.now) x p) (same_Some c.index-jobs-number.result job (sym here ∙ e)) is) c.added_by.ensures.added

pub returns-clause-refused : goal.returns-clause-refused
returns-clause-refused g c =
    let here : slice_get c.args.jobs.now c.args.number ≡ Some c.index-jobs-number.result =
    slice_get_read c.args.jobs.now (length c.args.jobs.now) c.args.number c.index-jobs-number.result refl c.requires.there c.index-jobs-number.is in
    IfErr-weaker c.added_by.result _ _ (λ fault is job e. subst (λ x. IsCompFaultIn c.args.catalog.now (kept c.args.state.now) x.view x.from fault) (same_Some c.index-jobs-number.result job (sym here ∙ e)) is) c.added_by.ensures.refused
