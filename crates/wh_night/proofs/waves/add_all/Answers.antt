use Rattle.std.proofs.Common.{◌≡◌, refl, sym, ap, subst, ◌∙◌, ℕ, ◌+◌, List, length, Bool, Some, inl, ⊎_elim, arith}
use Rattle.std.specs.Prelude.{slice_get}
use Rattle.std.proofs.lemmas.Option.{slice_get_read}
use Rattle.wh_dag.specs.Catalog.{CatalogOf}
use Rattle.wh_row.specs.Bag.{Bag}
use Rattle.wh_maint.specs.Comp.{PendingOf}
use Rattle.wh_carry.specs.declared.stages.Job.{Job}
use Rattle.wh_carry.specs.Kept.{Kept, kept}
use Rattle.wh_carry.proofs.CourseWaves.{source_among}
use Rattle.wh_carry.proofs.HandedOn.{handed_on}
use Rattle.wh_night.specs.Underway.{IsAdded}
use Rattle.wh_night.specs.Inner.Underway.{HasCome, night_given}
use Rattle.wh_night.proofs.Comes.{all_computable, job_comes, not_added}
use Rattle.wh_night.proofs.waves.add_all.Goals as goal

-- what a job adds depends on the tables and the changes alone
stays_added : (catalog : CatalogOf) (k now : Kept) (job : Job) (p : PendingOf) → now.tables ≡ k.tables → now.changes ≡ k.changes → IsAdded catalog k job p → IsAdded catalog now job p
stays_added catalog k now job p t d a =
    subst (λ (x : (ℕ → Bag) × (ℕ → Bag)). IsAdded catalog (record { tables = x.0; pending = now.pending; changes = x.1; known = now.known }) job p) (λ i. (sym t i, sym d i))
    (record { is_in = a.is_in; value = a.value; can = a.can })

pub add_one-requires-clause-job : goal.add_one-requires-clause-job
add_one-requires-clause-job g c κs within =
    c.requires.jobs c.loop-number.number c.index-jobs-number.result (slice_get_read c.args.jobs.now (length c.args.jobs.now) c.loop-number.number c.index-jobs-number.result refl (omega arith) c.index-jobs-number.is)

pub add_one-requires-clause-known : goal.add_one-requires-clause-known
add_one-requires-clause-known g c κs within = λ u m.
    let here : slice_get c.args.jobs.now c.loop-number.number ≡ Some c.index-jobs-number.result =
    slice_get_read c.args.jobs.now (length c.args.jobs.now) c.loop-number.number c.index-jobs-number.result refl (omega arith) c.index-jobs-number.is in
    ap (λ (f : ℕ → Bool). f u) c.loop-number.invariant.known ∙ c.requires.known u (source_among c.args.jobs.now c.loop-number.number c.index-jobs-number.result here u m)

pub add_one-requires-clause-added : goal.add_one-requires-clause-added
add_one-requires-clause-added g c κs within =
    let jobs : List Job = c.args.jobs.now in
    let added : List PendingOf = c.args.added.now in
    let i : ℕ = c.loop-number.number in
    let each = c.requires.added.each in
    let here : slice_get jobs i ≡ Some c.index-jobs-number.result = slice_get_read jobs (length jobs) i c.index-jobs-number.result refl (omega arith) c.index-jobs-number.is in
    let there : slice_get added i ≡ Some c.index-added-number.result = slice_get_read added (length added) i c.index-added-number.result refl (omega (arith, each)) c.index-added-number.is in
    stays_added c.args.catalog.now (kept c.args.state.now) (kept c.loop-number.state) c.index-jobs-number.result c.index-added-number.result c.loop-number.invariant.tables c.loop-number.invariant.changes
    (c.requires.added.are i c.index-jobs-number.result c.index-added-number.result here there)

pub returns-in_err-add_one-clause-refused : goal.returns-in_err-add_one-clause-refused
returns-in_err-add_one-clause-refused g c = handed_on _ c.from_residual.result c.in_err-add_one.field-0.0 c.from_residual.ensures (λ keys place t wave come all.
    let n = night_given c.args.catalog.now keys t in
    let jobs : List Job = c.args.jobs.now in
    let i : ℕ = c.loop-number.number in
    let each = c.requires.added.each in
    let here : slice_get jobs i ≡ Some c.index-jobs-number.result = slice_get_read jobs (length jobs) i c.index-jobs-number.result refl (omega arith) c.index-jobs-number.is in
    let there : slice_get c.args.added.now i ≡ Some c.index-added-number.result =
    slice_get_read c.args.added.now (length c.args.added.now) i c.index-added-number.result refl (omega (arith, each)) c.index-added-number.is in
    let own = stays_added c.args.catalog.now (kept c.args.state.now) (kept c.loop-number.state) c.index-jobs-number.result c.index-added-number.result c.loop-number.invariant.tables c.loop-number.invariant.changes
    (c.requires.added.are i c.index-jobs-number.result c.index-added-number.result here there) in
    ⊎_elim (λ m. inl m)
    (λ f. not_added n place jobs wave i c.index-jobs-number.result here (kept c.loop-number.state) c.loop-number.steps.items (c.loop-number.invariant.come keys place t wave come)
    (λ u m. ap (λ (f : ℕ → Bool). f u) c.loop-number.invariant.known ∙ c.requires.known u (source_among jobs i c.index-jobs-number.result here u m))
    all (all_computable n place jobs wave (kept c.args.state.now) come.stands c.requires.known c.args.added.now c.requires.added) own.can c.in_err-add_one.field-0.0 f)
    c.in_err-add_one.ensures.refused)

pub loop-number-preserved : goal.loop-number-preserved
loop-number-preserved g c =
    let jobs : List Job = c.args.jobs.now in
    let i : ℕ = c.loop-number.number in
    let each = c.requires.added.each in
    let here : slice_get jobs i ≡ Some c.index-jobs-number.result = slice_get_read jobs (length jobs) i c.index-jobs-number.result refl (omega arith) c.index-jobs-number.is in
    let there : slice_get c.args.added.now i ≡ Some c.index-added-number.result =
    slice_get_read c.args.added.now (length c.args.added.now) i c.index-added-number.result refl (omega (arith, each)) c.index-added-number.is in
    let own = stays_added c.args.catalog.now (kept c.args.state.now) (kept c.loop-number.state) c.index-jobs-number.result c.index-added-number.result c.loop-number.invariant.tables c.loop-number.invariant.changes
    (c.requires.added.are i c.index-jobs-number.result c.index-added-number.result here there) in
    record {
      parts = c.in_ok-add_one.ensures.parts;
      fit = c.in_ok-add_one.ensures.fit;
      known = ap (λ (k : Kept). k.known) c.in_ok-add_one.ensures.done ∙ c.loop-number.invariant.known;
      tables = ap (λ (k : Kept). k.tables) c.in_ok-add_one.ensures.done ∙ c.loop-number.invariant.tables;
      changes = ap (λ (k : Kept). k.changes) c.in_ok-add_one.ensures.done ∙ c.loop-number.invariant.changes;
      come = λ keys place t wave come.
          let n = night_given c.args.catalog.now keys t in
          job_comes n place jobs wave i c.index-jobs-number.result here (kept c.loop-number.state) c.loop-number.steps.items (c.loop-number.invariant.come keys place t wave come)
          (λ u m. ap (λ (f : ℕ → Bool). f u) c.loop-number.invariant.known ∙ c.requires.known u (source_among jobs i c.index-jobs-number.result here u m))
          own.can c.in_ok-add_one.ensures.fits (kept c.add_one.new.state) c.in_ok-add_one.ensures.done c.add_one.new.steps.items c.in_ok-add_one.ensures.reported;
    }

pub returns-clause-goes : goal.returns-clause-goes
returns-clause-goes g c = λ keys place t wave come.
    let e : c.loop-number.number ≡ length c.args.jobs.now = omega arith in
    subst (λ i. HasCome (night_given c.args.catalog.now keys t) (place + i) (kept c.loop-number.state) c.loop-number.steps.items) e (c.loop-number.invariant.come keys place t wave come)
