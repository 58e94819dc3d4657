use Rattle.std.proofs.Common.{◌≡◌, refl, sym, ap, ◌∙◌, ℕ, ◌+◌, List, [], ◌∷◌, ◌++◌, ◌||◌, take, length, Bool, true, false, eqb, Some, arith}
use Rattle.std.specs.Prelude.{slice_get}
use Rattle.std.proofs.lemmas.List.Folds.{list_any-append}
use Rattle.std.proofs.lemmas.Option.{slice_get_read}
use Rattle.wh_dag.specs.Shape.{has}
use Rattle.wh_carry.specs.declared.stages.Job.{Job}
use Rattle.wh_carry.specs.Standing.{is_source}
use Rattle.wh_carry.proofs.CourseWaves.{take_next}
use Rattle.wh_night.proofs.waves.sources_of.Goals as goal

none : (u : ℕ) → has [] u ≡ false
unfolding has
none u = refl

both : (xs ys : List ℕ) (u : ℕ) → has (xs ++ ys) u ≡ (has xs u || has ys u)
unfolding has
both xs ys u = list_any-append (λ w. eqb w u) xs ys

one : (b : Bool) → (b || false) ≡ b
one true = refl
one false = refl

pub loop-job-init : goal.loop-job-init
loop-job-init c = λ u. ap (λ views. has views u) c.new-views.ensures.items ∙ none u

pub loop-job-preserved : goal.loop-job-preserved
loop-job-preserved c = λ u.
    let jobs : List Job = c.args.jobs.now in
    let i : ℕ = c.loop-job.job-index in
    let job : Job = c.job-item.result in
    let here : slice_get jobs i ≡ Some job = slice_get_read jobs (length jobs) i job refl (omega arith) c.job-item.is in
    let next : take (i + 1) jobs ≡ take i jobs ++ job ∷ [] = take_next jobs i job here in
    ap (λ views. has views u) (c.in_ok-extend_from_slice.ensures.items ∙ ap (λ more. c.loop-job.views.items ++ more) c.as_slice.ensures)
    ∙ both c.loop-job.views.items job.from u
    ∙ (λ k. c.loop-job.invariant u k || sym (one (has job.from u)) k)
    ∙ sym (ap (λ js. is_source js u) next ∙ list_any-append (λ (job : Job). has job.from u) (take i jobs) (job ∷ []))
