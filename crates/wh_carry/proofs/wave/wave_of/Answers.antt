use Rattle.std.proofs.Common.{◌≡◌, refl, sym, ap, subst, ◌∙◌, ℕ, ◌+◌, ◌<◌, List, [], ◌∷◌, ◌++◌, length, Bool, true, ◌&&◌, Option, Some, ⊎_elim, arith}
use Rattle.std.specs.Prelude.{slice_get, is_none, option_map}
use Rattle.std.specs.List.{list_all}
use Rattle.std.proofs.lemmas.Bool.{cases_lt}
use Rattle.std.proofs.lemmas.Option.{same_Some, slice_get_read, slice_get_within}
use Rattle.wh_maint.specs.declared.fault.MaintFault.{MaintFault}
use Rattle.wh_carry.specs.Kept.{kept}
use Rattle.wh_carry.specs.declared.wave.Refusal.{Refusal}
use Rattle.wh_carry.specs.Course.{IsOutcome}
use Rattle.wh_carry.specs.Inner.Standing.{IsAmid, answer_of}
use Rattle.wh_carry.proofs.Growing.{front_item, last_item, longer}
use Rattle.wh_carry.proofs.CourseWaves.{all_of, source_among, stands_over, starts_amid}
use Rattle.wh_carry.proofs.wave.wave_of.Goals as goal

pub loop-job-init : goal.loop-job-init
loop-job-init g c = record {
  parts = c.in_ok-refusals.ensures.parts;
  fit = c.in_ok-refusals.ensures.fit;
  known = refl;
  each = ap length c.new-outcomes.ensures.items;
  clean = sym (ap (list_all is_none) c.new-outcomes.ensures.items);
  outcomes = λ n place wave stands j outcome is. let k = slice_get_within c.new-outcomes.result.items j outcome is in let e = ap length c.new-outcomes.ensures.items in absurd (omega (arith, k, e));
  amid = λ n place wave stands. starts_amid n place c.args.jobs.now (kept c.finish_sources.new.state) (c.in_ok-refusals.ensures.stands n place wave stands);
}

pub job_of-requires-clause-job : goal.job_of-requires-clause-job
job_of-requires-clause-job g c κs within =
    let here : slice_get c.args.jobs.now c.loop-job.job-index ≡ Some c.job-item.result = slice_get_read c.args.jobs.now (length c.args.jobs.now) c.loop-job.job-index c.job-item.result refl (omega arith) c.job-item.is in
    c.requires.jobs c.loop-job.job-index c.job-item.result here

pub job_of-requires-clause-known : goal.job_of-requires-clause-known
job_of-requires-clause-known g c κs within = λ u m is.
    let here : slice_get c.args.jobs.now c.loop-job.job-index ≡ Some c.job-item.result = slice_get_read c.args.jobs.now (length c.args.jobs.now) c.loop-job.job-index c.job-item.result refl (omega arith) c.job-item.is in
    ap (λ (f : ℕ → Bool). f u) c.loop-job.invariant.known
    ∙ c.in_ok-refusals.ensures.sources u (source_among c.args.jobs.now c.loop-job.job-index c.job-item.result here u m) (ap (λ rs. slice_get rs u) (sym c.as_slice.ensures.value) ∙ is)

pub loop-job-preserved : goal.loop-job-preserved
loop-job-preserved g c =
    let here : slice_get c.args.jobs.now c.loop-job.job-index ≡ Some c.job-item.result = slice_get_read c.args.jobs.now (length c.args.jobs.now) c.loop-job.job-index c.job-item.result refl (omega arith) c.job-item.is in
    let all : List (Option MaintFault) = c.loop-job.outcomes.items in
    let o : Option Refusal = c.in_ok-refusal.refusal in
    let clean_now : c.stays_clean-clean.result ≡ (c.loop-job.clean && is_none o) = c.stays_clean-clean.ensures in
    let new : c.push.new.self.items ≡ all ++ option_map answer_of o ∷ [] = c.in_ok-push.ensures.items ∙ ap (λ x. all ++ x ∷ []) c.outcome_of.ensures in
    record {
      parts = c.in_ok-refusal.ensures.parts;
      fit = c.in_ok-refusal.ensures.fit;
      known = c.in_ok-refusal.ensures.known ∙ c.loop-job.invariant.known;
      each = ap length new ∙ longer all (option_map answer_of o) ∙ ap (λ k. k + 1) c.loop-job.invariant.each;
      clean = clean_now ∙ ap (λ b. b && is_none o) c.loop-job.invariant.clean ∙ sym (all_of all o) ∙ ap (list_all is_none) (sym new);
      outcomes = λ n place wave stands j outcome is.
          let there : slice_get (all ++ option_map answer_of o ∷ []) j ≡ Some outcome = ap (λ xs. slice_get xs j) (sym new) ∙ is in
          let far : j < length (all ++ option_map answer_of o ∷ []) = slice_get_within (all ++ option_map answer_of o ∷ []) j outcome there in
          let long = longer all (option_map answer_of o) in
          ⊎_elim
          (λ k. c.loop-job.invariant.outcomes n place wave stands j outcome (sym (front_item all (option_map answer_of o ∷ []) j k) ∙ there))
          (λ k.
          let each = c.loop-job.invariant.each in
          let e : length all ≡ j = omega arith in
          let own : option_map answer_of o ≡ outcome = same_Some (option_map answer_of o) outcome (sym (last_item all (option_map answer_of o) j e) ∙ there) in
          let at : c.loop-job.job-index ≡ j = omega (arith, e, each) in
          subst (λ i. IsOutcome n (place + i) outcome) at
          (subst (IsOutcome n (place + c.loop-job.job-index)) own
          (c.in_ok-refusal.ensures.outcome n place c.args.jobs.now c.loop-job.job-index (kept c.finish_sources.new.state) wave here (c.in_ok-refusals.ensures.stands n place wave stands)
          (λ u r m is. c.in_ok-refusals.ensures.outcomes n place wave stands u r (source_among c.args.jobs.now c.loop-job.job-index c.job-item.result here u m) (ap (λ rs. slice_get rs u) (sym c.as_slice.ensures.value) ∙ is))
          (c.loop-job.invariant.amid n place wave stands))))
          (cases_lt j (length all));
      amid = λ n place wave stands. subst (λ b. IsAmid n place c.args.jobs.now (c.loop-job.job-index + 1) b (kept c.job_of.new.state)) (sym clean_now)
          (c.in_ok-refusal.ensures.amid n place c.args.jobs.now c.loop-job.job-index (kept c.finish_sources.new.state) wave here (c.in_ok-refusals.ensures.stands n place wave stands) (c.loop-job.invariant.amid n place wave stands));
    }

pub returns-clause-stands : goal.returns-clause-stands
returns-clause-stands g c = λ n place wave stands none.
    let e : c.loop-job.job-index ≡ length c.args.jobs.now = omega arith in
    stands_over n place c.args.jobs.now (record { same = refl; are = wave.are; side = wave.side }) (kept c.loop-job.state) stands.catalogue stands.correct
    (subst (λ i. IsAmid n place c.args.jobs.now i true (kept c.loop-job.state)) e (subst (λ b. IsAmid n place c.args.jobs.now c.loop-job.job-index b (kept c.loop-job.state)) (c.loop-job.invariant.clean ∙ none) (c.loop-job.invariant.amid n place wave stands)))
