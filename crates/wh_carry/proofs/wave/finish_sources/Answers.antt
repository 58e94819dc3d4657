use Rattle.std.proofs.Common.{◌≡◌, sym, ap, subst, ◌∙◌, ◌+◌, ◌<◌, [], ◌∷◌, ◌++◌, length, Some, None, ⊎_elim, true, arith}
use Rattle.std.specs.Prelude.{slice_get}
use Rattle.std.proofs.lemmas.Bool.{cases_lt}
use Rattle.std.proofs.lemmas.Option.{same_Some, slice_get_within}
use Rattle.wh_carry.specs.Kept.{kept}
use Rattle.wh_carry.specs.Standing.{is_source}
use Rattle.wh_carry.specs.Inner.Standing.{IsSourceOutcome}
use Rattle.wh_carry.proofs.Sources.{outcome_stays}
use Rattle.wh_carry.proofs.Growing.{front_item, last_item, longer}
use Rattle.wh_carry.proofs.wave.finish_sources.Goals as goal

pub loop-view-preserved : goal.loop-view-preserved
loop-view-preserved g c = record {
  parts = c.in_ok-refusal.ensures.parts;
  fit = c.in_ok-refusal.ensures.fit;
  each = ap length c.in_ok-push.ensures.items ∙ longer c.loop-view.refusals.items c.in_ok-refusal.refusal ∙ ap (λ k. k + 1) c.loop-view.invariant.each;
  stands = λ n place wave stands. c.in_ok-refusal.ensures.stands n place wave (c.loop-view.invariant.stands n place wave stands);
  outcomes = λ n place wave stands u refusal source is.
      let all = c.loop-view.refusals.items in
      let there : slice_get (all ++ c.in_ok-refusal.refusal ∷ []) u ≡ Some refusal = ap (λ rs. slice_get rs u) (sym c.in_ok-push.ensures.items) ∙ is in
      let far : u < length (all ++ c.in_ok-refusal.refusal ∷ []) = slice_get_within (all ++ c.in_ok-refusal.refusal ∷ []) u refusal there in
      let long = longer all c.in_ok-refusal.refusal in
      ⊎_elim
      (λ k. outcome_stays n place (kept c.loop-view.state) (kept c.finish_for.new.state) u refusal c.in_ok-refusal.ensures.known
      (c.loop-view.invariant.outcomes n place wave stands u refusal source (sym (front_item all (c.in_ok-refusal.refusal ∷ []) u k) ∙ there)))
      (λ k.
      let each = c.loop-view.invariant.each in
      let e : length all ≡ u = omega arith in
      let own : c.in_ok-refusal.refusal ≡ refusal = same_Some c.in_ok-refusal.refusal refusal (sym (last_item all c.in_ok-refusal.refusal u e) ∙ there) in
      let here : c.loop-view.view ≡ u = omega (arith, e, each) in
      subst (λ v. IsSourceOutcome n place (kept c.finish_for.new.state) v refusal) here
      (subst (IsSourceOutcome n place (kept c.finish_for.new.state) c.loop-view.view) own (c.in_ok-refusal.ensures.outcome n place wave (c.loop-view.invariant.stands n place wave stands) (ap (is_source c.args.jobs.now) here ∙ source))))
      (cases_lt u (length all));
  sources = λ u source is.
      let all = c.loop-view.refusals.items in
      let there : slice_get (all ++ c.in_ok-refusal.refusal ∷ []) u ≡ Some None = ap (λ rs. slice_get rs u) (sym c.in_ok-push.ensures.items) ∙ is in
      let far : u < length (all ++ c.in_ok-refusal.refusal ∷ []) = slice_get_within (all ++ c.in_ok-refusal.refusal ∷ []) u None there in
      let long = longer all c.in_ok-refusal.refusal in
      ⊎_elim
      (λ k. c.in_ok-refusal.ensures.known u (c.loop-view.invariant.sources u source (sym (front_item all (c.in_ok-refusal.refusal ∷ []) u k) ∙ there)))
      (λ k.
      let each = c.loop-view.invariant.each in
      let e : length all ≡ u = omega arith in
      let own : c.in_ok-refusal.refusal ≡ None = same_Some c.in_ok-refusal.refusal None (sym (last_item all c.in_ok-refusal.refusal u e) ∙ there) in
      let here : c.loop-view.view ≡ u = omega (arith, e, each) in
      subst (λ v. (kept c.finish_for.new.state).known v ≡ true) here (c.in_ok-refusal.ensures.source (ap (is_source c.args.jobs.now) here ∙ source) own))
      (cases_lt u (length all));
}
