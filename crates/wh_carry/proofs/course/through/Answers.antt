use Rattle.std.proofs.Common.{rules, ◌≡◌, refl, sym, ap, subst, ◌∙◌, ℕ, suc, ◌+◌, List, [], ◌∷◌, ◌++◌, take, drop, length, true, false, Option, Some, None, arith}
use Rattle.std.specs.Prelude.{slice_get}
use Rattle.std.proofs.lemmas.List.{append-nil, append_assoc}
use Rattle.std.proofs.lemmas.Option.{slice_get_read}
use Rattle.wh_maint.specs.declared.fault.MaintFault.{MaintFault}
use Rattle.wh_carry.specs.declared.stages.Stage.{Stage}
use Rattle.wh_carry.specs.Kept.{kept}
use Rattle.wh_carry.specs.declared.course.Part.{Part}
use Rattle.wh_carry.specs.Night.{Night}
use Rattle.wh_carry.specs.Legs.{legs_of}
use Rattle.wh_carry.specs.Course.{AreParts}
use Rattle.wh_carry.specs.Stages.{place_behind}
use Rattle.wh_carry.specs.Inner.Standing.{StandsAt, legs_at}
use Rattle.wh_carry.proofs.Parts.{drop_stage, ends_so, starts_so}
use Rattle.wh_carry.proofs.Pages.{drop_past}
use Rattle.wh_carry.proofs.CourseWaves.{split_at, take_all, take_next}
use Rattle.wh_carry.proofs.course.through.Goals as goal

pub loop-stage-init : goal.loop-stage-init
loop-stage-init g c = record {
  parts = c.requires.parts;
  fit = c.requires.fit;
  so_far = λ n same keys are stands. (stands, refl, λ rest stop h. subst (λ ps. AreParts n 0 (legs_of n) (ps ++ rest) stop) (sym c.new.ensures.items) (starts_so n c.args.stages.now rest stop are h));
}

pub stage_of-requires-clause-stage : goal.stage_of-requires-clause-stage
stage_of-requires-clause-stage g c κs within =
    let here : slice_get c.args.stages.now c.loop-stage.stage-index ≡ Some c.stage-item.result = slice_get_read c.args.stages.now (length c.args.stages.now) c.loop-stage.stage-index c.stage-item.result refl (omega arith) c.stage-item.is in
    c.requires.stages c.loop-stage.stage-index c.stage-item.result here

-- how the stages split before the one in turn
split_here : (stages : List Stage) (i : ℕ) (x : Stage) → slice_get stages i ≡ Some x → stages ≡ take i stages ++ x ∷ drop (i + 1) stages
split_here stages i x e = let f : suc i ≡ i + 1 = omega arith in sym (split_at stages i x e) ∙ ap (λ k. take i stages ++ x ∷ drop k stages) f

-- with the parts of this stage
one_more : (n : Night) (stages : List Stage) (i : ℕ) (x : Stage) → slice_get stages i ≡ Some x → (old added new : List Part) → new ≡ old ++ added → (rest : List Part) (stop : Option MaintFault)
    → ((rest : List Part) (stop : Option MaintFault) → AreParts n (place_behind (take i stages)) (legs_at n (place_behind (take i stages)) (drop i stages)) rest stop → AreParts n 0 (legs_of n) (old ++ rest) stop)
    → AreParts n (place_behind (take i stages)) (legs_at n (place_behind (take i stages)) (x ∷ drop (i + 1) stages)) (added ++ rest) stop → AreParts n 0 (legs_of n) (new ++ rest) stop
one_more n stages i x here old added new is rest stop so_far h =
    subst (λ ps. AreParts n 0 (legs_of n) ps stop) (sym (ap (λ ps. ps ++ rest) is ∙ append_assoc old added rest))
    (so_far (added ++ rest) stop (subst (λ ts. AreParts n (place_behind (take i stages)) (legs_at n (place_behind (take i stages)) ts) (added ++ rest) stop) (sym (drop_stage stages i x here)) h))

pub loop-stage-preserved : goal.loop-stage-preserved
loop-stage-preserved g c =
    let stages : List Stage = c.args.stages.now in
    let i : ℕ = c.loop-stage.stage-index in
    let x : Stage = c.stage-item.result in
    let here : slice_get stages i ≡ Some x = slice_get_read stages (length stages) i x refl (omega arith) c.stage-item.is in
    let goes = c.in_ok-stage_of in
    let yes : goes.field-0 ≡ true = search rules in
    let next : take (i + 1) stages ≡ take i stages ++ x ∷ [] = take_next stages i x here in
    record {
      parts = goes.ensures.parts;
      fit = goes.ensures.fit;
      so_far = λ n same keys are stands.
          let s = c.loop-stage.invariant.so_far n same keys are stands in
          let on = goes.ensures.goes n (take i stages) (drop (i + 1) stages) same keys (sym are ∙ split_here stages i x here) s.0 in (
            subst (λ ts. StandsAt n (place_behind ts) (kept c.stage_of.new.state)) (sym next) (on.stands s.0 yes),
            on.stop yes ∙ s.1,
            λ rest stop h. one_more n stages i x here c.loop-stage.course.parts.items on.added c.stage_of.new.course.parts.items on.parts rest stop s.2
                (on.going s.0 yes rest stop (subst (λ ts. AreParts n (place_behind ts) (legs_at n (place_behind ts) (drop (i + 1) stages)) rest stop) next h)),
          );
    }

pub returns-then-not-branch : goal.returns-then-not-branch
returns-then-not-branch g c = record {
  kept = c.in_ok-stage_of.ensures.parts;
  parts = λ n same keys are stands.
      let stages : List Stage = c.args.stages.now in
      let i : ℕ = c.loop-stage.stage-index in
      let x : Stage = c.stage-item.result in
      let here : slice_get stages i ≡ Some x = slice_get_read stages (length stages) i x refl (omega arith) c.stage-item.is in
      let no_more : c.in_ok-stage_of.field-0 ≡ false = search rules in
      let s = c.loop-stage.invariant.so_far n same keys are stands in
      let on = c.in_ok-stage_of.ensures.goes n (take i stages) (drop (i + 1) stages) same keys (sym are ∙ split_here stages i x here) s.0 in
      let stop : Option MaintFault = c.stage_of.new.course.stop in
      subst (λ ps. AreParts n 0 (legs_of n) ps stop) (sym on.parts)
      (s.2 on.added stop (subst (λ ts. AreParts n (place_behind (take i stages)) (legs_at n (place_behind (take i stages)) ts) on.added stop) (sym (drop_stage stages i x here)) (on.ending s.0 no_more)));
  ends = λ n same keys are stands.
      let stages : List Stage = c.args.stages.now in
      let i : ℕ = c.loop-stage.stage-index in
      let x : Stage = c.stage-item.result in
      let here : slice_get stages i ≡ Some x = slice_get_read stages (length stages) i x refl (omega arith) c.stage-item.is in
      let no_more : c.in_ok-stage_of.field-0 ≡ false = search rules in
      let s = c.loop-stage.invariant.so_far n same keys are stands in
      (c.in_ok-stage_of.ensures.goes n (take i stages) (drop (i + 1) stages) same keys (sym are ∙ split_here stages i x here) s.0).refused s.0 no_more;
}

pub returns : goal.returns
returns g c = record {
  kept = c.loop-stage.invariant.parts;
  parts = λ n same keys are stands.
      let stages : List Stage = c.args.stages.now in
      let i : ℕ = c.loop-stage.stage-index in
      let s = c.loop-stage.invariant.so_far n same keys are stands in
      let all : take i stages ≡ stages = take_all i stages (omega arith) in
      let none : drop i stages ≡ [] = drop_past i stages (omega arith) in
      subst (AreParts n 0 (legs_of n) c.loop-stage.course.parts.items) (sym s.1)
      (subst (λ ps. AreParts n 0 (legs_of n) ps None) (append-nil c.loop-stage.course.parts.items)
      (s.2 [] None (subst (λ ts. AreParts n (place_behind ts) (legs_at n (place_behind ts) (drop i stages)) [] None) (sym all)
      (subst (λ ts. AreParts n (place_behind stages) (legs_at n (place_behind stages) ts) [] None) (sym none) (ends_so n stages are)))));
  ends = λ n same keys are stands.
      let stages : List Stage = c.args.stages.now in
      let i : ℕ = c.loop-stage.stage-index in
      let all : take i stages ≡ stages = take_all i stages (omega arith) in
      subst (λ ts. StandsAt n (place_behind ts) (kept c.loop-stage.state)) all (c.loop-stage.invariant.so_far n same keys are stands).0;
}
