-- A night is refused for one reason at most.
use Rattle.std.proofs.Common.{◌≡◌, ◌≢◌, ℕ, zero, suc, ◌+◌, ◌<◌, ◌≤◌, true, false, refl, sym, ap, subst, ◌∙◌, List, [], ◌∷◌, ◌++◌, length, Some, inr, ⊎_elim, arith}
use Rattle.std.specs.Prelude.{◌↔◌, slice_get}
use Rattle.std.specs.List.{flat_map}
use Rattle.std.proofs.lemmas.Bool.{cases_lt}
use Rattle.std.proofs.lemmas.Grind.{flat_map-append}
use Rattle.std.proofs.lemmas.List.{length-append, length-map}
use Rattle.std.proofs.lemmas.Option.{same_Some, slice_get_within}
use Rattle.wh_dag.specs.Catalog.{IsCatalog}
use Rattle.wh_strategy.specs.declared.expression.Expression.{Expression}
use Rattle.wh_strategy.specs.declared.expression.Expression.TheVariants.{Comp, Inst}
use Rattle.wh_strategy.specs.Expression.{At}
use Rattle.wh_strategy.specs.Rules.{IsCorrect}
use Rattle.wh_row.specs.Bag.{Bag}
use Rattle.wh_maint.specs.declared.fault.MaintFault.{MaintFault}
use Rattle.wh_maint.specs.declared.fault.MaintFault.TheVariants.{Memory}
use Rattle.wh_carry.specs.declared.report.CarryFault.{CarryFault}
use Rattle.wh_carry.specs.declared.stages.Job.{Job}
use Rattle.wh_carry.specs.declared.stages.Stage.{Stage}
use Rattle.wh_carry.specs.declared.stages.Stage.TheVariants as stage
use Rattle.wh_carry.specs.Refused.{Reason, RowIsLacking, BaseIsLarge, ChangeIsLarge, ChangeHasNoValue, CompIsLarge, CompMeetsNoValue, PendingIsLarge, TableIsLarge, ArePassedBelow, IsAnswer, IsBaseFault, IsFirstReason, IsOf}
use Rattle.wh_carry.specs.Waves.{comp_of, expressions_of, stages_of}
use Rattle.wh_carry.proofs.FirstRefusals.{refusals_are_one}
use Rattle.wh_carry.proofs.Reasons.{turns}
use Rattle.wh_carry.proofs.StageLaws.{lists_have_one_stages, waves_are_side_by_side}
use Rattle.wh_carry.specs.Night.{Night, state_at, AreAllowed}
use Rattle.wh_carry.specs.Stages.{place_behind}
use Rattle.wh_carry.specs.Inner.Standing.{IsWaveAt}
use Rattle.wh_carry.proofs.Parts.{fits_behind}
use Rattle.wh_carry.proofs.Sources.{job_at}
use Rattle.wh_night.specs.declared.left.Aftermath.{Aftermath}
use Rattle.wh_night.specs.declared.left.Aftermath.TheVariants.{Untouched, GivenUp, StillOpen}
use Rattle.wh_night.specs.Laws.{NightsHaveOneRefusal}
use Rattle.wh_night.specs.Refusals.{ComesBeforeIn, IsFirstStageFault, IsOfJobs, IsRefusedSo, IsStageFault, IsWaveFault, number_of, rank_in}
use Rattle.wh_night.proofs.Comes.{same_place}
use Rattle.wh_night.proofs.WaveFaults.{number_is}

-- ---- lists that are parted twice

-- the shorter first part, with what comes behind it, begins the longer one
record IsWithin (xs : List Stage) (x : Stage) (ys : List Stage) : Type 0 where
  rest : List Stage
  is : ys ≡ xs ++ x ∷ rest

head_same : (x y : Stage) (xs ys : List Stage) → x ∷ xs ≡ y ∷ ys → x ≡ y
head_same x y xs ys e = cc

tail_same : (x y : Stage) (xs ys : List Stage) → x ∷ xs ≡ y ∷ ys → xs ≡ ys
tail_same x y xs ys e = cc

within : (xs ys us vs : List Stage) (x y : Stage) → xs ++ x ∷ us ≡ ys ++ y ∷ vs → length xs < length ys → IsWithin xs x ys
within [] [] us vs x y e l = absurd (omega arith)
within [] (z ∷ ys) us vs x y e l = record { rest = ys; is = ap (λ w. w ∷ ys) (sym (head_same x z us (ys ++ y ∷ vs) e)) }
within (z ∷ xs) [] us vs x y e l = absurd (omega arith)
within (z ∷ xs) (w ∷ ys) us vs x y e l =
    let r = within xs ys us vs x y (tail_same z w (xs ++ x ∷ us) (ys ++ y ∷ vs) e) (omega arith) in
    record { rest = r.rest; is = ap (λ zs. w ∷ zs) r.is ∙ ap (λ h. h ∷ xs ++ x ∷ r.rest) (sym (head_same z w (xs ++ x ∷ us) (ys ++ y ∷ vs) e)) }

same_parts : (xs ys us vs : List Stage) (x y : Stage) → xs ++ x ∷ us ≡ ys ++ y ∷ vs → length xs ≡ length ys → (xs ≡ ys) × (x ≡ y)
same_parts [] [] us vs x y e l = (refl, head_same x y us vs e)
same_parts [] (z ∷ ys) us vs x y e l = absurd (omega (arith, l))
same_parts (z ∷ xs) [] us vs x y e l = absurd (omega (arith, l))
same_parts (z ∷ xs) (w ∷ ys) us vs x y e l =
    let r = same_parts xs ys us vs x y (tail_same z w (xs ++ x ∷ us) (ys ++ y ∷ vs) e) (let k : suc (length xs) ≡ suc (length ys) = l in omega (arith, k)) in
    (ap (λ h. h ∷ xs) (head_same z w (xs ++ x ∷ us) (ys ++ y ∷ vs) e) ∙ ap (λ zs. w ∷ zs) r.0, r.1)

at_middle : (xs : List Expression) (e : Expression) (ys : List Expression) → At (xs ++ e ∷ ys) (length xs) e
at_middle [] e ys = refl
at_middle (x ∷ xs) e ys = at_middle xs e ys

-- ---- jobs by their numbers

job_of : List Job → ℕ → Job
job_of [] j = record { view = 0; from = [] }
job_of (x ∷ jobs) zero = x
job_of (x ∷ jobs) (suc j) = job_of jobs j

job_found : (jobs : List Job) (j : ℕ) (job : Job) → slice_get jobs j ≡ Some job → job_of jobs j ≡ job
unfolding job_of
job_found [] j job e = cc
job_found (x ∷ jobs) zero job e = same_Some x job e
job_found (x ∷ jobs) (suc j) job e = job_found jobs j job e

-- the reason of this turn
of_turn : List Job → ℕ → ℕ → ℕ → Reason
of_turn jobs zero v n = RowIsLacking v
of_turn jobs (suc zero) v zero = ChangeIsLarge v
of_turn jobs (suc zero) v (suc n) = ChangeHasNoValue v
of_turn jobs (suc (suc zero)) j zero = CompIsLarge (job_of jobs j).view (job_of jobs j).from
of_turn jobs (suc (suc zero)) j (suc n) = CompMeetsNoValue (job_of jobs j).view (job_of jobs j).from
of_turn jobs (suc (suc (suc k))) j n = PendingIsLarge (job_of jobs j).view (job_of jobs j).from

-- of a reason that a Comp can have there is one answer
one_answer : (tables changes : ℕ → Bag) (v : ℕ) (ys : List ℕ) (r : Reason) → IsOf (Comp v ys) r → (f g : MaintFault) → IsAnswer tables changes r f → IsAnswer tables changes r g → f ≡ g
one_answer tables changes v ys (RowIsLacking b) asked f g p q = absurd asked
one_answer tables changes v ys (BaseIsLarge b) asked f g p q = absurd asked
one_answer tables changes v ys (ChangeIsLarge u) asked f g p q = p ∙ sym q
one_answer tables changes v ys (ChangeHasNoValue u) asked f g p q = p ∙ sym q
one_answer tables changes v ys (CompIsLarge w zs) asked f g p q = p ∙ sym q
one_answer tables changes v ys (CompMeetsNoValue w zs) asked f g p q = p ∙ sym q
one_answer tables changes v ys (PendingIsLarge w zs) asked f g p q = p ∙ sym q
one_answer tables changes v ys (TableIsLarge u) asked f g p q = absurd asked

module _ (n : Night) (is : IsCatalog n.catalog) (ok : IsCorrect n.catalog.views.children n.list) where
  -- ---- a wave

  module _ (place : ℕ) (jobs : List Job) (wave : IsWaveAt n.catalog jobs n place) where
    its_job : (j : ℕ) (job : Job) (w : ℕ) → slice_get jobs j ≡ Some job → w ≡ job.view → job_of jobs (number_of jobs w) ≡ job
    its_job j job w here e = ap (λ v. job_of jobs (number_of jobs v)) e ∙ ap (job_of jobs) (number_is n place jobs wave is ok j job here) ∙ job_found jobs j job here

    -- a reason is told by its turn
    told : (r : Reason) → IsOfJobs jobs r → r ≡ of_turn jobs (rank_in jobs r).0 (rank_in jobs r).1 (rank_in jobs r).2
    unfolding of_turn
    told (RowIsLacking b) asked = absurd asked.3
    told (BaseIsLarge b) asked = absurd asked.3
    told (ChangeIsLarge u) asked = refl
    told (ChangeHasNoValue u) asked = refl
    told (CompIsLarge w zs) asked =
        let e = its_job asked.0 asked.1 w asked.2 asked.3.0 in
        (λ i. CompIsLarge (asked.3.0 i) (asked.3.1 i)) ∙ ap (λ (x : Job). CompIsLarge x.view x.from) (sym e)
    told (CompMeetsNoValue w zs) asked =
        let e = its_job asked.0 asked.1 w asked.2 asked.3.0 in
        (λ i. CompMeetsNoValue (asked.3.0 i) (asked.3.1 i)) ∙ ap (λ (x : Job). CompMeetsNoValue x.view x.from) (sym e)
    told (PendingIsLarge w zs) asked =
        let e = its_job asked.0 asked.1 w asked.2 asked.3.0 in
        (λ i. PendingIsLarge (asked.3.0 i) (asked.3.1 i)) ∙ ap (λ (x : Job). PendingIsLarge x.view x.from) (sym e)
    told (TableIsLarge u) asked = absurd asked.3

    one_reason : (q r : Reason) → IsFirstReason n.catalog n.changes (state_at n place) (IsOfJobs jobs) (ComesBeforeIn jobs) q
        → IsFirstReason n.catalog n.changes (state_at n place) (IsOfJobs jobs) (ComesBeforeIn jobs) r → q ≡ r
    one_reason q r a b =
        ⊎_elim
        (λ l. absurd (a.stands (b.earlier q a.asked l)))
        (λ other. ⊎_elim
        (λ l. absurd (b.stands (a.earlier r b.asked l)))
        (λ e. told q a.asked ∙ (λ i. of_turn jobs (e.0 i) (e.1 i) (e.2 i)) ∙ sym (told r b.asked))
        other)
        (turns (rank_in jobs q) (rank_in jobs r))

    one_wave : (f g : MaintFault) → IsWaveFault n place jobs f → IsWaveFault n place jobs g → f ≡ g
    one_wave f g a b =
        let same : a.reason ≡ b.reason = one_reason a.reason b.reason a.first b.first in
        let asked = b.first.asked in
        one_answer (state_at n place).tables n.changes asked.1.view asked.1.from b.reason asked.3 f g
        (subst (λ r. IsAnswer (state_at n place).tables n.changes r f) same a.answer) b.answer

    -- where its Comps are passed, one after another, a wave is not refused
    wave_passed : ArePassedBelow n.catalog n.list n.tables n.changes (place + length jobs) → (f : MaintFault) → ¬ (IsWaveFault n place jobs f)
    wave_passed passed f w =
        let asked = w.first.asked in
        let here = asked.2 in
        let inside = slice_get_within jobs asked.0 asked.1 here in
        let there = passed (place + asked.0) (comp_of asked.1) (omega (arith, inside)) (job_at n.list place jobs wave.are asked.0 asked.1 here) w.reason asked.3 in
        w.first.stands (((same_place n place jobs wave is ok asked.0 asked.1 here).ruled_out w.reason asked.3).0 there)

  -- ---- a stage

  module _ (before after : List Stage) where
    its_wave : (jobs : List Job) → stages_of n.list ≡ before ++ stage.Wave jobs ∷ after → IsWaveAt n.catalog jobs n (place_behind before)
    its_wave jobs split = let law = waves_are_side_by_side n.catalog.views.children n.list ok before after jobs split in record { same = refl; are = law.0; side = law.1 }

    inst_there : (v : ℕ) → stages_of n.list ≡ before ++ stage.Inst v ∷ after → At n.list (place_behind before) (Inst v)
    inst_there v split =
        subst (λ l. At l (place_behind before) (Inst v))
        (sym (flat_map-append expressions_of before (stage.Inst v ∷ after)) ∙ ap (flat_map expressions_of) (sym split) ∙ (lists_have_one_stages n.list).0.joined)
        (at_middle (flat_map expressions_of before) (Inst v) (flat_map expressions_of after))

    stage_passed : (x : Stage) → stages_of n.list ≡ before ++ x ∷ after → ArePassedBelow n.catalog n.list n.tables n.changes (place_behind before + length (expressions_of x))
        → (f : MaintFault) → ¬ (IsStageFault n (place_behind before) x f)
    stage_passed (stage.Wave jobs) split passed f w =
        wave_passed (place_behind before) jobs (its_wave jobs split)
        (subst (λ k. ArePassedBelow n.catalog n.list n.tables n.changes (place_behind before + k)) (length-map jobs comp_of) passed) f w
    stage_passed (stage.Inst v) split passed f w =
        w.first.stands (passed (place_behind before) (Inst v) (omega arith) (inst_there v split) w.reason w.first.asked)

    one_stage : AreAllowed n → ArePassedBelow n.catalog n.list n.tables n.changes (place_behind before) → (x : Stage) → stages_of n.list ≡ before ++ x ∷ after
        → (f g : MaintFault) → IsStageFault n (place_behind before) x f → IsStageFault n (place_behind before) x g → f ≢ Memory → g ≢ Memory → f ≡ g
    one_stage allowed passed (stage.Wave jobs) split f g a b m o = one_wave (place_behind before) jobs (its_wave jobs split) f g a b
    one_stage allowed passed (stage.Inst v) split f g a b m o =
        let there = inst_there v split in
        ap (λ (x : CarryFault). x.fault)
        ((refusals_are_one n.catalog n.list n.tables n.changes).one (record { fault = f; started = true }) (record { fault = g; started = true })
        (allowed, inr (record { place = place_behind before; expression = Inst v; there = there; earlier = passed; refused = a }))
        (allowed, inr (record { place = place_behind before; expression = Inst v; there = there; earlier = passed; refused = b }))
        m o)

  -- ---- stages

  -- a list of stages that goes on behind a stage ends behind it
  ends_behind : (before rest : List Stage) (x : Stage) → place_behind before + length (expressions_of x) ≤ place_behind (before ++ x ∷ rest)
  ends_behind before rest x =
      let a = ap length (flat_map-append expressions_of before (x ∷ rest)) ∙ length-append (flat_map expressions_of before) (expressions_of x ++ flat_map expressions_of rest) in
      let b = length-append (expressions_of x) (flat_map expressions_of rest) in
      omega (arith, a, b)

  fewer : (p q : ℕ) → p ≤ q → ArePassedBelow n.catalog n.list n.tables n.changes q → ArePassedBelow n.catalog n.list n.tables n.changes p
  fewer p q l passed place e k at = passed place e (omega (arith, l, k)) at

  not_before : (f g : MaintFault) → (a : IsFirstStageFault n f) (b : IsFirstStageFault n g) → length a.before < length b.before → ⊥
  not_before f g a b l =
      let r = within a.before b.before a.after b.after a.refused b.refused (sym a.split ∙ b.split) l in
      let passed = subst (λ bs. ArePassedBelow n.catalog n.list n.tables n.changes (place_behind bs)) r.is b.passed in
      stage_passed a.before a.after a.refused a.split (fewer _ _ (ends_behind a.before r.rest a.refused) passed) f a.is

  one_first : AreAllowed n → (f g : MaintFault) → IsFirstStageFault n f → IsFirstStageFault n g → f ≢ Memory → g ≢ Memory → f ≡ g
  one_first allowed f g a b m o =
      ⊎_elim
      (λ l. absurd (not_before f g a b l))
      (λ l. ⊎_elim
      (λ k. absurd (not_before g f b a k))
      (λ k.
      let same = same_parts a.before b.before a.after b.after a.refused b.refused (sym a.split ∙ b.split) (omega (arith, l, k)) in
      let moved : IsStageFault n (place_behind b.before) b.refused f = subst (λ x. IsStageFault n (place_behind b.before) x f) same.1 (subst (λ bs. IsStageFault n (place_behind bs) a.refused f) same.0 a.is) in
      one_stage b.before b.after allowed b.passed b.refused b.split f g moved b.is m o)
      (cases_lt (length b.before) (length a.before)))
      (cases_lt (length a.before) (length b.before))

  no_first : ArePassedBelow n.catalog n.list n.tables n.changes (length n.list) → (f : MaintFault) → ¬ (IsFirstStageFault n f)
  no_first passed f a =
      let fits = fits_behind n a.before a.after a.refused a.split in
      stage_passed a.before a.after a.refused a.split (fewer _ _ (omega (arith, fits)) passed) f a.is

  -- ---- a night

  no_base : AreAllowed n → (f : MaintFault) → ¬ (IsBaseFault n.catalog n.tables n.changes f)
  no_base allowed f a = a.first.stands (allowed a.reason a.first.asked)

  one_base : (f g : MaintFault) → IsBaseFault n.catalog n.tables n.changes f → IsBaseFault n.catalog n.tables n.changes g → f ≢ Memory → g ≢ Memory → f ≡ g
  one_base f g a b m o =
      ap (λ (x : CarryFault). x.fault)
      ((refusals_are_one n.catalog n.list n.tables n.changes).one (record { fault = f; started = false }) (record { fault = g; started = false }) (inr a) (inr b) m o)

  one : (left other : Aftermath) (f g : MaintFault) → IsRefusedSo n left f → IsRefusedSo n other g → f ≢ Memory → g ≢ Memory → (f ≡ g) × ((left ≡ Untouched) ↔ (other ≡ Untouched))
  one Untouched Untouched f g a b m o = (one_base f g a b m o, ((λ e. e), (λ e. e)))
  one Untouched GivenUp f g a b m o = absurd (no_base b.0 f a)
  one Untouched StillOpen f g a b m o = absurd (no_base b.0 f a)
  one GivenUp Untouched f g a b m o = absurd (no_base a.0 g b)
  one StillOpen Untouched f g a b m o = absurd (no_base a.0 g b)
  one GivenUp GivenUp f g a b m o = (one_first a.0 f g a.1 b.1 m o, ((λ e. e), (λ e. e)))
  one GivenUp StillOpen f g a b m o = (one_first a.0 f g a.1 b.1 m o, ((λ e. cc), (λ e. cc)))
  one StillOpen GivenUp f g a b m o = (one_first a.0 f g a.1 b.1 m o, ((λ e. cc), (λ e. cc)))
  one StillOpen StillOpen f g a b m o = (one_first a.0 f g a.1 b.1 m o, ((λ e. e), (λ e. e)))

  none : AreAllowed n → ArePassedBelow n.catalog n.list n.tables n.changes (length n.list) → (left : Aftermath) (f : MaintFault) → IsRefusedSo n left f → f ≡ Memory
  none allowed passed Untouched f a = absurd (no_base allowed f a)
  none allowed passed GivenUp f a = absurd (no_first passed f a.1)
  none allowed passed StillOpen f a = absurd (no_first passed f a.1)

pub one_refusal : NightsHaveOneRefusal
one_refusal n is ok = record { one = one n is ok; none = none n is ok }
