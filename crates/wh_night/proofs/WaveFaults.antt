-- The first reason of a wave, from what is refused one after another.
use Rattle.std.proofs.Common.{◌≡◌, refl, sym, ap, subst, ◌∙◌, ℕ, zero, suc, ◌+◌, ◌<◌, ◌≤◌, true, false, eqb, List, [], ◌∷◌, length, Some, ◌⊎◌, inl, inr, ⊎_elim, arith}
use Rattle.std.specs.Prelude.{slice_get, if◌then◌else◌}
use Rattle.std.proofs.lemmas.Bool.{eqb-true, eq-eqb, false≢true}
use Rattle.std.proofs.lemmas.Option.{same_Some, slice_get_within}
use Rattle.wh_dag.specs.Shape.{has}
use Rattle.wh_dag.specs.Catalog.{IsCatalog}
use Rattle.wh_strategy.specs.declared.expression.Expression.TheVariants.{Comp}
use Rattle.wh_strategy.specs.Expression.{At}
use Rattle.wh_strategy.specs.Rules.{IsCorrect}
use Rattle.wh_maint.specs.declared.fault.MaintFault.{MaintFault}
use Rattle.wh_maint.specs.declared.fault.MaintFault.TheVariants.{Large, Range, Memory, Absent}
use Rattle.wh_carry.specs.declared.stages.Job.{Job}
use Rattle.wh_carry.specs.Carry.{State}
use Rattle.wh_carry.specs.Refused.{Reason, RowIsLacking, BaseIsLarge, ChangeIsLarge, ChangeHasNoValue, CompIsLarge, CompMeetsNoValue, PendingIsLarge, TableIsLarge, IsRuledOut, IsEarlier}
use Rattle.wh_carry.proofs.Amid.{waves_have_no_order}
use Rattle.wh_carry.specs.Inner.Reasons.{CanBeFinished, IsUnfinished}
use Rattle.wh_carry.specs.Night.{Night, state_at}
use Rattle.wh_carry.specs.Standing.{is_source}
use Rattle.wh_carry.specs.Inner.Standing.{IsWaveAt}
use Rattle.wh_carry.proofs.Sources.{job_at}
use Rattle.wh_carry.proofs.CourseWaves.{source_among}
use Rattle.wh_night.specs.Refusals.{IsOfJobs, IsWaveFault, number_of, rank_in}
use Rattle.wh_night.specs.Inner.Underway.{SourcesFinish}

-- ---- turns

below_itself : (n : ℕ) → n < n → ⊥
below_itself n l = omega arith

past_stage : (a b : ℕ × ℕ × ℕ) → b.0 < a.0 → IsEarlier a b → ⊥
past_stage a b l e = ⊎_elim (λ m. omega arith) (λ m. let f = m.0 in omega arith) e

within_stage : (a b : ℕ × ℕ × ℕ) → a.0 ≡ b.0 → IsEarlier a b → (a.1 < b.1) ⊎ ((a.1 ≡ b.1) × (a.2 < b.2))
within_stage a b f e = ⊎_elim (λ l. absurd (omega arith)) (λ m. m.1) e

-- ---- the number of a job

-- where its view stands first
abbrev Found : List Job → Job → Type 0
Found jobs job = (other : Job) × (slice_get jobs (number_of jobs job.view) ≡ Some other) × (job.view ≡ other.view)

found_later : (x : Job) (jobs : List Job) (job : Job) → Found jobs job → Found (x ∷ jobs) job
found_later x jobs job r =
    elim (eqb x.view job.view) as (λ t. eqb x.view job.view ≡ t → (other : Job) × (slice_get (x ∷ jobs) (if t then 0 else suc (number_of jobs job.view)) ≡ Some other) × (job.view ≡ other.view)) [
      | true ↦ λ t. (x, refl, sym (eqb-true x.view job.view t))
      | false ↦ λ t. r
    ] refl

found_here : (x : Job) (jobs : List Job) (job : Job) → x ≡ job → Found (x ∷ jobs) job
found_here x jobs job f =
    elim (eqb x.view job.view) as (λ t. eqb x.view job.view ≡ t → (other : Job) × (slice_get (x ∷ jobs) (if t then 0 else suc (number_of jobs job.view)) ≡ Some other) × (job.view ≡ other.view)) [
      | true ↦ λ t. (x, refl, sym (eqb-true x.view job.view t))
      | false ↦ λ t. absurd (false≢true (sym t ∙ eq-eqb x.view job.view (ap (λ (y : Job). y.view) f)))
    ] refl

found : (jobs : List Job) (j : ℕ) (job : Job) → slice_get jobs j ≡ Some job → Found jobs job
found [] j job e = cc
found (x ∷ jobs) zero job e = found_here x jobs job (same_Some x job e)
found (x ∷ jobs) (suc j) job e = found_later x jobs job (found jobs j job e)

module _ (n : Night) (place : ℕ) (jobs : List Job) (wave : IsWaveAt n.catalog jobs n place) (is : IsCatalog n.catalog) (ok : IsCorrect n.catalog.views.children n.list) where
  abbrev s : State
  s = state_at n place

  abbrev Out : Reason → Type 0
  Out reason = IsRuledOut n.catalog n.changes s reason

  -- the jobs of a wave are of different views
  one_job : (j k : ℕ) (job other : Job) → slice_get jobs j ≡ Some job → slice_get jobs k ≡ Some other → job.view ≡ other.view → j ≡ k
  one_job j k job other e f same =
      (waves_have_no_order n.catalog n.list n.tables n.changes is ok place (length jobs) wave.side).targets j k job.view job.from other.from (slice_get_within jobs j job e) (slice_get_within jobs k other f)
      (job_at n.list place jobs wave.are j job e)
      (subst (λ v. At n.list (place + k) (Comp v other.from)) (sym same) (job_at n.list place jobs wave.are k other f))

  pub number_is : (j : ℕ) (job : Job) → slice_get jobs j ≡ Some job → number_of jobs job.view ≡ j
  number_is j job e = let other = found jobs j job e in one_job (number_of jobs job.view) j other.0 job other.1 e (sym other.2)

  same_job : (j k : ℕ) (job other : Job) → slice_get jobs j ≡ Some job → slice_get jobs k ≡ Some other → j ≡ k → job ≡ other
  same_job j k job other e f same = same_Some job other (sym e ∙ ap (slice_get jobs) same ∙ f)

  counts_of : (u w : ℕ) → w ≡ u → Out (ChangeIsLarge u) → Out (ChangeIsLarge w)
  counts_of u w e out = subst (λ x. Out (ChangeIsLarge x)) (sym e) out

  -- ---- sources

  before_change : (u m : ℕ) → ((w : ℕ) → w < u → is_source jobs w ≡ true → CanBeFinished n.catalog s w) → (0 < m → Out (ChangeIsLarge u)) → m ≤ 1
      → (q : Reason) → IsOfJobs jobs q → IsEarlier (rank_in jobs q) (1, u, m) → Out q
  before_change u m lower own few (RowIsLacking b) asked e = absurd asked.3
  before_change u m lower own few (BaseIsLarge b) asked e = absurd asked.3
  before_change u m lower own few (ChangeIsLarge w) asked e = ⊎_elim
      (λ l derived. (lower w l (source_among jobs asked.0 asked.1 asked.2 w asked.3) derived).counts)
      (λ k. counts_of u w k.0 (own k.1))
      (within_stage (1, w, 0) (1, u, m) refl e)
  before_change u m lower own few (ChangeHasNoValue w) asked e = ⊎_elim
      (λ l derived. (lower w l (source_among jobs asked.0 asked.1 asked.2 w asked.3) derived).sums)
      (λ k. absurd (let l : 1 < m = k.1 in omega arith))
      (within_stage (1, w, 1) (1, u, m) refl e)
  before_change u m lower own few (CompIsLarge w zs) asked e = absurd (past_stage (2, number_of jobs w, 0) (1, u, m) (omega arith) e)
  before_change u m lower own few (CompMeetsNoValue w zs) asked e = absurd (past_stage (2, number_of jobs w, 1) (1, u, m) (omega arith) e)
  before_change u m lower own few (PendingIsLarge w zs) asked e = absurd (past_stage (3, number_of jobs w, 0) (1, u, m) (omega arith) e)
  before_change u m lower own few (TableIsLarge w) asked e = absurd asked.3

  pub source_fault : (u j : ℕ) (job : Job) → slice_get jobs j ≡ Some job → has job.from u ≡ true → ((w : ℕ) → w < u → is_source jobs w ≡ true → CanBeFinished n.catalog s w)
      → (fault : MaintFault) → IsUnfinished n.catalog s u fault → (fault ≡ Memory) ⊎ IsWaveFault n place jobs fault
  source_fault u j job here among lower (Large w) f = inr (record {
    reason = ChangeIsLarge u;
    first = record { asked = (j, job, here, among); stands = λ out. f.1.1 (out f.0); earlier = before_change u 0 lower (λ l. absurd (below_itself 0 l)) (omega arith) };
    answer = ap Large f.1.0;
  })
  source_fault u j job here among lower (Range w) f = inr (record {
    reason = ChangeHasNoValue u;
    first = record { asked = (j, job, here, among); stands = λ out. f.1.2 (out f.0); earlier = before_change u 1 lower (λ l derived. f.1.1) (omega arith) };
    answer = ap Range f.1.0;
  })
  source_fault u j job here among lower Memory f = inl refl
  source_fault u j job here among lower (Absent w row) f = absurd f.1

  -- ---- jobs

  module _ (all : SourcesFinish n place jobs) where
    -- what is computed before a job of this number
    abbrev ComputedBelow : ℕ → Type 0
    ComputedBelow j = (i : ℕ) (other : Job) → i < j → slice_get jobs i ≡ Some other → Out (CompIsLarge other.view other.from) × Out (CompMeetsNoValue other.view other.from)

    module _ (j : ℕ) (job : Job) (here : slice_get jobs j ≡ Some job) where
      -- a reason of one of the jobs, with the number that it has
      its_number : (w : ℕ) (other : Job) (i : ℕ) → slice_get jobs i ≡ Some other → w ≡ other.view → number_of jobs w ≡ i
      its_number w other i there e = ap (number_of jobs) e ∙ number_is i other there

      before_comp : (m : ℕ) → ComputedBelow j → (0 < m → Out (CompIsLarge job.view job.from)) → m ≤ 1
          → (q : Reason) → IsOfJobs jobs q → IsEarlier (rank_in jobs q) (2, number_of jobs job.view, m) → Out q
      before_comp m below own few (RowIsLacking b) asked e = absurd asked.3
      before_comp m below own few (BaseIsLarge b) asked e = absurd asked.3
      before_comp m below own few (ChangeIsLarge w) asked e = λ derived. (all w (source_among jobs asked.0 asked.1 asked.2 w asked.3) derived).counts
      before_comp m below own few (ChangeHasNoValue w) asked e = λ derived. (all w (source_among jobs asked.0 asked.1 asked.2 w asked.3) derived).sums
      before_comp m below own few (CompIsLarge w zs) asked e =
          let i : ℕ = asked.0 in
          let other : Job = asked.1 in
          let a : number_of jobs w ≡ i = its_number w other i asked.2 asked.3.0 in
          let b : number_of jobs job.view ≡ j = number_is j job here in
          subst Out (λ t. CompIsLarge (sym asked.3.0 t) (sym asked.3.1 t)) (⊎_elim
          (λ l. (below i other (omega (arith, l, a, b)) asked.2).0)
          (λ k. let f = k.0 in let same : other ≡ job = same_job i j other job asked.2 here (omega (arith, f, a, b)) in subst (λ (x : Job). Out (CompIsLarge x.view x.from)) (sym same) (own k.1))
          (within_stage (2, number_of jobs w, 0) (2, number_of jobs job.view, m) refl e))
      before_comp m below own few (CompMeetsNoValue w zs) asked e =
          let i : ℕ = asked.0 in
          let other : Job = asked.1 in
          let a : number_of jobs w ≡ i = its_number w other i asked.2 asked.3.0 in
          let b : number_of jobs job.view ≡ j = number_is j job here in
          subst Out (λ t. CompMeetsNoValue (sym asked.3.0 t) (sym asked.3.1 t)) (⊎_elim
          (λ l. (below i other (omega (arith, l, a, b)) asked.2).1)
          (λ k. absurd (let l : 1 < m = k.1 in omega (arith, l, few)))
          (within_stage (2, number_of jobs w, 1) (2, number_of jobs job.view, m) refl e))
      before_comp m below own few (PendingIsLarge w zs) asked e = absurd (past_stage (3, number_of jobs w, 0) (2, number_of jobs job.view, m) (omega arith) e)
      before_comp m below own few (TableIsLarge w) asked e = absurd asked.3

      pub large_fault : (w : ℕ) → w ≡ job.view → ComputedBelow j → ¬ (Out (CompIsLarge job.view job.from)) → IsWaveFault n place jobs (Large w)
      large_fault w e below fails = record {
        reason = CompIsLarge job.view job.from;
        first = record { asked = (j, job, here, (refl, refl)); stands = fails; earlier = before_comp 0 below (λ l. absurd (below_itself 0 l)) (omega arith) };
        answer = ap Large e;
      }

      pub range_fault : (w : ℕ) → w ≡ job.view → ComputedBelow j → Out (CompIsLarge job.view job.from) → ¬ (Out (CompMeetsNoValue job.view job.from)) → IsWaveFault n place jobs (Range w)
      range_fault w e below few fails = record {
        reason = CompMeetsNoValue job.view job.from;
        first = record { asked = (j, job, here, (refl, refl)); stands = fails; earlier = before_comp 1 below (λ l. few) (omega arith) };
        answer = ap Range e;
      }

      -- ---- what is pending

      before_pending : ComputedBelow (length jobs) → ((i : ℕ) (other : Job) → i < j → slice_get jobs i ≡ Some other → Out (PendingIsLarge other.view other.from))
          → (q : Reason) → IsOfJobs jobs q → IsEarlier (rank_in jobs q) (3, number_of jobs job.view, 0) → Out q
      before_pending every below (RowIsLacking b) asked e = absurd asked.3
      before_pending every below (BaseIsLarge b) asked e = absurd asked.3
      before_pending every below (ChangeIsLarge w) asked e = λ derived. (all w (source_among jobs asked.0 asked.1 asked.2 w asked.3) derived).counts
      before_pending every below (ChangeHasNoValue w) asked e = λ derived. (all w (source_among jobs asked.0 asked.1 asked.2 w asked.3) derived).sums
      before_pending every below (CompIsLarge w zs) asked e =
          subst Out (λ t. CompIsLarge (sym asked.3.0 t) (sym asked.3.1 t)) (every asked.0 asked.1 (slice_get_within jobs asked.0 asked.1 asked.2) asked.2).0
      before_pending every below (CompMeetsNoValue w zs) asked e =
          subst Out (λ t. CompMeetsNoValue (sym asked.3.0 t) (sym asked.3.1 t)) (every asked.0 asked.1 (slice_get_within jobs asked.0 asked.1 asked.2) asked.2).1
      before_pending every below (PendingIsLarge w zs) asked e =
          let i : ℕ = asked.0 in
          let other : Job = asked.1 in
          let a : number_of jobs w ≡ i = its_number w other i asked.2 asked.3.0 in
          let b : number_of jobs job.view ≡ j = number_is j job here in
          subst Out (λ t. PendingIsLarge (sym asked.3.0 t) (sym asked.3.1 t)) (⊎_elim
          (λ l. below i other (omega (arith, l, a, b)) asked.2)
          (λ k. absurd (below_itself 0 k.1))
          (within_stage (3, number_of jobs w, 0) (3, number_of jobs job.view, 0) refl e))
      before_pending every below (TableIsLarge w) asked e = absurd asked.3

      pub pending_fault : (w : ℕ) → w ≡ job.view → ComputedBelow (length jobs) → ((i : ℕ) (other : Job) → i < j → slice_get jobs i ≡ Some other → Out (PendingIsLarge other.view other.from))
          → ¬ (Out (PendingIsLarge job.view job.from)) → IsWaveFault n place jobs (Large w)
      pending_fault w e every below fails = record {
        reason = PendingIsLarge job.view job.from;
        first = record { asked = (j, job, here, (refl, refl)); stands = fails; earlier = before_pending every below };
        answer = ap Large e;
      }
