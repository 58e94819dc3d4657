-- Why a night is refused that could begin: by its base changes, or in the first of its stages that is refused.
use Rattle.std.specs.Prelude.{◌≡◌, ◌⊎◌, ◌==◌, ℕ, suc, Bool, if◌then◌else◌, List, [], ◌∷◌, ◌++◌, slice_get, Some}
use Rattle.wh_strategy.specs.declared.expression.Expression.TheVariants.{Inst}
use Rattle.wh_maint.specs.declared.fault.MaintFault.{MaintFault}
use Rattle.wh_maint.specs.declared.fault.MaintFault.TheVariants.{Memory}
use Rattle.wh_carry.specs.declared.stages.Job.{Job}
use Rattle.wh_carry.specs.declared.stages.Stage.{Stage}
use Rattle.wh_carry.specs.declared.stages.Stage.TheVariants as stage
use Rattle.wh_carry.specs.Refused.{ArePassedBelow, IsBaseFault, IsAnswer, IsEarlier, IsFirstReason, IsOf, IsStepFault, Reason, RowIsLacking, BaseIsLarge, ChangeIsLarge, ChangeHasNoValue, CompIsLarge, CompMeetsNoValue, PendingIsLarge, TableIsLarge}
use Rattle.wh_carry.specs.Waves.{comp_of, stages_of}
use Rattle.wh_carry.specs.Night.{Night, state_at, AreAllowed}
use Rattle.wh_carry.specs.Stages.{place_behind}
use Rattle.wh_night.specs.declared.left.Aftermath.{Aftermath}
use Rattle.wh_night.specs.declared.left.Aftermath.TheVariants.{Untouched, GivenUp, StillOpen}
use Rattle.wh_night.specs.declared.left.NightFault.{NightFault}
use Rattle.wh_night.specs.Causes.{cause_of}

-- how many of these jobs stand before the one of this view
abbrev pub number_of : List Job → ℕ → ℕ
number_of [] v = 0
number_of (job ∷ jobs) v = if job.view == v then 0 else suc (number_of jobs v)

-- The turn of a reason in a wave, as three numbers again. The changes of sources come first, by rising number of the view; then what each
-- job computes, in the order of the jobs. Then comes what is pending with it, in that order too
abbrev pub rank_in : List Job → Reason → ℕ × ℕ × ℕ
rank_in jobs (RowIsLacking v) = (0, v, 0)
rank_in jobs (BaseIsLarge v) = (0, v, 1)
rank_in jobs (ChangeIsLarge v) = (1, v, 0)
rank_in jobs (ChangeHasNoValue v) = (1, v, 1)
rank_in jobs (CompIsLarge v ys) = (2, number_of jobs v, 0)
rank_in jobs (CompMeetsNoValue v ys) = (2, number_of jobs v, 1)
rank_in jobs (PendingIsLarge v ys) = (3, number_of jobs v, 0)
rank_in jobs (TableIsLarge v) = (4, v, 0)

abbrev pub ComesBeforeIn : List Job → Reason → Reason → Type 0
ComesBeforeIn jobs reason other = IsEarlier (rank_in jobs reason) (rank_in jobs other)

-- one of these jobs can be refused for this reason
abbrev pub IsOfJobs : List Job → Reason → Type 0
IsOfJobs jobs reason = (j : ℕ) × (job : Job) × (slice_get jobs j ≡ Some job) × IsOf (comp_of job) reason

-- the wave that begins at this place is refused, for the first reason of all its jobs
pub record IsWaveFault (n : Night) (place : ℕ) (jobs : List Job) (fault : MaintFault) : Type 0 where
  pub reason : Reason
  pub first : IsFirstReason n.catalog n.changes (state_at n place) (IsOfJobs jobs) (ComesBeforeIn jobs) reason
  pub answer : IsAnswer (state_at n place).tables n.changes reason fault

-- the stage that begins at this place is refused
abbrev pub IsStageFault : Night → ℕ → Stage → MaintFault → Type 0
IsStageFault n place (stage.Wave jobs) fault = IsWaveFault n place jobs fault
IsStageFault n place (stage.Inst v) fault = IsStepFault n.catalog n.changes (state_at n place) (Inst v) fault

-- all expressions of the stages before are passed, and this stage is refused
pub record IsFirstStageFault (n : Night) (fault : MaintFault) : Type 0 where
  pub before : List Stage
  pub refused : Stage
  pub after : List Stage
  pub split : stages_of n.list ≡ before ++ refused ∷ after
  pub passed : ArePassedBelow n.catalog n.list n.tables n.changes (place_behind before)
  pub is : IsStageFault n (place_behind before) refused fault

-- before anything is published a base change is refused; after it, once all base changes were allowed, a stage is
abbrev pub IsRefusedSo : Night → Aftermath → MaintFault → Type 0
IsRefusedSo n Untouched fault = IsBaseFault n.catalog n.tables n.changes fault
IsRefusedSo n GivenUp fault = AreAllowed n × IsFirstStageFault n fault
IsRefusedSo n StillOpen fault = AreAllowed n × IsFirstStageFault n fault

-- what a refused night leaves, by whether it had begun
abbrev pub left_of : Bool → Aftermath
left_of started = if started then GivenUp else Untouched

-- why a night is refused that can begin: for want of memory, which may come at any point, or so
pub record IsRefused (n : Night) (f : NightFault) : Type 0 where
  pub fault : MaintFault
  pub told : f.cause ≡ cause_of fault
  pub why : (fault ≡ Memory) ⊎ IsRefusedSo n f.left fault
