-- The stages of a strategy: Comps that can run side by side, and Insts.
use Rattle.std.specs.Prelude.{ℕ, Bool, if◌then◌else◌, List, [], ◌∷◌, ◌++◌, map}
use Rattle.std.specs.List.{list_any}
use Rattle.wh_dag.specs.Shape.{has}
use Rattle.wh_strategy.specs.declared.expression.Expression.{Expression}
use Rattle.wh_strategy.specs.declared.expression.Expression.TheVariants.{Comp, Inst}
use Rattle.wh_carry.specs.declared.stages.Job.{Job}
use Rattle.wh_carry.specs.declared.stages.Stage.{Stage}
use Rattle.wh_carry.specs.declared.stages.Stage.TheVariants as stage

-- the Comp that a job is
abbrev pub comp_of : Job → Expression
comp_of job = Comp job.view job.from

-- the expressions of a stage, in the order of the strategy
abbrev pub expressions_of : Stage → List Expression
expressions_of (stage.Wave jobs) = map comp_of jobs
expressions_of (stage.Inst v) = Inst v ∷ []

-- one of these views is the target of one of these jobs
abbrev pub is_target_among : List ℕ → List Job → Bool
is_target_among views jobs = list_any (λ (job : Job). has views job.view) jobs

-- the wave of these jobs, none where there is no job
abbrev pub wave_of : List Job → List Stage
wave_of [] = []
wave_of (job ∷ jobs) = stage.Wave (job ∷ jobs) ∷ []

-- The stages of a list, where a wave of these jobs is open. An Inst ends it and is a stage of its own. A Comp joins it, unless it is from a
-- view that a job of it computes; then it opens the next wave
unfoldable pub stages_after : List Job → List Expression → List Stage
stages_after jobs [] = wave_of jobs
stages_after jobs (Inst v ∷ list) = wave_of jobs ++ stage.Inst v ∷ stages_after [] list
stages_after jobs (Comp v ys ∷ list) =
    if is_target_among ys jobs then wave_of jobs ++ stages_after (record { view = v; from = ys } ∷ []) list else stages_after (jobs ++ record { view = v; from = ys } ∷ []) list

-- the stages of a list of expressions
abbrev pub stages_of : List Expression → List Stage
stages_of list = stages_after [] list
