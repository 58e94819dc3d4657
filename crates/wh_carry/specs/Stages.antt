-- What stages of a list are, said of them alone.
use Rattle.std.specs.Prelude.{◌≡◌, ◌≢◌, ℕ, true, false, List, [], ◌∷◌, ◌++◌, map, length}
use Rattle.std.specs.List.{flat_map}
use Rattle.wh_strategy.specs.declared.expression.Expression.{Expression}
use Rattle.wh_strategy.specs.Rules.{IsCorrect}
use Rattle.wh_carry.specs.declared.stages.Job.{Job}
use Rattle.wh_carry.specs.declared.stages.Stage.{Stage}
use Rattle.wh_carry.specs.declared.stages.Stage.TheVariants as stage
use Rattle.wh_carry.specs.AnyOrder.{AreSideBySide, expressions_from}
use Rattle.wh_carry.specs.Waves.{comp_of, expressions_of, is_target_among, stages_of}

-- The expressions of the stages, joined, are the list. Each wave has a job, and no job is from a view that an earlier one of its wave
-- computes. Waves are as long as can be: where one follows another, its first job is from a view that the other computes
pub record AreStages (list : List Expression) (stages : List Stage) : Type 0 where
  pub joined : flat_map expressions_of stages ≡ list
  pub filled : (before after : List Stage) (jobs : List Job) → stages ≡ before ++ stage.Wave jobs ∷ after → jobs ≢ []
  pub apart : (before after : List Stage) (earlier later : List Job) (job : Job) → stages ≡ before ++ stage.Wave (earlier ++ job ∷ later) ∷ after
      → is_target_among job.from earlier ≡ false
  pub long : (before after : List Stage) (jobs next : List Job) (job : Job) → stages ≡ before ++ stage.Wave jobs ∷ stage.Wave (job ∷ next) ∷ after
      → is_target_among job.from jobs ≡ true

-- the stages of a list are the only ones
abbrev pub ListsHaveOneStages : Type 0
ListsHaveOneStages = (list : List Expression) → AreStages list (stages_of list) × ((stages : List Stage) → AreStages list stages → stages ≡ stages_of list)

-- where a list of stages ends
abbrev pub place_behind : List Stage → ℕ
place_behind stages = length (flat_map expressions_of stages)

-- in a correct list the jobs of a wave stand side by side: none is from a view that a job of the wave computes
abbrev pub WavesAreSideBySide : Type 0
WavesAreSideBySide =
    (shape : List (List ℕ)) (list : List Expression) → IsCorrect shape list
    → (before after : List Stage) (jobs : List Job) → stages_of list ≡ before ++ stage.Wave jobs ∷ after
    → (expressions_from list (place_behind before) (length jobs) ≡ map comp_of jobs) × AreSideBySide list (place_behind before) (length jobs)
