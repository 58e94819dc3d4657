-- Where carrying out stands at a place of a night.
use Rattle.std.specs.Prelude.{◌≡◌, ℕ, ◌<◌, Bool, List, Some, slice_get, length}
use Rattle.std.specs.List.{list_any}
use Rattle.wh_dag.specs.Shape.{has}
use Rattle.wh_carry.specs.declared.stages.Job.{Job}
use Rattle.wh_dag.specs.Catalog.{CatalogOf}
use Rattle.wh_carry.specs.Waves.{comp_of}
use Rattle.wh_carry.specs.declared.stages.Stage.{Stage}
use Rattle.wh_carry.specs.declared.stages.Stage.TheVariants as stage
use Rattle.wh_carry.specs.Kept.{IsExpressionOf}

-- one of these jobs is from the view
abbrev pub is_source : List Job → ℕ → Bool
is_source jobs u = list_any (λ (job : Job). has job.from u) jobs

-- ---- stages

-- the jobs of a stage are Comps of the catalogue's views, or its view is one of them
abbrev pub IsStageIn : CatalogOf → Stage → Type 0
IsStageIn catalog (stage.Wave jobs) = (j : ℕ) (job : Job) → slice_get jobs j ≡ Some job → IsExpressionOf catalog (comp_of job)
IsStageIn catalog (stage.Inst v) = v < length catalog.views.children
