-- Where a night has come to: what is carried out, reported and published.
use Rattle.std.specs.Prelude.{◌≡◌, ℕ, ◌<◌, true, List, Some, length, slice_get}
use Rattle.wh_dag.specs.Shape.{children_of}
use Rattle.wh_dag.specs.Catalog.{CatalogOf, definition_of}
use Rattle.wh_maint.specs.Comp.{PendingOf, comp_columns}
use Rattle.wh_maint.specs.Definition.{view_of}
use Rattle.wh_maint.specs.declared.fault.MaintFault.{MaintFault}
use Rattle.wh_carry.specs.declared.stages.Job.{Job}
use Rattle.wh_carry.specs.Kept.{Kept, IsPendingIn}
use Rattle.wh_carry.specs.Refused.{CanBeComputed, IsCompFaultIn}
use Rattle.wh_carry.specs.Standing.{is_source}

-- ---- jobs

-- this job can be computed
abbrev pub CanCompute : CatalogOf → Kept → Job → Type 0
CanCompute catalog k job = CanBeComputed (view_of (definition_of catalog job.view)) (children_of catalog.views.children job.view) job.from k.tables k.changes

-- this is what the job adds
pub record IsAdded (catalog : CatalogOf) (k : Kept) (job : Job) (added : PendingOf) : Type 0 where
  pub is_in : IsPendingIn catalog job.view added
  pub value : added.columns ≡ comp_columns (view_of (definition_of catalog job.view)) (children_of catalog.views.children job.view) job.from k.tables k.changes
  pub can : CanCompute catalog k job

-- these are what the jobs add, one for each
pub record AreAdded (catalog : CatalogOf) (k : Kept) (jobs : List Job) (added : List PendingOf) : Type 0 where
  pub each : length added ≡ length jobs
  pub are : (j : ℕ) (job : Job) (p : PendingOf) → slice_get jobs j ≡ Some job → slice_get added j ≡ Some p → IsAdded catalog k job p

-- the first of these jobs that cannot be computed is refused for this
pub record IsFirstUncomputed (catalog : CatalogOf) (k : Kept) (jobs : List Job) (fault : MaintFault) : Type 0 where
  pub number : ℕ
  pub job : Job
  pub there : slice_get jobs number ≡ Some job
  pub earlier : (j : ℕ) (other : Job) → j < number → slice_get jobs j ≡ Some other → CanCompute catalog k other
  pub refused : IsCompFaultIn catalog k job.view job.from fault

-- the changes of all sources of these jobs are known
abbrev pub SourcesAreKnown : Kept → List Job → Type 0
SourcesAreKnown k jobs = (u : ℕ) → is_source jobs u ≡ true → k.known u ≡ true
