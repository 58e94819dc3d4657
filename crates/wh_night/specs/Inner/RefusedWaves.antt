-- Why the jobs of a wave are not computed: what only proofs and private contracts use.
use Rattle.std.specs.Prelude.{◌≡◌, ℕ, List, Some, slice_get}
use Rattle.wh_dag.specs.Catalog.{CatalogOf}
use Rattle.wh_maint.specs.Comp.{PendingOf}
use Rattle.wh_maint.specs.declared.fault.MaintFault.{MaintFault}
use Rattle.wh_carry.specs.declared.stages.Job.{Job}
use Rattle.wh_carry.specs.Kept.{AreKnown, IsExpressionOf, Kept}
use Rattle.wh_carry.specs.Refused.{IsCompFaultIn}
use Rattle.wh_carry.specs.Waves.{comp_of}
use Rattle.wh_night.specs.Underway.{IsAdded}

-- the job can be run: it is a Comp of the catalogue, and the changes of its sources are known
abbrev pub IsReady : CatalogOf → Kept → Job → Type 0
IsReady catalog k job = IsExpressionOf catalog (comp_of job) × AreKnown k job.from

-- the job of this number adds this
abbrev pub IsAddedAt : CatalogOf → Kept → List Job → ℕ → PendingOf → Type 0
IsAddedAt catalog k jobs number added = (job : Job) → slice_get jobs number ≡ Some job → IsAdded catalog k job added

-- the job of this number is refused for this
abbrev pub IsRefusedAt : CatalogOf → Kept → List Job → ℕ → MaintFault → Type 0
IsRefusedAt catalog k jobs number fault = (job : Job) → slice_get jobs number ≡ Some job → IsCompFaultIn catalog k job.view job.from fault
