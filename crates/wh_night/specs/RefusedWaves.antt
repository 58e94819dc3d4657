-- Why the jobs of a wave are not computed.
use Rattle.std.specs.Prelude.{◌≡◌, ◌≢◌, ◌⊎◌, List, []}
use Rattle.wh_dag.specs.Catalog.{CatalogOf}
use Rattle.wh_maint.specs.declared.fault.MaintFault.{MaintFault}
use Rattle.wh_maint.specs.declared.fault.MaintFault.TheVariants.{Memory}
use Rattle.wh_carry.specs.declared.stages.Job.{Job}
use Rattle.wh_carry.specs.Kept.{Kept}
use Rattle.wh_night.specs.Underway.{IsFirstUncomputed}

-- the jobs of a wave are refused: for want of memory, where there is a job, or because the first job that cannot be computed is refused
abbrev pub IsRefusedWave : CatalogOf → Kept → List Job → MaintFault → Type 0
IsRefusedWave catalog k jobs fault = ((fault ≡ Memory) × (jobs ≢ [])) ⊎ IsFirstUncomputed catalog k jobs fault
