-- Where a machine stands after what was done: what only proofs and private contracts use.
use Rattle.std.specs.Prelude.{List, [], ◌∷◌, Option, Some, None}
use Rattle.wh_maint.specs.declared.fault.MaintFault.{MaintFault}
use Rattle.wh_store.specs.declared.operation.Op.{Op}
use Rattle.wh_carry.specs.declared.course.Part.{Part}
use Rattle.wh_carry.specs.declared.course.Part.TheVariants as part
use Rattle.wh_carry.specs.Legs.{Wave, Page}
use Rattle.wh_core.specs.declared.machine.Machine.{Machine}
use Rattle.wh_core.specs.Log.{Log}
use Rattle.wh_core.specs.Nights.{Setup}
use Rattle.wh_core.specs.Laws.{IsSetup}
use Rattle.wh_core.specs.Standing.{Stands}

-- what becomes of the jobs of the wave that is the first part, and the operation that puts the page which is
abbrev pub wave_in : List Part → Option (List (Option MaintFault))
wave_in [] = None
wave_in (part.Wave outcomes ∷ parts) = Some outcomes.items
wave_in (part.Page op ∷ parts) = None

abbrev pub page_in : List Part → Option Op
page_in [] = None
page_in (part.Wave outcomes ∷ parts) = None
page_in (part.Page op ∷ parts) = Some op

-- some legal run leaves it so
pub record IsRunning (m : Machine) : Type 0 where
  pub setup : Setup
  pub log : Log
  pub is_setup : IsSetup setup
  pub stands : Stands setup log m
