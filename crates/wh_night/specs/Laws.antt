-- That a night is refused for one reason at most.
use Rattle.std.specs.Prelude.{◌≡◌, ◌≢◌, ◌↔◌, length}
use Rattle.wh_dag.specs.Catalog.{IsCatalog}
use Rattle.wh_strategy.specs.Rules.{IsCorrect}
use Rattle.wh_maint.specs.declared.fault.MaintFault.{MaintFault}
use Rattle.wh_maint.specs.declared.fault.MaintFault.TheVariants.{Memory}
use Rattle.wh_carry.specs.Refused.{ArePassedBelow}
use Rattle.wh_carry.specs.Night.{Night, AreAllowed}
use Rattle.wh_night.specs.declared.left.Aftermath.{Aftermath}
use Rattle.wh_night.specs.declared.left.Aftermath.TheVariants.{Untouched}
use Rattle.wh_night.specs.Refusals.{IsRefusedSo}

-- Memory aside, two refusals of a night of a correct strategy are one, and come both before anything is published or both after it. There
-- is none where each base change is allowed and each expression is passed
pub record OneRefusal (n : Night) : Type 0 where
  pub one : (left other : Aftermath) (f g : MaintFault) → IsRefusedSo n left f → IsRefusedSo n other g → f ≢ Memory → g ≢ Memory
      → (f ≡ g) × ((left ≡ Untouched) ↔ (other ≡ Untouched))
  pub none : AreAllowed n → ArePassedBelow n.catalog n.list n.tables n.changes (length n.list) → (left : Aftermath) (f : MaintFault) → IsRefusedSo n left f → f ≡ Memory

abbrev pub NightsHaveOneRefusal : Type 0
NightsHaveOneRefusal = (n : Night) → IsCatalog n.catalog → IsCorrect n.catalog.views.children n.list → OneRefusal n
