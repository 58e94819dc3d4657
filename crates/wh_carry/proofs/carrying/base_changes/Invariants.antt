use Rattle.wh_maint.specs.Comp.{bag_at}
use Rattle.wh_carry.specs.Refused.{AreAllowedBelow}
use Rattle.wh_carry.proofs.carrying.base_changes.Given as goal

abbrev pub invariant-loop-view : goal.invariant-loop-view
invariant-loop-view g l = AreAllowedBelow l.catalog (bag_at l.tables) (bag_at l.changes) l.view
