use Rattle.std.proofs.Common.{◌≡◌, false}
use Rattle.wh_maint.specs.Comp.{bag_at}
use Rattle.wh_maint.specs.Inner.Finishing.{stands_within}
use Rattle.wh_maint.proofs.group_change.stands_within.Given as goal

abbrev pub invariant-loop-column : goal.invariant-loop-column
invariant-loop-column l = stands_within l.column (bag_at l.fn.pending.columns) l.fn.group ≡ false
