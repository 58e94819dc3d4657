use Rattle.std.proofs.Common.{suc}
use Rattle.wh_maint.specs.Comp.{bag_at}
use Rattle.wh_maint.specs.Inner.Finishing.{AreMade, stands_within}
use Rattle.wh_maint.proofs.finished.summary_change.Given as goal

abbrev pub invariant-loop-number : goal.invariant-loop-number
invariant-loop-number l = AreMade l.fn.sums l.fn.table (bag_at l.fn.pending.columns) (stands_within (suc l.number) (bag_at l.fn.pending.columns)) l.change
