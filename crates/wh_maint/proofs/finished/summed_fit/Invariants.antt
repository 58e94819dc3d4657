use Rattle.std.proofs.Common.{suc}
use Rattle.wh_maint.specs.Comp.{bag_at}
use Rattle.wh_maint.proofs.CountsChecked.{AreChecked}
use Rattle.wh_maint.proofs.finished.summed_fit.Given as goal

abbrev pub invariant-loop-group : goal.invariant-loop-group
invariant-loop-group l =
    record {
      next : (goal.iterator-loop-group).can_next l.group-iterator × (goal.iterator-loop-group).is_finite l.group-iterator;
      checked : AreChecked l.fn.sums l.fn.table (bag_at l.fn.pending.columns) (bag_at l.fn.pending.columns (suc l.fn.number)) l.group-iterator;
    }
