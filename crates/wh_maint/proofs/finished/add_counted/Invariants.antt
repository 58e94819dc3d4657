use Rattle.wh_maint.specs.Comp.{bag_at}
use Rattle.wh_maint.specs.Inner.Finishing.{AreMade}
use Rattle.wh_maint.proofs.DoneGroups.{AreRest, done_at}
use Rattle.wh_maint.proofs.finished.add_counted.Given as goal

abbrev pub invariant-loop-group : goal.invariant-loop-group
invariant-loop-group l =
    record {
      next : (goal.iterator-loop-group).can_next l.group-iterator × (goal.iterator-loop-group).is_finite l.group-iterator;
      rest : AreRest (bag_at l.fn.pending.columns 0) l.group-iterator;
      made : AreMade l.fn.sums l.fn.table (bag_at l.fn.pending.columns) (done_at 0 (bag_at l.fn.pending.columns) l.group-iterator) l.change;
    }
