use Rattle.wh_row.specs.Row.{AreRising}
use Rattle.wh_maint.proofs.FirstAbsent.{rows_of}
use Rattle.wh_maint.proofs.NewSums.{AreTold, HaveComeBy}
use Rattle.wh_maint.proofs.taken.add_each_row.Given as goal

abbrev pub invariant-loop-row : goal.invariant-loop-row
invariant-loop-row l =
    record {
      next : (goal.iterator-loop-row).can_next l.row-iterator × (goal.iterator-loop-row).is_finite l.row-iterator;
      told : AreTold l.others l.row-iterator;
      rising : AreRising (rows_of l.row-iterator);
      come : HaveComeBy l.fn.sums l.others l.sums l.row-iterator;
    }
