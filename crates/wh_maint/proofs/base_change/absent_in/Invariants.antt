use Rattle.wh_row.specs.Row.{AreRising}
use Rattle.wh_maint.proofs.FirstAbsent.{rows_of, AreTold, NonePassed}
use Rattle.wh_maint.proofs.base_change.absent_in.Given as goal

abbrev pub invariant-loop-row : goal.invariant-loop-row
invariant-loop-row l =
    record {
      next : (goal.iterator-loop-row).can_next l.row-iterator × (goal.iterator-loop-row).is_finite l.row-iterator;
      rising : AreRising (rows_of l.row-iterator);
      told : AreTold l.fn.bag l.row-iterator;
      none : NonePassed l.fn.bag l.fn.other l.row-iterator;
    }
