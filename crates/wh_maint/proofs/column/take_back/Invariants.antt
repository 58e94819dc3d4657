use Rattle.wh_maint.proofs.NewSums.{AreTold, AreBeingTaken}
use Rattle.wh_maint.proofs.column.take_back.Given as goal

abbrev pub invariant-loop-row : goal.invariant-loop-row
invariant-loop-row l =
    record {
      next : (goal.iterator-loop-row).can_next l.row-iterator × (goal.iterator-loop-row).is_finite l.row-iterator;
      told : AreTold l.new l.row-iterator;
      taking : AreBeingTaken l.fn.sums l.new l.sums l.row-iterator;
    }
