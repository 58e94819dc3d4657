use Rattle.wh_maint.proofs.NewSums.{AreTold, HaveFit}
use Rattle.wh_maint.proofs.column.fit.Given as goal

abbrev pub invariant-loop-row : goal.invariant-loop-row
invariant-loop-row l =
    record {
      next : (goal.iterator-loop-row).can_next l.row-iterator × (goal.iterator-loop-row).is_finite l.row-iterator;
      told : AreTold l.others l.row-iterator;
      fit : HaveFit l.sums l.others l.row-iterator;
    }
