use Rattle.wh_maint.proofs.FoundRow.{IsSought}
use Rattle.wh_maint.proofs.group_change.old_row.Given as goal

abbrev pub invariant-loop-row : goal.invariant-loop-row
invariant-loop-row l =
    record {
      next : (goal.iterator-loop-row).can_next l.row-iterator × (goal.iterator-loop-row).is_finite l.row-iterator;
      sought : IsSought l.fn.sums l.fn.table l.fn.group l.row-iterator;
    }
