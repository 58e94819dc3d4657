use Rattle.std.proofs.Common.{◌≢◌, ◌↔◌, []}
use Rattle.wh_row.specs.Bag.{empty}
use Rattle.wh_maint.specs.Fit.{IsSummaryTable}
use Rattle.wh_maint.proofs.FitTests.{RowsAreApart}
use Rattle.wh_maint.proofs.asked.is_summary_table.Given as goal

abbrev pub invariant-loop-row : goal.invariant-loop-row
invariant-loop-row l =
    record {
      next : (goal.iterator-loop-row).can_next l.row-iterator × (goal.iterator-loop-row).is_finite l.row-iterator;
      some : l.row-iterator ≢ [] → l.fn.table ≢ empty;
      left : IsSummaryTable l.fn.sums l.fn.table ↔ RowsAreApart l.fn.sums l.row-iterator l.seen;
    }
