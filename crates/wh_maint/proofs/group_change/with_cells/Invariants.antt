use Rattle.std.proofs.Common.{◌≡◌, ℕ, suc, ◌<◌, ◌++◌, map, FitsSigned}
use mir.Syntax.{w64}
use Rattle.std.specs.List.{range_with_len}
use Rattle.wh_maint.specs.Inner.Finishing.{cell_after}
use Rattle.wh_maint.proofs.group_change.with_cells.Given as goal

abbrev pub invariant-loop-number : goal.invariant-loop-number
invariant-loop-number l =
    record {
      cells : l.row.items ≡ l.fn.group ++ map (cell_after l.fn.sums l.fn.pending.columns l.fn.old l.fn.group) (range_with_len 0 (suc l.number));
      fit : (j : ℕ) → j < l.number → FitsSigned w64 (cell_after l.fn.sums l.fn.pending.columns l.fn.old l.fn.group (suc j));
    }
