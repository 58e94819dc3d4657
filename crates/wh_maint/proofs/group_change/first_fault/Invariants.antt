use Rattle.std.proofs.Common.{ℕ, suc, ◌<◌, FitsSigned}
use mir.Syntax.{w64}
use Rattle.wh_maint.specs.Inner.Finishing.{cell_after}
use Rattle.wh_maint.proofs.group_change.first_fault.Given as goal

abbrev pub invariant-loop-number : goal.invariant-loop-number
invariant-loop-number l = record { fit : (j : ℕ) → j < l.number → FitsSigned w64 (cell_after l.fn.sums l.fn.pending.columns l.fn.old l.fn.group (suc j)) }
