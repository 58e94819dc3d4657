use Rattle.std.proofs.Common.{ℕ, suc, ◌<◌}
use Rattle.wh_maint.specs.Comp.{bag_at}
use Rattle.wh_maint.specs.Inner.Finishing.{CountsFitIn}
use Rattle.wh_maint.proofs.finished.new_counts_fit.Given as goal

abbrev pub invariant-loop-number : goal.invariant-loop-number
invariant-loop-number l = (j : ℕ) → j < suc l.number → CountsFitIn l.fn.sums l.fn.table (bag_at l.fn.pending.columns) j
