use Rattle.std.proofs.Common.{ℕ, ◌<◌}
use Rattle.wh_maint.specs.Comp.{bag_at}
use Rattle.wh_maint.specs.Finishing.{kind_in}
use Rattle.wh_maint.specs.Fit.{IsFitTable}
use Rattle.wh_carry.proofs.fit.are_fit.Given as goal

abbrev pub invariant-loop-view : goal.invariant-loop-view
invariant-loop-view g l = (v : ℕ) → v < l.view → IsFitTable (kind_in l.catalog v) (bag_at l.tables v)
