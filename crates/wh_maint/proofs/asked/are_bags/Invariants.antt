use Rattle.std.proofs.Common.{ℕ, ◌<◌}
use Rattle.wh_row.specs.Bag.{HasWidth}
use Rattle.wh_dag.specs.Catalog.{width_of}
use Rattle.wh_maint.specs.Comp.{bag_at}
use Rattle.wh_maint.proofs.asked.are_bags.Given as goal

abbrev pub invariant-loop-view : goal.invariant-loop-view
invariant-loop-view g l = (u : ℕ) → u < l.view → HasWidth (bag_at l.fn.bags u) (width_of l.fn.catalog u)
