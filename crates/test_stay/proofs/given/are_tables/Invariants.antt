use Rattle.std.proofs.Common.{ℕ, ◌<◌}
use Rattle.wh_row.specs.Bag.{IsTable}
use Rattle.wh_maint.specs.Comp.{bag_at}
use Rattle.test_stay.proofs.given.are_tables.Given as goal

abbrev pub invariant-loop-view : goal.invariant-loop-view
invariant-loop-view l = (v : ℕ) → v < l.view → IsTable (bag_at l.fn.tables v)
