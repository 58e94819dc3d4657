use Rattle.std.proofs.Common.{◌≡◌, ℕ, ◌<◌, cond, take}
use Rattle.wh_dag.specs.Catalog.{is_base}
use Rattle.wh_row.specs.Bag.{empty}
use Rattle.wh_maint.specs.Comp.{bag_at}
use Rattle.wh_carry.specs.Inner.Kept.{AreFirstParts}
use Rattle.wh_carry.proofs.state.NightState.over.Given as goal

abbrev pub invariant-loop-view : goal.invariant-loop-view
invariant-loop-view g l =
    record {
      parts : AreFirstParts l.catalog l.view (record l.state { tables = take l.view l.state.tables });
      tables : l.state.tables ≡ l.fn.tables.items;
      changes : (v : ℕ) → v < l.view → bag_at l.state.changes v ≡ cond (is_base l.catalog v) (bag_at l.changes v) empty;
    }
