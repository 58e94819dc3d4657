use Rattle.std.proofs.Common.{◌≡◌, ◌≤◌, ◌+◌, ◌*◌, drop}
use Rattle.wh_dag.specs.Catalog.{total_width}
use Rattle.wh_dag.proofs.fitting.total_width.Given as goal

abbrev pub invariant-loop-view : goal.invariant-loop-view
invariant-loop-view l = record {
  sum : l.total + total_width l.widths (drop l.view-index l.views) ≡ total_width l.widths l.views;
  small : l.total ≤ 64 * l.view-index;
}
