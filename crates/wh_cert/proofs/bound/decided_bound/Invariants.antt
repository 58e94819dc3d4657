use Rattle.std.proofs.Common.{◌≡◌, ◌≤◌, ◌*◌, ◌^◌}
use Rattle.wh_dag.specs.Shape.{children_of}
use Rattle.wh_strategy.specs.Sizes.{sizes_of}
use Rattle.wh_strategy.specs.Sums.{sum_below}
use Rattle.wh_cert.specs.Bound.{decided_value, rows_by}
use Rattle.wh_cert.proofs.bound.decided_bound.Given as goal

abbrev pub invariant-loop-view : goal.invariant-loop-view
invariant-loop-view l = record {
  rows : l.rows ≡ sum_below (λ v. rows_by (decided_value (sizes_of l.sizes) l.decisions) (sizes_of l.sizes) (children_of l.shape.children v)) l.view;
  changes : l.changes ≡ sum_below (λ v. (sizes_of l.sizes v).change) l.view;
  small : l.rows ≤ l.view * 2 ^ 58;
  low : l.changes ≤ l.view * 2 ^ 50;
}
