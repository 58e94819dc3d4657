use Rattle.std.proofs.Common.{◌≡◌, ◌≤◌, ◌*◌, ◌^◌}
use Rattle.wh_strategy.specs.Sums.{sum_below}
use Rattle.wh_cert.specs.Inner.Bound.{more_under}
use Rattle.wh_cert.proofs.bound.more_rows.Given as goal

abbrev pub invariant-loop-view : goal.invariant-loop-view
invariant-loop-view l = record {
  value : l.rows ≡ sum_below (more_under l.children l.first l.second l.more) l.view;
  small : l.rows ≤ l.view * 2 ^ 52;
}
