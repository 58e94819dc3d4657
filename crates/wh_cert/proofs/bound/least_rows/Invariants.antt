use Rattle.std.proofs.Common.{◌≡◌, ◌≤◌, ◌*◌, ◌^◌, ◌+◌, take, drop}
use Rattle.std.specs.List.{sum_by}
use Rattle.wh_strategy.specs.Sizes.{sizes_of}
use Rattle.wh_cert.specs.Bound.{sum_pairs, decided_value}
use Rattle.wh_cert.proofs.bound.least_rows.Given as goal

abbrev pub invariant-loop-i : goal.invariant-loop-i
invariant-loop-i l = record {
  changes : l.changes ≡ sum_by (λ u. (sizes_of l.sizes u).change) (take l.i l.children);
  pairs : l.values + sum_pairs (decided_value (sizes_of l.sizes) l.decided) (drop l.i l.children) ≡ sum_pairs (decided_value (sizes_of l.sizes) l.decided) l.children;
  low : l.changes ≤ l.i * 2 ^ 50;
  small : l.values ≤ l.i * 2 ^ 54;
}
