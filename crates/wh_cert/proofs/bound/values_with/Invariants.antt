use Rattle.std.proofs.Common.{◌≡◌, ◌≤◌, ◌*◌, ◌^◌, take}
use Rattle.std.specs.List.{sum_by}
use Rattle.wh_strategy.specs.Sizes.{sizes_of}
use Rattle.wh_cert.specs.Bound.{decided_value}
use Rattle.wh_cert.proofs.bound.values_with.Given as goal

abbrev pub invariant-loop-other : goal.invariant-loop-other
invariant-loop-other l = record {
  sum : l.total ≡ sum_by (decided_value (sizes_of l.sizes) l.decided l.view) (take l.other-index l.others);
  small : l.total ≤ l.other-index * 2 ^ 51;
}
