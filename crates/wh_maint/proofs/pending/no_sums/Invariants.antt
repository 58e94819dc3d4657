use Rattle.std.proofs.Common.{◌≡◌, map}
use Rattle.std.specs.List.{range_with_len}
use Rattle.wh_row.specs.Bag.{empty}
use Rattle.wh_maint.proofs.pending.no_sums.Given as goal

abbrev pub invariant-loop-number : goal.invariant-loop-number
invariant-loop-number l = l.none.items ≡ map (λ _. empty) (range_with_len 0 l._number)
