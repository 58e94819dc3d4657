use Rattle.std.proofs.Common.{◌≡◌, ◌≤◌, ◌+◌, ◌*◌, ℤ, length}
use Rattle.std.specs.List.{sum_by}
use Rattle.std.specs.Prelude.{unsigned_abs}
use Rattle.wh_row.specs.Row.{Row}
use Rattle.wh_row.specs.Inner.Kept.{one_below}
use Rattle.wh_row.proofs.bulk.kept_of_counts.Given as goal

abbrev pub invariant-loop-count : goal.invariant-loop-count
invariant-loop-count l =
    record {
      next : (goal.iterator-loop-count).can_next l.count-iterator × (goal.iterator-loop-count).is_finite l.count-iterator;
      total : l.total + sum_by (λ (e : Row × ℤ). unsigned_abs e.1) l.count-iterator ≡ sum_by (λ (e : Row × ℤ). unsigned_abs e.1) l.counts;
      below : l.below + sum_by (λ (e : Row × ℤ). one_below e.1) l.count-iterator ≡ sum_by (λ (e : Row × ℤ). one_below e.1) l.counts;
      small : l.total + length l.count-iterator * 9223372036854775808 ≤ length l.counts * 9223372036854775808;
      few : l.below + length l.count-iterator ≤ length l.counts;
    }
