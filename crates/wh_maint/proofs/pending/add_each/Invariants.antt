use Rattle.std.proofs.Common.{◌≡◌, ℕ, ◌<◌, ◌≤◌, pos, ◌*ℤ◌, length, slice_index_or}
use Rattle.wh_row.specs.Bag.{plus, empty}
use Rattle.wh_maint.proofs.pending.add_each.Given as goal

abbrev pub invariant-loop-j : goal.invariant-loop-j
invariant-loop-j l =
    record {
      same_length : length l.sums ≡ length l.values;
      before : (k : ℕ) → k < l.j → slice_index_or l.sums k empty ≡ plus (slice_index_or l.fn.sums k empty) l.group (l.count *ℤ slice_index_or l.values k (pos 0));
      after : (k : ℕ) → l.j ≤ k → slice_index_or l.sums k empty ≡ slice_index_or l.fn.sums k empty;
    }
