use Rattle.std.proofs.Common.{◌≡◌, ◌≤◌, ℤ, take}
use Rattle.std.specs.List.{sum_by}
use Rattle.std.specs.Prelude.{unsigned_abs}
use Rattle.wh_row.specs.Row.{Row}
use Rattle.wh_row.specs.Inner.Kept.{one_below}
use Rattle.wh_row.specs.Inner.Stored.{AreCounts}
use Rattle.wh_row.proofs.bulk.kept_of.Given as goal

abbrev pub invariant-loop-place : goal.invariant-loop-place
invariant-loop-place l =
    record {
      counts : AreCounts (take l.place l.records);
      total : l.total ≡ sum_by (λ (e : Row × ℤ). unsigned_abs e.1) (take l.place l.records);
      below : l.below ≡ sum_by (λ (e : Row × ℤ). one_below e.1) (take l.place l.records);
      few : l.below ≤ l.place;
    }
