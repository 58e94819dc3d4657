use Rattle.std.proofs.Common.{◌≡◌, ◌≤◌, ◌-◌, drop, slice_get}
use Rattle.wh_versions.specs.Inner.Rows.{pairs_of}
use Rattle.wh_versions.proofs.row.pair_at.Given as goal

abbrev pub invariant-loop-before : goal.invariant-loop-before
invariant-loop-before l =
    record {
      passed : l.before ≤ l.place;
      same : slice_get (pairs_of (drop l.before l.numbers) (drop l.before l.counts)) (l.place - l.before) ≡ slice_get (pairs_of l.numbers l.counts) l.place;
    }
