use Rattle.std.proofs.Common.{◌≡◌, ◌≤◌, ◌+◌, ◌-◌, length}
use Rattle.wh_versions.proofs.shown.few_of.Given as goal

abbrev pub invariant-loop-few : goal.invariant-loop-few
invariant-loop-few g l =
    record {
      within : l.few ≤ l.most;
      all : l.few + length l.rest ≡ length l.entries;
    }

abbrev pub decreases-loop-few : goal.decreases-loop-few
decreases-loop-few g l = length l.rest
