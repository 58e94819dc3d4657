use Rattle.std.proofs.Common.{◌+◌, length}
use Rattle.whview.specs.Inner.Difference.{IsUnderway}
use Rattle.whview.proofs.night.difference.changed_rows.Given as goal

abbrev pub invariant-loop-row : goal.invariant-loop-row
invariant-loop-row l = IsUnderway l.new l.old l.changed l.coming l.leaving

abbrev pub decreases-loop-row : goal.decreases-loop-row
decreases-loop-row l = length l.coming + length l.leaving
