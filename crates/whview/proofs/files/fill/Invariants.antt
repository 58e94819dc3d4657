use Rattle.std.proofs.Common.{length}
use Rattle.whview.proofs.FilledBundles.{IsFilledTo}
use Rattle.whview.proofs.files.fill.Given as goal

-- what is there is the bundle down to the rest, with the lines of its files
abbrev pub invariant-loop-part : goal.invariant-loop-part
invariant-loop-part g l = IsFilledTo l.bundle l.all.items l.rest

abbrev pub decreases-loop-part : goal.decreases-loop-part
decreases-loop-part g l = length l.rest
