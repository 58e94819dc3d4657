use Rattle.std.proofs.Common.{length}
use Rattle.wh_night.proofs.tested.+are_known.Given as goal

abbrev pub decreases-are_known : goal.decreases-are_known
decreases-are_known l = length l.sources.now
