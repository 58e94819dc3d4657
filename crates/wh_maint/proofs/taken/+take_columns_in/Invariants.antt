use Rattle.std.proofs.Common.{length}
use Rattle.wh_maint.proofs.taken.+take_columns_in.Given as goal

abbrev pub decreases-take_columns_in : goal.decreases-take_columns_in
decreases-take_columns_in l = length l.sums.now
