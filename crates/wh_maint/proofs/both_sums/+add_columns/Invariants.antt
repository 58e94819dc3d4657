use Rattle.std.proofs.Common.{length}
use Rattle.wh_maint.proofs.both_sums.+add_columns.Given as goal

abbrev pub decreases-add_columns : goal.decreases-add_columns
decreases-add_columns l = length l.others.now
