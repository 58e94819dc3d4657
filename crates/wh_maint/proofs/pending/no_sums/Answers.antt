use Rattle.std.proofs.Common.{◌∙◌}
use Rattle.wh_maint.proofs.Children.{one_more}
use Rattle.wh_maint.proofs.pending.no_sums.Goals as goal

pub loop-number-preserved : goal.loop-number-preserved
loop-number-preserved c = c.in_ok-push.ensures.items ∙ one_more c.loop-number._number c.loop-number.none.items c.new.result c.loop-number.invariant c.new.ensures
