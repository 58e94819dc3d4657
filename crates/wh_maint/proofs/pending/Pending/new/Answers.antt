use Rattle.wh_maint.proofs.Children.{first_more}
use Rattle.wh_maint.proofs.pending.Pending.new.Goals as goal

pub returns-clause-columns : goal.returns-clause-columns
returns-clause-columns c = first_more c.args.sums c.in_ok-sums.sums.items c.new.result c.new.ensures c.in_ok-sums.ensures.none
