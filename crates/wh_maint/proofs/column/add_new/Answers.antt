use Rattle.wh_maint.proofs.NewSums.{taken_back}
use Rattle.wh_maint.proofs.column.add_new.Goals as goal

pub returns-in_default-clause-err : goal.returns-in_default-clause-err
returns-in_default-clause-err c =
    taken_back c.args.sums.now c.args.new.now c.add_some.new.sums c.take_back.new.sums c.requires c.in_default.ensures.err c.take_back.ensures.gone c.take_back.ensures.kept
