use Rattle.wh_strategy.proofs.Agreeing.{judged}
use Rattle.wh_strategy.proofs.correct.first_broken.Goals as goal

pub returns : goal.returns
returns c = judged c.args.children.now c.args.list.now c.first_of.result c.requires c.first_of.ensures.none c.first_of.ensures.some
