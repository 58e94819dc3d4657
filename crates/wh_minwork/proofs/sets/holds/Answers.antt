use Rattle.wh_minwork.proofs.Bits.{shifted}
use Rattle.wh_minwork.proofs.sets.holds.Goals as goal

pub returns : goal.returns
returns c = shifted c.args.set c.args.view
