use Rattle.wh_minwork.proofs.Bits.{in_set-or}
use Rattle.wh_minwork.proofs.sets.join.Goals as goal

pub returns : goal.returns
returns c w = in_set-or c.args.set c.args.other w
