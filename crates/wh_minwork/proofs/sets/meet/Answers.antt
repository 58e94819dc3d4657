use Rattle.wh_minwork.proofs.Bits.{in_set-and}
use Rattle.wh_minwork.proofs.sets.meet.Goals as goal

pub returns : goal.returns
returns c w = in_set-and c.args.set c.args.other w
