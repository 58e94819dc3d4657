use Rattle.wh_minwork.proofs.Bits.{in_set-with}
use Rattle.wh_minwork.proofs.sets.with.Goals as goal

pub returns : goal.returns
returns c w = in_set-with c.args.set c.args.view w c.requires
