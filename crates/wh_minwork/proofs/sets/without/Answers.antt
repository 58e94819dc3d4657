use Rattle.wh_minwork.proofs.Bits.{in_set-without, without_less}
use Rattle.wh_minwork.proofs.sets.without.Goals as goal

pub returns-clause-rest : goal.returns-clause-rest
returns-clause-rest c w = in_set-without c.args.set c.args.view w c.ranges.set.fits c.requires

pub returns-clause-less : goal.returns-clause-less
returns-clause-less c there = without_less c.args.set c.args.view c.ranges.set.fits c.requires there
