use Rattle.std.proofs.Common.{arith}
use Rattle.wh_workers.proofs.Fairness.{settles_at}
use Rattle.wh_workers.proofs.claim.settle.Goals as goal

pub load-requires : goal.load-requires
load-requires c = (c.requires.seat.0.0, omega arith, settles_at _ _ _ _ c.requires.seat.0.2 c.requires.seat.1 c.requires.seat.2 c.requires.seat.0.3)
