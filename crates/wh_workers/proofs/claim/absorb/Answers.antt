use Rattle.std.proofs.Common.{arith}
use Rattle.wh_workers.proofs.Fairness.{joins}
use Rattle.wh_workers.proofs.claim.absorb.Goals as goal

pub join_seat-requires : goal.join_seat-requires
join_seat-requires c = (c.requires.seat.0.0, c.requires.other.0.0, c.requires.other.0.2, omega arith, joins _ _ _ _ _ c.requires.seat.1 c.requires.other.1)
