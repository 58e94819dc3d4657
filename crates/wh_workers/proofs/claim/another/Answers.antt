use Rattle.std.proofs.Common.{arith}
use Rattle.wh_workers.proofs.Fairness.{splits}
use Rattle.wh_workers.proofs.claim.another.Goals as goal

pub split_seat-requires : goal.split_seat-requires
split_seat-requires c = (c.requires.seat.0, omega arith, splits _ _ _ c.requires.fresh.0 c.requires.fresh.1)
