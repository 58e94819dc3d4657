use Rattle.std.proofs.Common.{arith}
use Rattle.wh_workers.proofs.Fairness.{claims_at}
use Rattle.wh_workers.proofs.claim.draw.Goals as goal

pub fetch_add-requires : goal.fetch_add-requires
fetch_add-requires c = (c.requires.seat.0, omega arith, claims_at _ _ _ _ c.requires.seat.2 c.requires.left.0 c.requires.left.1)
