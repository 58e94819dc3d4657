use Rattle.wh_minwork.proofs.Bits.{rows_empty}
use Rattle.wh_minwork.proofs.sets.none.Goals as goal

pub returns : goal.returns
returns c a b = rows_empty a b
