use Rattle.std.proofs.Common.{arith}
use Rattle.wh_formula.proofs.Parts.{depth_of_part}
use Rattle.wh_formula.proofs.pred.+pred_copy.Goals as goal

pub copies-copy-requires : goal.copies-copy-requires
copies-copy-requires t c =
    let part = c.part-item in
    (omega (arith, depth_of_part c.args.parts.now c.loop-part.part-index part.result (omega arith) part.is), tt)
