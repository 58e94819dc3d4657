use Rattle.std.proofs.Common.{arith}
use Rattle.wh_formula.proofs.Parts.{depth_of_part}
use Rattle.wh_formula.proofs.pred.+pred_fits.Goals as goal

pub all_fit-fits-requires : goal.all_fit-fits-requires
all_fit-fits-requires t c =
    let part = c.part-item in
    (omega (arith, depth_of_part c.args.parts.now c.loop-part.part-index part.result (omega arith) part.is), tt)
