use Rattle.std.proofs.Common.{arith}
use Rattle.wh_formula.proofs.Parts.{depth_of_part, fits_of_part}
use Rattle.wh_formula.proofs.pred.+pred_holds.Goals as goal

pub all_hold-holds-requires : goal.all_hold-holds-requires
all_hold-holds-requires t c =
    let part = c.part-item in (
      omega (arith, depth_of_part c.args.parts.now c.loop-part.part-index part.result (omega arith) part.is),
      fits_of_part _ c.args.parts.now c.loop-part.part-index part.result (omega arith) part.is c.requires,
    )

pub any_holds-holds-requires : goal.any_holds-holds-requires
any_holds-holds-requires t c =
    let part = c.part-item in (
      omega (arith, depth_of_part c.args.parts.now c.loop-part.part-index part.result (omega arith) part.is),
      fits_of_part _ c.args.parts.now c.loop-part.part-index part.result (omega arith) part.is c.requires,
    )
