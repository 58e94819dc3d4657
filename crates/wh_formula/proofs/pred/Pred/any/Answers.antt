use Rattle.std.proofs.Common.{arith}
use Rattle.wh_formula.proofs.Parts.{most_levels-below}
use Rattle.wh_formula.proofs.pred.Pred.any.Goals as goal

pub invariant_of-result : goal.invariant_of-result
invariant_of-result c = omega (arith, most_levels-below c.args.parts.items 64 c.requires (omega arith))
