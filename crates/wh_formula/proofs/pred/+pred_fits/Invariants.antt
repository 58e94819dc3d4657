use Rattle.std.proofs.Common.{◌≡◌, ◌+◌, ◌*◌, drop}
use Rattle.wh_formula.specs.Pred.{parts_of, depth, most_levels, all_fit}
use Rattle.wh_formula.proofs.pred.+pred_fits.Given as goal

abbrev pub decreases-Pred::fits : goal.decreases-Pred::fits
decreases-Pred::fits l = 2 * depth l.self.now

abbrev pub decreases-all_fit : goal.decreases-all_fit
decreases-all_fit l = 2 * most_levels (parts_of l.parts.now) + 1

abbrev pub invariant-all_fit-loop-part : goal.invariant-all_fit-loop-part
invariant-all_fit-loop-part l =
    all_fit l.width (parts_of l.parts) ≡ all_fit l.width (parts_of (drop l.part-index l.parts))
