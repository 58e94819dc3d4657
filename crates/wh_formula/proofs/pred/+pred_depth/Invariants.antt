use Rattle.std.proofs.Common.{◌≡◌, ◌+◌, ◌*◌, ◌≤◌, max, drop}
use Rattle.wh_formula.specs.Pred.{parts_of, depth, most_levels}
use Rattle.wh_formula.proofs.pred.+pred_depth.Given as goal

abbrev pub decreases-Pred::depth : goal.decreases-Pred::depth
decreases-Pred::depth l = 2 * depth l.self.now

abbrev pub decreases-most_levels : goal.decreases-most_levels
decreases-most_levels l = 2 * most_levels (parts_of l.parts.now) + 1

abbrev pub invariant-most_levels-loop-part : goal.invariant-most_levels-loop-part
invariant-most_levels-loop-part l =
    (max l.most (most_levels (parts_of (drop l.part-index l.parts))) ≡ most_levels (parts_of l.parts)) × (l.most ≤ 64)
