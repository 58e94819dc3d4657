use Rattle.std.proofs.Common.{◌≡◌, ◌+◌, ◌*◌, take}
use Rattle.wh_formula.specs.Pred.{parts_of, depth, most_levels}
use Rattle.wh_formula.proofs.pred.+pred_copy.Given as goal

abbrev pub decreases-Pred::copy : goal.decreases-Pred::copy
decreases-Pred::copy l = 2 * depth l.self.now

abbrev pub decreases-copies : goal.decreases-copies
decreases-copies l = 2 * most_levels (parts_of l.parts.now) + 1

abbrev pub invariant-copies-loop-part : goal.invariant-copies-loop-part
invariant-copies-loop-part l = l.copies.items ≡ take l.part-index l.parts
