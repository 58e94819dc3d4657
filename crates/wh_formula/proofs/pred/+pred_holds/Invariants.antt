use Rattle.std.proofs.Common.{◌≡◌, ◌+◌, ◌*◌, drop}
use Rattle.wh_formula.specs.Pred.{parts_of, depth, most_levels, all_hold, any_holds}
use Rattle.wh_formula.proofs.pred.+pred_holds.Given as goal

abbrev pub decreases-Pred::holds : goal.decreases-Pred::holds
decreases-Pred::holds l = 2 * depth l.self.now

abbrev pub decreases-all_hold : goal.decreases-all_hold
decreases-all_hold l = 2 * most_levels (parts_of l.parts.now) + 1

abbrev pub decreases-any_holds : goal.decreases-any_holds
decreases-any_holds l = 2 * most_levels (parts_of l.parts.now) + 1

abbrev pub invariant-all_hold-loop-part : goal.invariant-all_hold-loop-part
invariant-all_hold-loop-part l =
    all_hold l.row (parts_of l.parts) ≡ all_hold l.row (parts_of (drop l.part-index l.parts))

abbrev pub invariant-any_holds-loop-part : goal.invariant-any_holds-loop-part
invariant-any_holds-loop-part l =
    any_holds l.row (parts_of l.parts) ≡ any_holds l.row (parts_of (drop l.part-index l.parts))
