use Rattle.std.proofs.Common.{◌+◌}
use Rattle.wh_strategy.specs.Sizes.{sizes_of}
use Rattle.wh_minwork.proofs.Ordering.{AreDecidedTo}
use Rattle.wh_minwork.proofs.decided.Decided.by_desired_order.Given as goal

abbrev pub invariant-loop-lower : goal.invariant-loop-lower
invariant-loop-lower l = AreDecidedTo l.shape.children (sizes_of l.sizes) l.lower (l.lower + 1) l.decided

abbrev pub invariant-loop-higher : goal.invariant-loop-higher
invariant-loop-higher l = AreDecidedTo l.shape.children (sizes_of l.sizes) l.lower l.higher l.decided
