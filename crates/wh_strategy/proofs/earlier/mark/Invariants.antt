use Rattle.std.proofs.Common.{take}
use Rattle.wh_strategy.proofs.Marks.{IsMarked}
use Rattle.wh_strategy.proofs.earlier.mark.Given as goal

abbrev pub invariant-loop-u : goal.invariant-loop-u
invariant-loop-u l = IsMarked l.row l.fn.row (take l.u-index l.views)
