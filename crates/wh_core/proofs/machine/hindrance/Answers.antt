use Rattle.std.proofs.Common.{inl, inr, arith}
use Rattle.wh_core.proofs.Steps.{none_left, some_left}
use Rattle.wh_core.proofs.machine.hindrance.Goals as goal

pub returns-then-place-len : goal.returns-then-place-len
returns-then-place-len c = inl (some_left c.args.place c.args.course.now.parts.items (omega arith))
