use Rattle.std.proofs.Common.{take}
use Rattle.wh_core.specs.Inner.Changes.{AreNoted, change_shown, is_put}
use Rattle.wh_core.proofs.machine.Machine.change.Given as goal

abbrev pub invariant-loop-part : goal.invariant-loop-part
invariant-loop-part l = AreNoted (change_shown l.self.store l.view) (λ r. is_put l.view r (take l.part-index l.put)) l.change
