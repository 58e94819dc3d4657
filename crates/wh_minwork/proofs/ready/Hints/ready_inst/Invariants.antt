use Rattle.wh_minwork.specs.Inner.Left.{AreHints}
use Rattle.wh_minwork.proofs.ready.Hints.ready_inst.Given as goal

abbrev pub invariant-loop-w : goal.invariant-loop-w
invariant-loop-w l = AreHints l.edges.over l.edges.before l.rest.comps l.rest.insts l.self.comps l.self.insts

abbrev pub decreases-loop-w : goal.decreases-loop-w
decreases-loop-w l = l.self.insts
