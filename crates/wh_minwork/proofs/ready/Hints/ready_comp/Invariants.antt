use Rattle.wh_minwork.specs.Inner.Left.{AreHints}
use Rattle.wh_minwork.proofs.ready.Hints.ready_comp.Given as goal

abbrev pub invariant-loop-v : goal.invariant-loop-v
invariant-loop-v l = AreHints l.edges.over l.edges.before l.rest.comps l.rest.insts l.self.comps l.self.insts

abbrev pub decreases-loop-v : goal.decreases-loop-v
decreases-loop-v l = l.self.comps
