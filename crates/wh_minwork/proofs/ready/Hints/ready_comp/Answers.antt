use Rattle.wh_minwork.proofs.Hinting.{led_comps}
use Rattle.wh_minwork.proofs.ready.Hints.ready_comp.Goals as goal

pub returns-clause-ready : goal.returns-clause-ready
returns-clause-ready c v u l =
    led_comps c.args.edges.now.over c.args.edges.now.before c.args.rest.now.comps c.args.rest.now.insts c.loop-v.self.comps c.loop-v.self.insts c.loop-v.invariant c.in_default.ensures v u l
