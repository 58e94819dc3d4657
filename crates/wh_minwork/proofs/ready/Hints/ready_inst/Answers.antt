use Rattle.std.proofs.Common.{sym, ◌∙◌}
use Rattle.wh_minwork.specs.declared.node.Node.TheVariants.{Inst}
use Rattle.wh_minwork.proofs.Hinting.{led_insts}
use Rattle.wh_minwork.proofs.ready.Hints.ready_inst.Goals as goal

pub leader-requires-clause-node : goal.leader-requires-clause-node
leader-requires-clause-node c = c.requires.nodes.each (Inst c.in-Some.w) (sym c.holds.ensures ∙ c.if-holds.true)

pub returns-clause-ready : goal.returns-clause-ready
returns-clause-ready c w l =
    led_insts c.args.edges.now.over c.args.edges.now.before c.args.rest.now.comps c.args.rest.now.insts c.loop-w.self.comps c.loop-w.self.insts c.loop-w.invariant c.in_default.ensures w l
