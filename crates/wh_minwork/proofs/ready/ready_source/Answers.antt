use Rattle.wh_minwork.specs.declared.node.Node.TheVariants.{Comp}
use Rattle.wh_minwork.proofs.ready.ready_source.Goals as goal

pub leader-requires-clause-node : goal.leader-requires-clause-node
leader-requires-clause-node c = c.requires.nodes.each (Comp c.args.v c.in-Some.u) (c.loop-u.invariant.among c.in-Some.u c.in-Some.ensures.1)
