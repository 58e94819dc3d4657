use Rattle.wh_minwork.proofs.Hinting.{none_led}
use Rattle.wh_minwork.proofs.ready.Hints.next.Goals as goal

pub returns-in-None-clause-ready : goal.returns-in-None-clause-ready
returns-in-None-clause-ready c y l =
    none_led c.args.edges.now.over c.args.edges.now.before c.args.rest.now.comps c.args.rest.now.insts c.in_default.ensures.ready c.in-None.ensures.ready y l
