use Rattle.std.proofs.Common.{◌+◌}
use Rattle.std.specs.Prelude.{sum}
use Rattle.wh_minwork.specs.Inner.Left.{AreHints, ArePlaced, AreTurned}
use Rattle.wh_minwork.proofs.ready.place_all.Given as goal

abbrev pub invariant-loop-node : goal.invariant-loop-node
invariant-loop-node l = record {
  placed : ArePlaced l.edges.views l.edges.over l.edges.before l.rest.comps l.rest.insts l.placed.items;
  turned : AreTurned l.rest.comps l.rest.reads;
  hints : AreHints l.edges.over l.edges.before l.rest.comps l.rest.insts l.hints.comps l.hints.insts;
}

abbrev pub decreases-loop-node : goal.decreases-loop-node
decreases-loop-node l = sum l.rest.comps + l.rest.insts
