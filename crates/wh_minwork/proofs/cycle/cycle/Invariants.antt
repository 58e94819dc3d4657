use Rattle.std.proofs.Common.{◌≡◌, ◌+◌, true}
use Rattle.std.specs.Prelude.{sum}
use Rattle.wh_minwork.specs.Inner.Left.{IsWithin, is_left, is_node_by, leads_by}
use Rattle.wh_minwork.proofs.Rounds.{IsWalking}
use Rattle.wh_minwork.proofs.cycle.cycle.Given as goal

abbrev pub invariant-loop-fresh : goal.invariant-loop-fresh
invariant-loop-fresh l = record {
  within : IsWithin l.next;
  left : is_left l.stuck.comps l.stuck.insts l.next ≡ true;
  walking : IsWalking (leads_by l.edges.over l.edges.before) (is_node_by l.edges.over l.edges.views) l.stuck.comps l.stuck.insts l.fresh.comps l.fresh.insts l.next l.walk.items;
}

abbrev pub decreases-loop-fresh : goal.decreases-loop-fresh
decreases-loop-fresh l = sum l.fresh.comps + l.fresh.insts
