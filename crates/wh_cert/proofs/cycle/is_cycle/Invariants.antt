use Rattle.std.proofs.Common.{drop}
use Rattle.wh_cert.specs.Graph.{Leads}
use Rattle.wh_cert.proofs.cycle.is_cycle.Given as goal

abbrev pub invariant-loop-next : goal.invariant-loop-next
invariant-loop-next l = record {
  leads : Leads l.children l.decided l.last (drop l.next-index l.rest) l.first → Leads l.children l.decided l.first l.rest l.first;
  led : Leads l.children l.decided l.first l.rest l.first → Leads l.children l.decided l.last (drop l.next-index l.rest) l.first;
}
