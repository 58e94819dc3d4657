use Rattle.std.proofs.Common.{drop}
use Rattle.wh_minwork.specs.Draft.{completed}
use Rattle.wh_dag.specs.declared.siblings.Couple.{Couple}
use Rattle.wh_minwork.specs.Inner.Left.{Passes, PassesTo}
use Rattle.wh_minwork.specs.Inner.Nodes.{is_node, leads}
use Rattle.wh_minwork.proofs.draft.Draft.first_open.Given as goal

abbrev pub invariant-loop-next : goal.invariant-loop-next
invariant-loop-next l = record {
  ahead : Passes (leads l.self.children (completed l.self.ordered l.self.decided)) (is_node l.self.children) l.last (drop l.next-index l.rest) l.first;
  behind : Passes (leads l.self.children l.self.decided) (is_node l.self.children) l.last (drop l.next-index l.rest) l.first → Passes (leads l.self.children l.self.decided) (is_node l.self.children) l.first l.rest l.first;
  found : (couple : Couple) → PassesTo (leads l.self.children l.self.decided) couple l.last (drop l.next-index l.rest) l.first → PassesTo (leads l.self.children l.self.decided) couple l.first l.rest l.first;
}
