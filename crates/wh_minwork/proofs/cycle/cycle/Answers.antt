use Rattle.std.proofs.Common.{◌+◌, sym, ◌∙◌}
use Rattle.wh_minwork.specs.Inner.Left.{is_node_by, leads_by}
use Rattle.wh_minwork.proofs.Rounds.{walking_start, walking_more, walking_meets, walking_once, walking_closes}
use Rattle.wh_minwork.proofs.cycle.cycle.Goals as goal

pub loop-fresh-init : goal.loop-fresh-init
loop-fresh-init c =
    let e = c.args.edges.now in
    let s = c.args.stuck.now in
    record {
      within = c.back-next.ensures.within;
      left = c.back-next.ensures.left;
      walking =
          rw (c.in_ok-push.ensures.items, c.new-walk.ensures.items)
          (walking_start (leads_by e.over e.before) (is_node_by e.over e.views) s.comps c.take.new.self.comps s.insts c.take.new.self.insts c.args.start c.back-next.result (c.requires.nodes.each c.args.start c.requires.left) c.requires.left c.back-next.ensures.leads c.take.ensures.left);
    }

pub loop-fresh-preserved : goal.loop-fresh-preserved
loop-fresh-preserved c =
    let e = c.args.edges.now in
    let s = c.args.stuck.now in
    record {
      within = c.back-next-in-loop-fresh.ensures.within;
      left = c.back-next-in-loop-fresh.ensures.left;
      walking =
          rw c.in_ok-insert.ensures.items
          (walking_more (leads_by e.over e.before) (is_node_by e.over e.views) s.comps c.loop-fresh.fresh.comps c.take-in-loop-fresh.new.self.comps s.insts c.loop-fresh.fresh.insts c.take-in-loop-fresh.new.self.insts c.loop-fresh.next c.back-next-in-loop-fresh.result c.loop-fresh.walk.items c.loop-fresh.invariant.walking (c.requires.nodes.each c.loop-fresh.next c.loop-fresh.invariant.left) (sym c.has.ensures ∙ c.loop-fresh-test.true) c.back-next-in-loop-fresh.ensures.leads c.take-in-loop-fresh.ensures.left);
    }

pub unreachable-requires : goal.unreachable-requires
unreachable-requires c =
    let e = c.args.edges.now in
    let s = c.args.stuck.now in
    let none = rw c.deref.ensures.value at c.in-None.ensures in
    walking_meets (leads_by e.over e.before) (is_node_by e.over e.views) s.comps c.loop-fresh.fresh.comps s.insts c.loop-fresh.fresh.insts c.loop-fresh.next c.loop-fresh.walk.items c.loop-fresh.invariant.walking c.loop-fresh.invariant.left (sym c.has.ensures ∙ c.loop-fresh-test.false) none

pub returns-clause-round : goal.returns-clause-round
returns-clause-round c =
    let e = c.args.edges.now in
    let s = c.args.stuck.now in
    let at = rw c.deref.ensures.value at c.in-Some.ensures in
    rw c.truncate.ensures.items
    (walking_closes (leads_by e.over e.before) (is_node_by e.over e.views) s.comps c.loop-fresh.fresh.comps s.insts c.loop-fresh.fresh.insts c.loop-fresh.next c.loop-fresh.walk.items c.in-Some.j c.loop-fresh.invariant.walking at.0 at.1)

pub returns-clause-once : goal.returns-clause-once
returns-clause-once c e =
    let d = c.args.edges.now in
    let s = c.args.stuck.now in
    rw c.truncate.ensures.items
    (walking_once (leads_by d.over d.before) (is_node_by d.over d.views) s.comps c.loop-fresh.fresh.comps s.insts c.loop-fresh.fresh.insts c.loop-fresh.next c.loop-fresh.walk.items (c.in-Some.j + 1) e c.loop-fresh.invariant.walking)
