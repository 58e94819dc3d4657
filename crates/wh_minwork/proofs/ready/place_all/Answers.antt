use Rattle.std.proofs.Common.{◌≡◌, true}
use Rattle.wh_dag.proofs.SiblingLists.{on_err}
use Rattle.wh_minwork.specs.Inner.Left.{is_node_by}
use Rattle.wh_minwork.specs.declared.node.Node.{Node}
use Rattle.wh_minwork.proofs.Hinting.{hinted_all, hinted_taken, placed_more, placed_none}
use Rattle.wh_minwork.proofs.Looking.{placed_left}
use Rattle.wh_minwork.proofs.ready.place_all.Goals as goal

pub loop-node-init : goal.loop-node-init
loop-node-init c =
    let e = c.args.edges.now in
    rw (c.all-rest.ensures.comps, c.all-rest.ensures.insts, c.all-rest.ensures.reads, c.new-placed.ensures.items)
    (record {
      placed = placed_none e.views e.over e.before;
      turned = c.requires.turned;
      hints = hinted_all e.views e.over e.before c.requires.views;
    })

pub note-requires-clause-hints : goal.note-requires-clause-hints
note-requires-clause-hints c y l =
    let e = c.args.edges.now in
    hinted_taken e.over e.before c.loop-node.rest.comps c.take.new.self.comps c.loop-node.rest.insts c.take.new.self.insts c.next.new.self.comps c.next.new.self.insts c.in-Some.node c.in-Some.ensures.hints c.take.ensures.left y l

pub loop-node-preserved : goal.loop-node-preserved
loop-node-preserved c =
    let e = c.args.edges.now in
    record {
      placed =
          rw c.in_ok-push.ensures.items
          (placed_more e.views e.over e.before c.loop-node.rest.comps c.take.new.self.comps c.loop-node.rest.insts c.take.new.self.insts c.loop-node.placed.items c.in-Some.node c.loop-node.invariant.placed c.in-Some.ensures.ready.1 c.in-Some.ensures.ready.2 c.take.ensures.left);
      turned = c.take.ensures.turned c.loop-node.invariant.turned;
      hints = c.note.ensures;
    }

pub returns-in_err-push-clause-memory : goal.returns-in_err-push-clause-memory
returns-in_err-push-clause-memory c =
    let e = c.args.edges.now in
    let left = placed_left e.views e.over e.before c.loop-node.rest.comps c.loop-node.rest.insts c.loop-node.placed.items c.loop-node.invariant.placed in
    let some : (y : Node) × (is_node_by e.over e.views y ≡ true) = (c.in-Some.node, left.each c.in-Some.node c.in-Some.ensures.ready.1) in
    on_err _ some
