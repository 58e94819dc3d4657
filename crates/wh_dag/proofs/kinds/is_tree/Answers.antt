use Rattle.std.proofs.Common.{refl, arith}
use Rattle.wh_dag.proofs.Marked.{children_below, none_marked, below_none, marked_more, tree_more, tree_all}
use Rattle.wh_dag.proofs.kinds.is_tree.Goals as goal

pub loop-view-init : goal.loop-view-init
loop-view-init c = record { marked = none_marked c.args.shape.now; tree = below_none c.args.shape.now }

pub take_all-requires-clause-views : goal.take_all-requires-clause-views
take_all-requires-clause-views c =
    let few = c.of.ensures.shape.few_views in
    children_below c.args.shape.now c.loop-view.view 64 c.of.result.now c.of.ensures.shape (omega arith) c.of.ensures.children

pub loop-view-preserved : goal.loop-view-preserved
loop-view-preserved c =
    let free = c.take_all.ensures.free.0 c.if-not-take_all.false in
    record {
      marked =
          marked_more c.args.shape.now c.loop-view.taken c.take_all.new.taken c.of.result.now c.loop-view.view c.of.ensures.children (c.take_all.ensures.taken c.if-not-take_all.false) c.loop-view.invariant.marked;
      tree =
          tree_more c.args.shape.now c.loop-view.taken c.of.result.now c.loop-view.view c.of.ensures.children c.loop-view.invariant.marked free c.loop-view.invariant.tree;
    }

pub returns : goal.returns
returns c = (λ _. tree_all c.args.shape.now c.loop-view.view (omega arith) c.loop-view.invariant.tree, λ _. refl)
