use Rattle.std.proofs.Common.{◌<◌, ◌≤◌, length, arith}
use Rattle.wh_cert.proofs.ChildViews.{children_are_views}
use Rattle.wh_cert.proofs.Tables.{parents_none, parents_more, parents_all}
use Rattle.wh_cert.proofs.relation.Relation.of_siblings.Goals as goal

pub insert_all-requires : goal.insert_all-requires
insert_all-requires c =
    let few = c.of.ensures.shape.few_views in
    let l : c.loop-view.view < 64 = omega arith in
    children_are_views c.args.children.now c.loop-view.view 64 c.of.result.now c.of.ensures.shape l c.of.ensures.children

pub loop-view-init : goal.loop-view-init
loop-view-init c = parents_none c.new-siblings.result c.new-siblings.ensures

pub loop-view-preserved : goal.loop-view-preserved
loop-view-preserved c =
    let l : c.loop-view.view < length c.args.children.now = omega arith in
    parents_more c.args.children.now c.loop-view.siblings c.insert_all.new.self c.loop-view.view c.of.result.now l c.of.ensures.children c.loop-view.invariant c.insert_all.ensures

pub returns : goal.returns
returns c =
    let n : length c.args.children.now ≤ c.loop-view.view = omega arith in
    parents_all c.args.children.now c.loop-view.siblings c.loop-view.view n c.loop-view.invariant
