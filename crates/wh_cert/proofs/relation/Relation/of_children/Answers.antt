use Rattle.std.proofs.Common.{◌≡◌, ◌<◌, length, arith}
use Rattle.wh_cert.proofs.ChildViews.{children_are_views}
use Rattle.wh_cert.proofs.Tables.{rows_none, rows_all, rows_by_list}
use Rattle.wh_cert.proofs.relation.Relation.of_children.Goals as goal

pub insert_row-requires-clause-row : goal.insert_row-requires-clause-row
insert_row-requires-clause-row c =
    let few = c.of.ensures.shape.few_views in
    let l : c.loop-view.view < 64 = omega arith in
    children_are_views c.args.children.now c.loop-view.view 64 c.of.result.now c.of.ensures.shape l c.of.ensures.children

pub loop-view-init : goal.loop-view-init
loop-view-init c = rows_none c.args.children.now c.new-over.result c.new-over.ensures

pub loop-view-preserved : goal.loop-view-preserved
loop-view-preserved c =
    rows_by_list c.args.children.now c.loop-view.over c.insert_row.new.self c.loop-view.view c.of.result.now c.of.ensures.children c.loop-view.invariant c.insert_row.ensures

pub returns : goal.returns
returns c =
    let n : c.loop-view.view ≡ length c.args.children.now = omega arith in
    rows_all c.args.children.now c.loop-view.over c.loop-view.view n c.loop-view.invariant
