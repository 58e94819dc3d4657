use Rattle.std.proofs.Common.{◌<◌, ◌∙◌, length, get_or, arith}
use Rattle.wh_dag.specs.declared.siblings.SiblingPair.{SiblingPair}
use Rattle.wh_minwork.proofs.SiblingViews.{pair_within}
use Rattle.wh_minwork.proofs.lines.pair_mins.Goals as goal

pub right_line-requires-clause-lower : goal.right_line-requires-clause-lower
right_line-requires-clause-lower c =
    let none : SiblingPair = record { parent = 0; lower = 0; higher = 0 } in
    let same = c.requires in
    let within : (get_or c.deref-pair-items.result.now c.loop-pair.pair-index none).lower < length c.args.shape.now.children = (pair_within c.args.shape.now.children c.deref-pair-items.result.now c.loop-pair.pair-index none c.child_lists-lists.ensures.shape (c.deref-pair-items.ensures.value ∙ c.in_ok-pairs.ensures.pairs) c.loop-pair-test.true).0 in
    omega arith

pub right_line-requires-clause-higher : goal.right_line-requires-clause-higher
right_line-requires-clause-higher c =
    let none : SiblingPair = record { parent = 0; lower = 0; higher = 0 } in
    let same = c.requires in
    let within : (get_or c.deref-pair-items.result.now c.loop-pair.pair-index none).higher < length c.args.shape.now.children = (pair_within c.args.shape.now.children c.deref-pair-items.result.now c.loop-pair.pair-index none c.child_lists-lists.ensures.shape (c.deref-pair-items.ensures.value ∙ c.in_ok-pairs.ensures.pairs) c.loop-pair-test.true).1 in
    omega arith
