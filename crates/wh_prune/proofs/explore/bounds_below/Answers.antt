use Rattle.std.proofs.Common.{◌<◌, length, arith}
use Rattle.wh_minwork.proofs.Ordering.{couple_within}
use Rattle.wh_prune.proofs.Deciding.{open_couple}
use Rattle.wh_prune.proofs.explore.bounds_below.Goals as goal

pub decided_bound_with-requires-clause-first : goal.decided_bound_with-requires-clause-first
decided_bound_with-requires-clause-first c =
    let shape = c.args.task.now.shape.now.children in
    let l = couple_within shape c.args.couple.lower c.args.couple.higher c.child_lists-lists.ensures.shape (open_couple shape c.args.decided.now c.args.couple c.requires.open).1 in
    let k : c.args.couple.lower < length shape = l.0 in
    omega arith

pub decided_bound_with-requires-clause-second : goal.decided_bound_with-requires-clause-second
decided_bound_with-requires-clause-second c =
    let shape = c.args.task.now.shape.now.children in
    let l = couple_within shape c.args.couple.lower c.args.couple.higher c.child_lists-lists.ensures.shape (open_couple shape c.args.decided.now c.args.couple c.requires.open).1 in
    let k : c.args.couple.higher < length shape = l.1 in
    omega arith

pub decided_bound_with-requires-2-clause-first : goal.decided_bound_with-requires-2-clause-first
decided_bound_with-requires-2-clause-first c =
    let shape = c.args.task.now.shape.now.children in
    let l = couple_within shape c.args.couple.lower c.args.couple.higher c.child_lists-lists.ensures.shape (open_couple shape c.args.decided.now c.args.couple c.requires.open).1 in
    let k : c.args.couple.higher < length shape = l.1 in
    omega arith

pub decided_bound_with-requires-2-clause-second : goal.decided_bound_with-requires-2-clause-second
decided_bound_with-requires-2-clause-second c =
    let shape = c.args.task.now.shape.now.children in
    let l = couple_within shape c.args.couple.lower c.args.couple.higher c.child_lists-lists.ensures.shape (open_couple shape c.args.decided.now c.args.couple c.requires.open).1 in
    let k : c.args.couple.lower < length shape = l.0 in
    omega arith
