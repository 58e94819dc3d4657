use Rattle.std.proofs.Common.{◌<◌, ◌+◌, drop, get_or, arith}
use Rattle.wh_dag.specs.declared.siblings.Couple.{Couple}
use Rattle.wh_prune.proofs.Deciding.{next_open, is_lower, left_at, left_lower}
use Rattle.wh_prune.proofs.LowestFirst.{lower_none, lower_more}
use Rattle.wh_prune.proofs.explore.lowest.Goals as goal

abbrev none : Couple
none = record { lower = 0; higher = 0 }

pub loop-couple-init : goal.loop-couple-init
loop-couple-init c = rw c.new-decided.ensures (record { left = c.requires; lower = lower_none })

pub push-requires-clause-two : goal.push-requires-clause-two
push-requires-clause-two c e =
    let shape = c.args.shape.now.children in
    let couples = c.args.couples.now in
    let i = c.loop-couple.couple-index in
    let left = left_at shape c.loop-couple.decided couples i none c.loop-couple-test.true c.loop-couple.invariant.left in
    let l : (get_or couples i none).lower < (get_or couples i none).higher = is_lower shape c.loop-couple.decided (get_or couples i none) (next_open shape c.loop-couple.decided (get_or couples i none) (drop (i + 1) couples) left) in
    omega arith

pub push-requires-clause-open : goal.push-requires-clause-open
push-requires-clause-open c =
    let shape = c.args.shape.now.children in
    let couples = c.args.couples.now in
    let i = c.loop-couple.couple-index in
    (next_open shape c.loop-couple.decided (get_or couples i none) (drop (i + 1) couples) (left_at shape c.loop-couple.decided couples i none c.loop-couple-test.true c.loop-couple.invariant.left)).not_lower_first

pub push-requires-clause-open_too : goal.push-requires-clause-open_too
push-requires-clause-open_too c =
    let shape = c.args.shape.now.children in
    let couples = c.args.couples.now in
    let i = c.loop-couple.couple-index in
    (next_open shape c.loop-couple.decided (get_or couples i none) (drop (i + 1) couples) (left_at shape c.loop-couple.decided couples i none c.loop-couple-test.true c.loop-couple.invariant.left)).not_higher_first

pub loop-couple-preserved : goal.loop-couple-preserved
loop-couple-preserved c =
    let shape = c.args.shape.now.children in
    let couples = c.args.couples.now in
    let i = c.loop-couple.couple-index in
    let left = left_at shape c.loop-couple.decided couples i none c.loop-couple-test.true c.loop-couple.invariant.left in
    let l = is_lower shape c.loop-couple.decided (get_or couples i none) (next_open shape c.loop-couple.decided (get_or couples i none) (drop (i + 1) couples) left) in
    rw c.in_ok-push.ensures.ok
    (record {
      left = left_lower shape c.loop-couple.decided (get_or couples i none) (drop (i + 1) couples) left;
      lower = lower_more c.loop-couple.decided (get_or couples i none).lower (get_or couples i none).higher l c.loop-couple.invariant.lower;
    })
