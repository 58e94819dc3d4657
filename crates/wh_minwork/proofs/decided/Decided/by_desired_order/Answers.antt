use Rattle.std.proofs.Common.{◌≡◌, ◌<◌, ◌≤◌, ◌+◌, sym, ap, ◌∙◌, length, arith}
use Rattle.wh_dag.specs.Siblings.{have_parent}
use Rattle.wh_strategy.specs.Sizes.{sizes_of}
use Rattle.wh_minwork.proofs.Ordering.{decided_none, not_yet, decided_hit, decided_miss, decided_row, decided_all}
use Rattle.wh_minwork.proofs.decided.Decided.by_desired_order.Goals as goal
use Rattle.wh_minwork.proofs.decided.Decided.by_desired_order.Goals.{then-has+in_ok-push_desired, else-has}

pub loop-lower-init : goal.loop-lower-init
loop-lower-init c = rw c.new-decided.ensures (decided_none c.args.shape.now.children (sizes_of c.args.sizes.now))

pub push_desired-requires-clause-open : goal.push_desired-requires-clause-open
push_desired-requires-clause-open c =
    let l : c.loop-lower.lower < c.loop-higher.higher = omega (arith, c.loop-higher.auto.higher) in
    (not_yet c.args.shape.now.children (sizes_of c.args.sizes.now) c.loop-lower.lower c.loop-higher.higher c.loop-higher.decided l c.loop-higher.invariant).0

pub push_desired-requires-clause-open_too : goal.push_desired-requires-clause-open_too
push_desired-requires-clause-open_too c =
    let l : c.loop-lower.lower < c.loop-higher.higher = omega (arith, c.loop-higher.auto.higher) in
    (not_yet c.args.shape.now.children (sizes_of c.args.sizes.now) c.loop-lower.lower c.loop-higher.higher c.loop-higher.decided l c.loop-higher.invariant).1

pub loop-higher-preserved : goal.loop-higher-preserved
loop-higher-preserved c =
    let shape = c.args.shape.now.children in
    let sizes = sizes_of c.args.sizes.now in
    let l : c.loop-lower.lower < c.loop-higher.higher = omega (arith, c.loop-higher.auto.higher) in
    let tells : c.has.result ≡ have_parent shape c.loop-lower.lower c.loop-higher.higher = c.has.ensures ∙ c.of_siblings-siblings.ensures c.loop-lower.lower c.loop-higher.higher ∙ ap (λ z. have_parent z c.loop-lower.lower c.loop-higher.higher) c.child_lists.ensures.lists in
    elim c.if-has.branch [
      | then-has+in_ok-push_desired w ↦
          rw (w.decided-is, w.in_ok-push_desired.ensures)
          (decided_hit shape sizes c.loop-lower.lower c.loop-higher.higher c.loop-higher.decided l (sym tells ∙ w.if-has.true) c.loop-higher.invariant)
      | else-has w ↦
          rw w.decided-is
          (decided_miss shape sizes c.loop-lower.lower c.loop-higher.higher c.loop-higher.decided (sym tells ∙ w.if-has.false) c.loop-higher.invariant)
    ]

pub loop-lower-preserved : goal.loop-lower-preserved
loop-lower-preserved c =
    let n : length c.args.shape.now.children ≤ c.loop-higher.higher = omega arith in
    decided_row c.args.shape.now.children (sizes_of c.args.sizes.now) c.loop-lower.lower c.loop-higher.higher c.loop-higher.decided c.child_lists.ensures.shape n c.loop-higher.invariant

pub returns-clause-ordered : goal.returns-clause-ordered
returns-clause-ordered c =
    let n : length c.args.shape.now.children ≤ c.loop-lower.lower = omega arith in
    decided_all c.args.shape.now.children (sizes_of c.args.sizes.now) c.loop-lower.lower (c.loop-lower.lower + 1) c.loop-lower.decided c.child_lists.ensures.shape n c.loop-lower.invariant
