use Rattle.std.proofs.Common.{get_or, arith}
use Rattle.wh_cert.proofs.Tables.{couples_none, couples_in, couples_out}
use Rattle.wh_cert.proofs.relation.Relation.of_couples.Goals as goal
use Rattle.wh_cert.proofs.relation.Relation.of_couples.Goals.{then-u-lt-MAX_VIEWS+then-w-lt-MAX_VIEWS, else-u-lt-MAX_VIEWS, else-u-lt-MAX_VIEWS-via-then-u-lt-MAX_VIEWS+else-w-lt-MAX_VIEWS, else-u-lt-MAX_VIEWS-via-else-u-lt-MAX_VIEWS}

pub loop-u-init : goal.loop-u-init
loop-u-init c a b x y = couples_none c.new-first.result c.new-first.ensures a b

pub loop-u-preserved : goal.loop-u-preserved
loop-u-preserved c a b x y =
    let k = c.loop-u.u-index in
    let d = get_or c.args.couples.now k (0, 0) in
    elim c.if-u-lt-MAX_VIEWS.branch [
      | then-u-lt-MAX_VIEWS+then-w-lt-MAX_VIEWS w ↦
          rw w.first-is (couples_in c.args.couples.now _ _ k (0, 0) c.loop-u-test.true a b (c.loop-u.invariant a b x y) (w.insert.ensures a b))
      | else-u-lt-MAX_VIEWS w ↦
          rw w.first-is
          (elim w.else-u-lt-MAX_VIEWS.branch [
            | else-u-lt-MAX_VIEWS-via-then-u-lt-MAX_VIEWS+else-w-lt-MAX_VIEWS v ↦ couples_out c.args.couples.now _ k (0, 0) c.loop-u-test.true a b x y (λ p q. let l = v.if-w-lt-MAX_VIEWS.false in omega arith) (c.loop-u.invariant a b x y)
            | else-u-lt-MAX_VIEWS-via-else-u-lt-MAX_VIEWS v ↦ couples_out c.args.couples.now _ k (0, 0) c.loop-u-test.true a b x y (λ p q. let l = v.if-u-lt-MAX_VIEWS.false in omega arith) (c.loop-u.invariant a b x y)
          ])
    ]
