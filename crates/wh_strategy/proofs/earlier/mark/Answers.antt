use Rattle.std.proofs.Common.{◌<◌, length, get_or, arith}
use Rattle.wh_strategy.proofs.Marks.{marked_none, marked_more, marked_same}
use Rattle.wh_strategy.proofs.earlier.mark.Goals as goal
use Rattle.wh_strategy.proofs.earlier.mark.Goals.{then-u-lt-MAX_VIEWS, else-u-lt-MAX_VIEWS}

pub loop-u-init : goal.loop-u-init
loop-u-init c = marked_none c.args.row.now

pub loop-u-preserved : goal.loop-u-preserved
loop-u-preserved c =
    elim c.if-u-lt-MAX_VIEWS.branch [
      | then-u-lt-MAX_VIEWS w ↦
          let long = c.if-u-lt-MAX_VIEWS.array_long in
          let within : get_or c.args.views.now c.loop-u.u-index 0 < length c.loop-u.row = omega (arith, w.if-u-lt-MAX_VIEWS.true) in
          rw w.row-is (marked_more c.loop-u.row c.args.row.now c.args.views.now c.loop-u.u-index c.loop-u-test.true within c.loop-u.invariant)
      | else-u-lt-MAX_VIEWS w ↦
          rw w.row-is (marked_same c.loop-u.row c.args.row.now c.args.views.now c.loop-u.u-index c.loop-u-test.true w.if-u-lt-MAX_VIEWS.false c.loop-u.invariant)
    ]
