use Rattle.std.proofs.Common.{◌∙◌, sym, ap, eqb, get_or, ◌||◌, arith}
use Rattle.wh_minwork.specs.Inner.Sets.{in_rows}
use Rattle.wh_cert.proofs.Tables.{couples_in, couples_out}
use Rattle.wh_minwork.proofs.Drafting.{and_swap}
use Rattle.wh_minwork.proofs.Looking.{none_decided}
use Rattle.wh_minwork.proofs.edge_sets.before_of.Goals as goal
use Rattle.wh_minwork.proofs.edge_sets.before_of.Goals.{then-u-lt-MAX_VIEWS+then-w-lt-MAX_VIEWS, else-u-lt-MAX_VIEWS, else-u-lt-MAX_VIEWS-via-then-u-lt-MAX_VIEWS+else-w-lt-MAX_VIEWS, else-u-lt-MAX_VIEWS-via-else-u-lt-MAX_VIEWS}

pub loop-u-init : goal.loop-u-init
loop-u-init c a b x y = c.none-before.ensures b a ∙ sym (none_decided a b)

pub loop-u-preserved : goal.loop-u-preserved
loop-u-preserved c a b x y =
    let k = c.loop-u.u-index in
    let d = get_or c.args.decided.now k (0, 0) in
    elim c.if-u-lt-MAX_VIEWS.branch [
      | then-u-lt-MAX_VIEWS+then-w-lt-MAX_VIEWS w ↦
          rw w.before-is (couples_in c.args.decided.now _ _ k (0, 0) c.loop-u-test.true a b (c.loop-u.invariant a b x y) (w.add.ensures b a ∙ ap (λ z. z || in_rows c.loop-u.before b a) (and_swap (eqb d.1 b) (eqb d.0 a))))
      | else-u-lt-MAX_VIEWS w ↦
          rw w.before-is
          (elim w.else-u-lt-MAX_VIEWS.branch [
            | else-u-lt-MAX_VIEWS-via-then-u-lt-MAX_VIEWS+else-w-lt-MAX_VIEWS v ↦ couples_out c.args.decided.now _ k (0, 0) c.loop-u-test.true a b x y (λ p q. let l = v.if-w-lt-MAX_VIEWS.false in omega arith) (c.loop-u.invariant a b x y)
            | else-u-lt-MAX_VIEWS-via-else-u-lt-MAX_VIEWS v ↦ couples_out c.args.decided.now _ k (0, 0) c.loop-u-test.true a b x y (λ p q. let l = v.if-u-lt-MAX_VIEWS.false in omega arith) (c.loop-u.invariant a b x y)
          ])
    ]
