use Rattle.std.proofs.Common.{◌≡◌, subst, ◌≤◌, ◌+◌, suc, arith}
use Rattle.wh_maint.specs.Comp.{bag_at}
use Rattle.wh_maint.specs.Inner.Finishing.{AreMade, stands_within}
use Rattle.wh_maint.proofs.DoneGroups.{all_made, all_valued}
use Rattle.wh_maint.proofs.finished.summary_change.Goals as goal

pub returns-clause-change : goal.returns-clause-change
returns-clause-change c =
    let most : c.loop-number.number ≤ c.args.sums = c.loop-number.auto.number-end in
    let least : c.args.sums ≤ c.loop-number.number = c.loop-number-test.false in
    let over : c.loop-number.number ≡ c.args.sums = omega arith in
    all_made c.args.sums c.args.table.now (bag_at c.args.pending.now.columns) c.loop-number.change
    (subst (λ n. AreMade c.args.sums c.args.table.now (bag_at c.args.pending.now.columns) (stands_within (suc n) (bag_at c.args.pending.now.columns)) c.loop-number.change) over c.loop-number.invariant)

pub returns-clause-sums : goal.returns-clause-sums
returns-clause-sums c =
    let most : c.loop-number.number ≤ c.args.sums = c.loop-number.auto.number-end in
    let least : c.args.sums ≤ c.loop-number.number = c.loop-number-test.false in
    let over : c.loop-number.number ≡ c.args.sums = omega arith in
    all_valued c.args.sums c.args.table.now (bag_at c.args.pending.now.columns) c.loop-number.change
    (subst (λ n. AreMade c.args.sums c.args.table.now (bag_at c.args.pending.now.columns) (stands_within (suc n) (bag_at c.args.pending.now.columns)) c.loop-number.change) over c.loop-number.invariant)

pub loop-number-preserved : goal.loop-number-preserved
loop-number-preserved c =
    let next : suc c.loop-number.number ≡ c.loop-number.number + 1 = omega arith in
    subst (λ n. AreMade c.args.sums c.args.table.now (bag_at c.args.pending.now.columns) (stands_within (suc n) (bag_at c.args.pending.now.columns)) c.add_summed.new.change) next c.in_ok-add_summed.ensures.made
