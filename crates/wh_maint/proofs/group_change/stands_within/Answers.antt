use Rattle.std.proofs.Common.{rules, ◌≡◌, ◌<◌, ◌+◌, ℕ, suc, sym, ap, subst, ◌∙◌, pos, false, FitsSigned, to_z, of_z, to_z-of_z, arith}
use mir.Syntax.{w128}
use Rattle.wh_row.specs.Bag.{count}
use Rattle.wh_maint.specs.Comp.{bag_at}
use Rattle.wh_maint.specs.Inner.Finishing.{stands_within}
use Rattle.wh_maint.proofs.DoneGroups.{stands_at, stands_next}
use Rattle.wh_maint.proofs.group_change.stands_within.Goals as goal

pub returns-then-added-ne0 : goal.returns-then-added-ne0
returns-then-added-ne0 c =
    let below : c.loop-column.column < c.args.columns = c.loop-column-test.true in
    sym (stands_at c.args.columns c.loop-column.column (bag_at c.args.pending.now.columns) c.args.group.now below (λ e. c.if-added-ne0.true (ap (of_z w128) (c.added.ensures ∙ e))))

pub loop-column-preserved : goal.loop-column-preserved
loop-column-preserved c =
    let n : ℕ = c.loop-column.column in
    let fits : FitsSigned w128 c.added.result = search rules in
    let none : count (bag_at c.args.pending.now.columns n) c.args.group.now ≡ pos 0 = sym c.added.ensures ∙ sym (to_z-of_z fits) ∙ ap (to_z w128) c.if-added-ne0.false in
    let next : suc n ≡ n + 1 = omega arith in
    subst (λ k. stands_within k (bag_at c.args.pending.now.columns) c.args.group.now ≡ false) next (stands_next n (bag_at c.args.pending.now.columns) c.args.group.now c.loop-column.invariant none)
