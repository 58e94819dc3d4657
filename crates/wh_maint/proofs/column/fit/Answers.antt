use Rattle.std.proofs.Common.{rules, ◌≡◌, sym, subst, ◌∙◌, ℤ, ◌+ℤ◌, ◌∷◌, FitsSigned, to_z-of_z}
use Rattle.std.specs.Int.{w128}
use Rattle.wh_row.specs.Row.{Row}
use Rattle.wh_row.specs.Bag.{count}
use Rattle.wh_maint.proofs.NewSums.{AreTold, HaveFit, all_told, fit_first, fit_next}
use Rattle.wh_maint.proofs.column.fit.Goals as goal

pub loop-row-init : goal.loop-row-init
loop-row-init c =
    let all = c.into_iter-row-iterator.ensures.into_iter_gives ∙ c.rows-row-items.ensures in
    record {
      next = search rules;
      told = subst (AreTold c.args.others.now) (sym all) (all_told c.args.others.now);
      fit = fit_first c.args.sums.now c.args.others.now _ all;
    }

pub loop-row-preserved : goal.loop-row-preserved
loop-row-preserved c =
    let f : FitsSigned w128 c.in-Some.more = search rules in
    let first : Row × ℤ = (c.in-Some.row.now, c.in-Some.more) in
    let rest = c.next.new.self in
    let steps : c.loop-row.row-iterator ≡ first ∷ rest = c.in-Some.ensures.steps in
    let told = subst (AreTold c.args.others.now) steps c.loop-row.invariant.told in
    let sums = c.args.sums.now in
    let here : FitsSigned w128 (count sums c.in-Some.row.now +ℤ c.in-Some.more) =
    subst (λ z. FitsSigned w128 (count sums c.in-Some.row.now +ℤ z)) (to_z-of_z f)
    (c.can_add.ensures.0 c.if-not-can_add.false) in
    record {
      next = search rules;
      told = told.1;
      fit = fit_next sums c.args.others.now first rest told here (subst (HaveFit sums c.args.others.now) steps c.loop-row.invariant.fit);
    }
