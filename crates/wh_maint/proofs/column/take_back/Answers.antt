use Rattle.std.proofs.Common.{rules, ◌≡◌, sym, subst, ◌∙◌, ℤ, ◌∷◌}
use Rattle.wh_row.specs.Row.{Row}
use Rattle.wh_maint.proofs.NewSums.{AreTold, AreBeingTaken, all_told, taking_first, taking_next}
use Rattle.wh_maint.proofs.column.take_back.Goals as goal

pub loop-row-init : goal.loop-row-init
loop-row-init c =
    let all = c.into_iter-row-iterator.ensures.into_iter_gives ∙ c.rows-row-items.ensures in
    record {
      next = search rules;
      told = subst (AreTold c.args.new.now) (sym all) (all_told c.args.new.now);
      taking = taking_first c.args.sums.now c.args.new.now _ all;
    }

pub loop-row-preserved : goal.loop-row-preserved
loop-row-preserved c =
    let first : Row × ℤ = (c.in-Some.row.now, c.in-Some.field-0-1) in
    let rest = c.next.new.self in
    let steps : c.loop-row.row-iterator ≡ first ∷ rest = c.in-Some.ensures.steps in
    let told = subst (AreTold c.args.new.now) steps c.loop-row.invariant.told in
    record {
      next = search rules;
      told = told.1;
      taking = taking_next c.args.sums.now c.args.new.now c.loop-row.sums c.take_row.new.sums first rest told
          c.take_row.ensures
          (subst (AreBeingTaken c.args.sums.now c.args.new.now c.loop-row.sums) steps c.loop-row.invariant.taking);
    }
