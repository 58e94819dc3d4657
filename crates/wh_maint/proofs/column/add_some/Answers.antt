use Rattle.std.proofs.Common.{rules, ◌≡◌, ◌≢◌, ap, sym, subst, ◌∙◌, ℤ, ◌∷◌, FitsSigned, to_z-of_z}
use Rattle.std.specs.Int.{w128}
use Rattle.wh_row.specs.Row.{Row, AreRising}
use Rattle.wh_row.specs.Weigh.{Counted}
use Rattle.wh_row.specs.Bag.{plus, empty}
use Rattle.wh_row.proofs.BagLaws.{rising-written}
use Rattle.wh_maint.proofs.FirstAbsent.{rows_of, tail_rises}
use Rattle.wh_maint.proofs.NewSums.{AreTold, AreBeingAdded, all_told, adding_first, adding_none, adding_next, has_one}
use Rattle.wh_maint.proofs.column.add_some.Goals as goal

pub loop-row-init : goal.loop-row-init
loop-row-init c =
    let all = c.into_iter-row-iterator.ensures.into_iter_gives ∙ c.rows-row-items.ensures in
    record {
      next = search rules;
      told = subst (AreTold c.args.new.now) (sym all) (all_told c.args.new.now);
      rising = subst (λ (es : Counted). AreRising (rows_of es)) (sym all) (rising-written c.args.new.now);
      adding = adding_first c.args.sums.now c.args.new.now _ all;
    }

pub add_row-requires : goal.add_row-requires
add_row-requires c =
    let first : Row × ℤ = (c.in-Some.row.now, c.in-Some.sum) in
    let rest = c.next.new.self in
    let steps : c.loop-row.row-iterator ≡ first ∷ rest = c.in-Some.ensures.steps in
    adding_none c.args.sums.now c.args.new.now c.loop-row.sums first rest (subst (AreTold c.args.new.now) steps c.loop-row.invariant.told)
    (subst (λ (es : Counted). AreRising (rows_of es)) steps c.loop-row.invariant.rising) c.requires (subst (AreBeingAdded c.args.sums.now c.args.new.now c.loop-row.sums) steps c.loop-row.invariant.adding)

pub loop-row-preserved : goal.loop-row-preserved
loop-row-preserved c =
    let f : FitsSigned w128 c.in-Some.sum = search rules in
    let first : Row × ℤ = (c.in-Some.row.now, c.in-Some.sum) in
    let rest = c.next.new.self in
    let steps : c.loop-row.row-iterator ≡ first ∷ rest = c.in-Some.ensures.steps in
    let told = subst (AreTold c.args.new.now) steps c.loop-row.invariant.told in
    record {
      next = search rules;
      told = told.1;
      rising = tail_rises first rest (subst (λ (es : Counted). AreRising (rows_of es)) steps c.loop-row.invariant.rising);
      adding = adding_next c.args.sums.now c.args.new.now c.loop-row.sums c.add_row.new.sums first rest told
          (c.in_ok-add_row.ensures.ok ∙ ap (plus c.loop-row.sums first.0) (to_z-of_z f))
          (subst (AreBeingAdded c.args.sums.now c.args.new.now c.loop-row.sums) steps c.loop-row.invariant.adding);
    }

pub returns-in_err-add_row-clause-memory : goal.returns-in_err-add_row-clause-memory
returns-in_err-add_row-clause-memory c =
    let first : Row × ℤ = (c.in-Some.row.now, c.in-Some.sum) in
    let rest = c.next.new.self in
    let steps : c.loop-row.row-iterator ≡ first ∷ rest = c.in-Some.ensures.steps in
    let some : c.args.new.now ≢ empty = has_one c.args.new.now first rest (subst (AreTold c.args.new.now) steps c.loop-row.invariant.told) in
    search (rules, some)
