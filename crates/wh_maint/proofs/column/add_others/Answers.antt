use Rattle.std.proofs.Common.{rules, ◌≡◌, ◌≢◌, ap, sym, subst, ◌∙◌, ℤ, pos, ◌+ℤ◌, ◌∷◌, FitsSigned, of_z, to_z-of_z}
use Rattle.std.specs.Int.{w128}
use Rattle.wh_row.specs.Row.{Row, AreRising}
use Rattle.wh_row.specs.Weigh.{Counted}
use Rattle.wh_row.specs.Bag.{count, plus}
use Rattle.wh_row.proofs.BagLaws.{rising-written}
use Rattle.wh_maint.proofs.FirstAbsent.{rows_of, tail_rises}
use Rattle.wh_maint.proofs.NewSums.{zero_by, AreTold, AreFilled, all_told, one_told, filled_first, filled_there, filled_next, filled_past}
use Rattle.wh_maint.proofs.column.add_others.Goals as goal

pub loop-row-init : goal.loop-row-init
loop-row-init c =
    let all = c.into_iter-row-iterator.ensures.into_iter_gives ∙ c.rows-row-items.ensures in
    record {
      next = search rules;
      told = subst (AreTold c.args.others.now) (sym all) (all_told c.args.others.now);
      rising = subst (λ (es : Counted). AreRising (rows_of es)) (sym all) (rising-written c.args.others.now);
      filled = filled_first c.args.sums.now c.args.others.now c.args.new.now _ all;
    }

pub add_freely-requires-clause-there : goal.add_freely-requires-clause-there
add_freely-requires-clause-there c = λ z.
    let first : Row × ℤ = (c.in-Some.row.now, c.in-Some.more) in
    let rest = c.next.new.self in
    let steps : c.loop-row.row-iterator ≡ first ∷ rest = c.in-Some.ensures.steps in
    let none : count c.args.new.now first.0 ≡ pos 0 = sym c.sum.ensures ∙ zero_by c.sum.result (search rules) c.if-sum-eq0.true in
    let told = subst (AreTold c.args.others.now) steps c.loop-row.invariant.told in
    absurd (c.requires.there first.0 (one_told c.args.others.now first rest told)
    (sym (filled_there c.args.sums.now c.args.others.now c.args.new.now c.loop-row.sums first rest told (subst (λ (es : Counted). AreRising (rows_of es)) steps c.loop-row.invariant.rising) none
    (subst (AreFilled c.args.sums.now c.args.others.now c.args.new.now c.loop-row.sums) steps c.loop-row.invariant.filled))
    ∙ z))

pub add_freely-requires-clause-fits : goal.add_freely-requires-clause-fits
add_freely-requires-clause-fits c =
    let f : FitsSigned w128 c.in-Some.more = search rules in
    let first : Row × ℤ = (c.in-Some.row.now, c.in-Some.more) in
    let rest = c.next.new.self in
    let steps : c.loop-row.row-iterator ≡ first ∷ rest = c.in-Some.ensures.steps in
    let none : count c.args.new.now first.0 ≡ pos 0 = sym c.sum.ensures ∙ zero_by c.sum.result (search rules) c.if-sum-eq0.true in
    let told = subst (AreTold c.args.others.now) steps c.loop-row.invariant.told in
    let there = filled_there c.args.sums.now c.args.others.now c.args.new.now c.loop-row.sums first rest told (subst (λ (es : Counted). AreRising (rows_of es)) steps c.loop-row.invariant.rising) none
    (subst (AreFilled c.args.sums.now c.args.others.now c.args.new.now c.loop-row.sums) steps c.loop-row.invariant.filled) in
    subst (FitsSigned w128) (λ i. sym there i +ℤ sym (to_z-of_z f ∙ sym told.0.0) i) (c.requires.fits first.0 none)

pub loop-row-preserved-then-sum-eq0 : goal.loop-row-preserved-then-sum-eq0
loop-row-preserved-then-sum-eq0 c =
    let f : FitsSigned w128 c.in-Some.more = search rules in
    let first : Row × ℤ = (c.in-Some.row.now, c.in-Some.more) in
    let rest = c.next.new.self in
    let steps : c.loop-row.row-iterator ≡ first ∷ rest = c.in-Some.ensures.steps in
    let none : count c.args.new.now first.0 ≡ pos 0 = sym c.sum.ensures ∙ zero_by c.sum.result (search rules) c.if-sum-eq0.true in
    record {
      next = search rules;
      told = (subst (AreTold c.args.others.now) steps c.loop-row.invariant.told).1;
      rising = tail_rises first rest (subst (λ (es : Counted). AreRising (rows_of es)) steps c.loop-row.invariant.rising);
      filled = filled_next c.args.sums.now c.args.others.now c.args.new.now c.loop-row.sums c.add_freely.new.sums first rest none
          (c.add_freely.ensures ∙ ap (plus c.loop-row.sums first.0) (to_z-of_z f))
          (subst (AreFilled c.args.sums.now c.args.others.now c.args.new.now c.loop-row.sums) steps c.loop-row.invariant.filled);
    }

pub loop-row-preserved : goal.loop-row-preserved
loop-row-preserved c =
    let first : Row × ℤ = (c.in-Some.row.now, c.in-Some.more) in
    let rest = c.next.new.self in
    let steps : c.loop-row.row-iterator ≡ first ∷ rest = c.in-Some.ensures.steps in
    let some : count c.args.new.now first.0 ≢ pos 0 = λ z. c.if-sum-eq0.false (ap (of_z w128) (c.sum.ensures ∙ z)) in
    record {
      next = search rules;
      told = (subst (AreTold c.args.others.now) steps c.loop-row.invariant.told).1;
      rising = tail_rises first rest (subst (λ (es : Counted). AreRising (rows_of es)) steps c.loop-row.invariant.rising);
      filled = filled_past c.args.sums.now c.args.others.now c.args.new.now c.loop-row.sums first rest some (subst (AreFilled c.args.sums.now c.args.others.now c.args.new.now c.loop-row.sums) steps c.loop-row.invariant.filled);
    }
