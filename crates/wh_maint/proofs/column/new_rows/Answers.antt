use Rattle.std.proofs.Common.{rules, ◌≡◌, ◌≢◌, ap, sym, subst, ◌∙◌, ℤ, pos, ◌∷◌, FitsSigned, of_z, to_z-of_z}
use Rattle.std.specs.Int.{w128}
use Rattle.wh_row.specs.Row.{Row, AreRising}
use Rattle.wh_row.specs.Weigh.{Counted}
use Rattle.wh_row.specs.Bag.{count, plus}
use Rattle.wh_row.proofs.BagLaws.{rising-written}
use Rattle.wh_maint.proofs.FirstAbsent.{rows_of, tail_rises}
use Rattle.wh_maint.proofs.NewSums.{zero_by, AreTold, AreFound, all_told, found_first, found_none, found_new, found_old}
use Rattle.wh_maint.proofs.column.new_rows.Goals as goal

pub loop-row-init : goal.loop-row-init
loop-row-init c =
    let all = c.into_iter-row-iterator.ensures.into_iter_gives ∙ c.rows-row-items.ensures in
    record {
      next = search rules;
      told = subst (AreTold c.args.others.now) (sym all) (all_told c.args.others.now);
      rising = subst (λ (es : Counted). AreRising (rows_of es)) (sym all) (rising-written c.args.others.now);
      found = found_first c.args.sums.now c.args.others.now c.new-new.result _ all c.new-new.ensures;
    }

pub add_row-requires : goal.add_row-requires
add_row-requires c =
    let first : Row × ℤ = (c.in-Some.row.now, c.in-Some.more) in
    let rest = c.next.new.self in
    let steps : c.loop-row.row-iterator ≡ first ∷ rest = c.in-Some.ensures.steps in
    let none : count c.args.sums.now first.0 ≡ pos 0 = sym c.sum.ensures ∙ zero_by c.sum.result (search rules) c.if-sum-eq0.true in
    found_none c.args.sums.now c.args.others.now c.loop-row.new first rest (subst (AreTold c.args.others.now) steps c.loop-row.invariant.told)
    (subst (λ (es : Counted). AreRising (rows_of es)) steps c.loop-row.invariant.rising) none (subst (AreFound c.args.sums.now c.args.others.now c.loop-row.new) steps c.loop-row.invariant.found)

pub loop-row-preserved-in-Continue-1 : goal.loop-row-preserved-in-Continue-1
loop-row-preserved-in-Continue-1 c =
    let f : FitsSigned w128 c.in-Some.more = search rules in
    let first : Row × ℤ = (c.in-Some.row.now, c.in-Some.more) in
    let rest = c.next.new.self in
    let steps : c.loop-row.row-iterator ≡ first ∷ rest = c.in-Some.ensures.steps in
    let none : count c.args.sums.now first.0 ≡ pos 0 = sym c.sum.ensures ∙ zero_by c.sum.result (search rules) c.if-sum-eq0.true in
    record {
      next = search rules;
      told = (subst (AreTold c.args.others.now) steps c.loop-row.invariant.told).1;
      rising = tail_rises first rest (subst (λ (es : Counted). AreRising (rows_of es)) steps c.loop-row.invariant.rising);
      found = found_new c.args.sums.now c.args.others.now c.loop-row.new c.add_row.new.sums first rest none
          (c.in_ok-add_row.ensures.ok ∙ ap (plus c.loop-row.new first.0) (to_z-of_z f))
          (subst (AreFound c.args.sums.now c.args.others.now c.loop-row.new) steps c.loop-row.invariant.found);
    }

pub loop-row-preserved : goal.loop-row-preserved
loop-row-preserved c =
    let first : Row × ℤ = (c.in-Some.row.now, c.in-Some.more) in
    let rest = c.next.new.self in
    let steps : c.loop-row.row-iterator ≡ first ∷ rest = c.in-Some.ensures.steps in
    let some : count c.args.sums.now first.0 ≢ pos 0 = λ z. c.if-sum-eq0.false (ap (of_z w128) (c.sum.ensures ∙ z)) in
    record {
      next = search rules;
      told = (subst (AreTold c.args.others.now) steps c.loop-row.invariant.told).1;
      rising = tail_rises first rest (subst (λ (es : Counted). AreRising (rows_of es)) steps c.loop-row.invariant.rising);
      found = found_old c.args.sums.now c.args.others.now c.loop-row.new first rest some (subst (AreFound c.args.sums.now c.args.others.now c.loop-row.new) steps c.loop-row.invariant.found);
    }
