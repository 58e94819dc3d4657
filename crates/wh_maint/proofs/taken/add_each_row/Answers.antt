use Rattle.std.proofs.Common.{rules, ◌≡◌, ap, sym, subst, ◌∙◌, ℤ, ◌+ℤ◌, [], ◌∷◌, FitsSigned, to_z-of_z}
use Rattle.std.specs.Int.{w128}
use Rattle.wh_row.specs.Row.{Row, AreRising}
use Rattle.wh_row.specs.Weigh.{Counted}
use Rattle.wh_row.specs.Bag.{plus, HasRowsOf}
use Rattle.wh_row.proofs.BagLaws.{rising-written}
use Rattle.wh_maint.proofs.FirstAbsent.{rows_of, tail_rises}
use Rattle.wh_maint.proofs.NewSums.{AreTold, HaveComeBy, all_told, come_first, come_there, come_next, come_all, brings_one}
use Rattle.wh_maint.proofs.taken.add_each_row.Goals as goal

pub loop-row-init : goal.loop-row-init
loop-row-init c =
    let all = c.into_iter-row-iterator.ensures.into_iter_gives ∙ c.rows-row-items.ensures in
    record {
      next = search rules;
      told = subst (AreTold c.args.others.now) (sym all) (all_told c.args.others.now);
      rising = subst (λ (es : Counted). AreRising (rows_of es)) (sym all) (rising-written c.args.others.now);
      come = come_first c.args.sums.now c.args.others.now _ all;
    }

pub add_row-requires : goal.add_row-requires
add_row-requires c =
    let f : FitsSigned w128 c.in-Some.more = search rules in
    let first : Row × ℤ = (c.in-Some.row.now, c.in-Some.more) in
    let rest = c.next.new.self in
    let steps : c.loop-row.row-iterator ≡ first ∷ rest = c.in-Some.ensures.steps in
    let told = subst (AreTold c.args.others.now) steps c.loop-row.invariant.told in
    let there = come_there c.args.sums.now c.args.others.now c.loop-row.sums first rest told (subst (λ (es : Counted). AreRising (rows_of es)) steps c.loop-row.invariant.rising)
    (subst (HaveComeBy c.args.sums.now c.args.others.now c.loop-row.sums) steps c.loop-row.invariant.come) in
    subst (FitsSigned w128) (λ i. sym there i +ℤ sym (to_z-of_z f ∙ sym told.0.0) i) (c.requires first.0)

pub loop-row-preserved : goal.loop-row-preserved
loop-row-preserved c =
    let f : FitsSigned w128 c.in-Some.more = search rules in
    let first : Row × ℤ = (c.in-Some.row.now, c.in-Some.more) in
    let rest = c.next.new.self in
    let steps : c.loop-row.row-iterator ≡ first ∷ rest = c.in-Some.ensures.steps in
    record {
      next = search rules;
      told = (subst (AreTold c.args.others.now) steps c.loop-row.invariant.told).1;
      rising = tail_rises first rest (subst (λ (es : Counted). AreRising (rows_of es)) steps c.loop-row.invariant.rising);
      come = come_next c.args.sums.now c.args.others.now c.loop-row.sums c.add_row.new.sums first rest
          (c.in_ok-add_row.ensures.ok ∙ ap (plus c.loop-row.sums first.0) (to_z-of_z f))
          (subst (HaveComeBy c.args.sums.now c.args.others.now c.loop-row.sums) steps c.loop-row.invariant.come);
    }

pub returns-in_err-add_row-clause-memory : goal.returns-in_err-add_row-clause-memory
returns-in_err-add_row-clause-memory c =
    let first : Row × ℤ = (c.in-Some.row.now, c.in-Some.more) in
    let rest = c.next.new.self in
    let steps : c.loop-row.row-iterator ≡ first ∷ rest = c.in-Some.ensures.steps in
    let told = subst (AreTold c.args.others.now) steps c.loop-row.invariant.told in
    let there = come_there c.args.sums.now c.args.others.now c.loop-row.sums first rest told (subst (λ (es : Counted). AreRising (rows_of es)) steps c.loop-row.invariant.rising)
    (subst (HaveComeBy c.args.sums.now c.args.others.now c.loop-row.sums) steps c.loop-row.invariant.come) in
    let new : ¬ (HasRowsOf c.args.sums.now c.args.others.now) =
    brings_one c.args.sums.now c.args.others.now first rest told (sym there ∙ c.in_err-add_row.ensures.memory) in
    search (rules, new)

pub returns-clause-sum : goal.returns-clause-sum
returns-clause-sum c =
    come_all c.args.sums.now c.args.others.now c.loop-row.sums
    (let none : c.loop-row.row-iterator ≡ [] = search rules in subst (HaveComeBy c.args.sums.now c.args.others.now c.loop-row.sums) none c.loop-row.invariant.come)
