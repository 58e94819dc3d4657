use Rattle.std.proofs.Common.{rules, ◌≡◌, sym, subst, ◌∙◌, ℤ, negsuc, ◌∷◌, FitsSigned, to_z, of_z, to_z-of_z}
use Rattle.std.specs.Prelude.{◌≤ℤ◌}
use Rattle.std.proofs.lemmas.Bool.{false≢true}
use mir.Syntax.{w64}
use Rattle.wh_row.specs.Row.{Row, AreRising}
use Rattle.wh_row.specs.Bag.{count}
use Rattle.wh_row.specs.Weigh.{Counted}
use Rattle.wh_row.proofs.BagLaws.{rising-written, count_in-written}
use Rattle.wh_maint.proofs.FirstAbsent.{rows_of, AreTold, NonePassed, told_written, absent_by, found, passed, tail_rises}
use Rattle.wh_maint.proofs.base_change.absent_in.Goals as goal

pub loop-row-init : goal.loop-row-init
loop-row-init c =
    let all = c.into_iter-row-iterator.ensures.into_iter_gives ∙ c.rows-row-items.ensures.rows in
    record {
      next = search rules;
      rising = subst (λ (es : Counted). AreRising (rows_of es)) (sym all) (rising-written c.args.bag.now);
      told = subst (AreTold c.args.bag.now) (sym all) (told_written c.args.bag.now);
      none = subst (NonePassed c.args.bag.now c.args.other.now) (sym all) (λ q _ _. count_in-written c.args.bag.now q);
    }

pub returns-then-is_short : goal.returns-then-is_short
returns-then-is_short c =
    let f : FitsSigned w64 c.in-Some.count = search rules in
    let e : Row × ℤ = (c.in-Some.row.now, c.in-Some.count) in
    let steps : c.loop-row.row-iterator ≡ e ∷ c.next.new.self = c.in-Some.ensures.steps in
    let told = subst (AreTold c.args.bag.now) steps c.loop-row.invariant.told in
    found c.args.bag.now c.args.other.now e c.next.new.self
    (subst (λ (es : Counted). AreRising (rows_of es)) steps c.loop-row.invariant.rising)
    (absent_by (count c.args.bag.now c.in-Some.row.now) (count c.args.other.now c.in-Some.row.now) (to_z w64 (of_z w64 c.in-Some.count))
    (told.0 ∙ sym (to_z-of_z f)) (c.is_short.ensures.0 c.if-is_short.true).1)
    (subst (NonePassed c.args.bag.now c.args.other.now) steps c.loop-row.invariant.none)

pub loop-row-preserved : goal.loop-row-preserved
loop-row-preserved c =
    let f : FitsSigned w64 c.in-Some.count = search rules in
    let e : Row × ℤ = (c.in-Some.row.now, c.in-Some.count) in
    let rest = c.next.new.self in
    let steps : c.loop-row.row-iterator ≡ e ∷ rest = c.in-Some.ensures.steps in
    let told = subst (AreTold c.args.bag.now) steps c.loop-row.invariant.told in
    record {
      next = search rules;
      rising = tail_rises e rest (subst (λ (es : Counted). AreRising (rows_of es)) steps c.loop-row.invariant.rising);
      told = told.1;
      none = passed c.args.bag.now c.args.other.now e rest
          (λ b a. false≢true (sym c.if-is_short.false ∙ c.is_short.ensures.1 (
            subst (λ z. z ≤ℤ negsuc 0) (told.0 ∙ sym (to_z-of_z f)) b,
            absent_by (to_z w64 (of_z w64 c.in-Some.count)) (count c.args.other.now c.in-Some.row.now) (count c.args.bag.now c.in-Some.row.now) (to_z-of_z f ∙ sym told.0) a,
          )))
          (subst (NonePassed c.args.bag.now c.args.other.now) steps c.loop-row.invariant.none);
    }
