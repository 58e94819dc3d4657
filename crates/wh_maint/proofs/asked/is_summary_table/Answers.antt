use Rattle.std.proofs.Common.{rules, ◌≡◌, ◌↔◌, sym, ap, ◌∙◌, subst, ℤ, pos, [], ◌∷◌, ◌||◌, FitsSigned, to_z, of_z, to_z-of_z}
use mir.Syntax.{w64}
use Rattle.std.proofs.lemmas.Bool.{both_ways, false≢true}
use Rattle.wh_row.specs.Row.{Row, is_row}
use Rattle.wh_row.specs.Weigh.{Counted}
use Rattle.wh_row.specs.Bag.{count, written}
use Rattle.wh_row.proofs.WrittenLaws.{written-empty}
use Rattle.wh_maint.specs.Fit.{IsSummaryTable}
use Rattle.wh_maint.specs.Inner.Fit.{IsSummaryRow}
use Rattle.wh_maint.specs.Summary.{is_nonzero}
use Rattle.wh_maint.proofs.NewRows.{nonzero_is}
use Rattle.wh_maint.proofs.FitTests.{RowsAreApart, left_start, left_step, group_is_new}
use Rattle.wh_maint.proofs.asked.is_summary_table.Goals as goal

pub loop-row-init : goal.loop-row-init
loop-row-init c = record {
  next = search rules;
  some = λ n e. n (c.into_iter-row-iterator.ensures.into_iter_gives ∙ c.rows-row-items.ensures.rows ∙ ap written e ∙ written-empty);
  left = left_start c.args.sums c.args.table.now _ _ (c.into_iter-row-iterator.ensures.into_iter_gives ∙ c.rows-row-items.ensures.rows) c.new-seen.ensures;
}

pub returns-then-count-ne0-clause-fit : goal.returns-then-count-ne0-clause-fit
returns-then-count-ne0-clause-fit c =
    let e : Row × ℤ = (c.in-Some.row.now, c.in-Some.count) in
    let steps : c.loop-row.row-iterator ≡ e ∷ c.next.new.self = c.in-Some.ensures.steps in
    let left = subst (λ (es : Counted). IsSummaryTable c.args.sums c.args.table.now ↔ RowsAreApart c.args.sums es c.loop-row.seen) steps c.loop-row.invariant.left in (
      λ t. absurd (false≢true t),
      λ h.
          let new = group_is_new c.args.sums e c.next.new.self c.loop-row.seen (left.0 h.1) in
          let counts = nonzero_is (count c.loop-row.seen c.group_in-group.result.now) (λ z. c.if-count-ne0.true (ap (of_z w64) (c.count.ensures ∙ z))) in
          absurd (both_ways _ new (ap (λ x. is_nonzero (count c.loop-row.seen x)) (sym c.group_in-group.ensures) ∙ counts)),
    )

pub returns-in_default-clause-memory : goal.returns-in_default-clause-memory
returns-in_default-clause-memory c =
    let steps : c.loop-row.row-iterator ≡ (c.in-Some.row.now, c.in-Some.count) ∷ c.next.new.self = c.in-Some.ensures.steps in
    c.loop-row.invariant.some (λ e. let bad : ((c.in-Some.row.now, c.in-Some.count) ∷ c.next.new.self) ≡ [] = sym steps ∙ e in cc)

pub loop-row-preserved : goal.loop-row-preserved
loop-row-preserved c =
    let e : Row × ℤ = (c.in-Some.row.now, c.in-Some.count) in
    let steps : c.loop-row.row-iterator ≡ e ∷ c.next.new.self = c.in-Some.ensures.steps in
    let left = subst (λ (es : Counted). IsSummaryTable c.args.sums c.args.table.now ↔ RowsAreApart c.args.sums es c.loop-row.seen) steps c.loop-row.invariant.left in
    let fits : FitsSigned w64 c.count.result = search rules in
    let once : FitsSigned w64 c.in-Some.count = search rules in
    let none : count c.loop-row.seen c.group_in-group.result.now ≡ pos 0 = sym c.count.ensures ∙ sym (to_z-of_z fits) ∙ ap (to_z w64) c.if-count-ne0.false in
    let step = left_step c.args.sums e c.next.new.self c.loop-row.seen c.note.new.seen (subst (λ (n : ℤ). IsSummaryRow c.args.sums c.in-Some.row.now n) (to_z-of_z once) (c.is_summary_row.ensures.0 c.if-not-is_summary_row.false))
    (ap (λ x. is_nonzero (count c.loop-row.seen x)) (sym c.group_in-group.ensures) ∙ ap is_nonzero none)
    (λ g. c.in-Ok.ensures.noted g ∙ ap (λ x. is_row g x || is_nonzero (count c.loop-row.seen g)) c.group_in-group.ensures) in
    record {
      next = search rules;
      some = λ _. c.loop-row.invariant.some (λ z. let bad : (e ∷ c.next.new.self) ≡ [] = sym steps ∙ z in cc);
      left = (λ fit. step.0 (left.0 fit), λ h. left.1 (step.1 h));
    }
