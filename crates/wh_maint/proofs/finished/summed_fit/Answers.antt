use Rattle.std.proofs.Common.{rules, ◌≡◌, ap, refl, sym, subst, ◌∙◌, ℕ, suc, ℤ, ◌∷◌, true, false, of_z}
use mir.Syntax.{w64}
use Rattle.std.proofs.lemmas.Bool.{false≢true}
use Rattle.wh_row.specs.Row.{Row}
use Rattle.wh_row.specs.Bag.{Bag}
use Rattle.wh_maint.specs.Comp.{bag_at}
use Rattle.wh_maint.proofs.CountsChecked.{AreChecked, checked_start, checked_step, checked_over}
use Rattle.wh_maint.specs.Inner.Finishing.{GroupCountFits}
use Rattle.wh_maint.proofs.finished.summed_fit.Goals as goal
use Rattle.wh_maint.proofs.finished.summed_fit.Goals.{else-count-eq0-via-then-count-eq0+else-not-count_fits, else-count-eq0-via-else-count-eq0}

pub loop-group-init : goal.loop-group-init
loop-group-init c =
    let p : ℕ → Bag = bag_at c.args.pending.now.columns in
    record {
      next = search rules;
      checked = checked_start c.args.sums c.args.table.now p (p (suc c.args.number)) _ (c.into_iter-group-iterator.ensures.into_iter_gives ∙ c.sum_rows-group-items.ensures);
    }

pub returns-then-not-count_fits : goal.returns-then-not-count_fits
returns-then-not-count_fits c =
    let p : ℕ → Bag = bag_at c.args.pending.now.columns in
    let e : Row × ℤ = (c.in-Some.group.now, c.in-Some.field-0-1) in
    let steps : c.loop-group.group-iterator ≡ e ∷ c.next.new.self = c.in-Some.ensures.steps in
    let h = subst (AreChecked c.args.sums c.args.table.now p (p (suc c.args.number))) steps c.loop-group.invariant.checked in
    let large : c.count_fits.result ≡ false = search rules in
    (λ t. absurd (false≢true t), λ all. absurd (false≢true (sym large ∙ c.count_fits.ensures.1 (all c.in-Some.group.now h.left.count.0))))

pub loop-group-preserved : goal.loop-group-preserved
loop-group-preserved c =
    let p : ℕ → Bag = bag_at c.args.pending.now.columns in
    let e : Row × ℤ = (c.in-Some.group.now, c.in-Some.field-0-1) in
    let steps : c.loop-group.group-iterator ≡ e ∷ c.next.new.self = c.in-Some.ensures.steps in
    let h = subst (AreChecked c.args.sums c.args.table.now p (p (suc c.args.number))) steps c.loop-group.invariant.checked in
    let fits : GroupCountFits c.args.sums c.args.table.now p c.in-Some.group.now = elim c.else-count-eq0.branch [
      | else-count-eq0-via-then-count-eq0+else-not-count_fits w ↦
          let fine : w.count_fits.result ≡ true = search rules in
          w.count_fits.ensures.0 fine
      | else-count-eq0-via-else-count-eq0 w ↦ c.requires.counted c.in-Some.group.now (λ z. w.if-count-eq0.false (ap (of_z w64) (c.count.ensures ∙ z)))
    ] in
    record {
      next = search rules;
      checked = checked_step c.args.sums c.args.table.now p (p (suc c.args.number)) e c.next.new.self fits h;
    }

pub returns : goal.returns
returns c =
    let p : ℕ → Bag = bag_at c.args.pending.now.columns in
    (λ _. checked_over c.args.sums c.args.table.now p (suc c.args.number) (subst (AreChecked c.args.sums c.args.table.now p (p (suc c.args.number))) c.in-None.ensures.steps.0 c.loop-group.invariant.checked), λ _. refl)
