use Rattle.std.proofs.Common.{◌∙◌, ◌++◌, ◌∷◌, [], ap, rules, subst, sym, w64, FitsSigned}
use Rattle.std.proofs.lemmas.Int.{to_z-of_z}
use Rattle.wh_row.specs.Bag.{written}
use Rattle.whview.specs.Inner.Difference.{IsUnderway}
use Rattle.whview.proofs.Walks.{begun, moved_on, no_count, skipped}
use Rattle.whview.proofs.night.difference.changed_rows.Goals as goal

pub loop-row-init : goal.loop-row-init
loop-row-init c =
    let new = c.args.new.now in
    let old = c.args.old.now in
    subst (λ changed. IsUnderway new old changed c.new-coming.result c.new-leaving.result) (sym c.new-changed.ensures)
    (subst (λ coming. IsUnderway new old _ coming c.new-leaving.result) (sym (c.new-coming.ensures ∙ c.rows.ensures.rows))
    (subst (λ leaving. IsUnderway new old _ (written new) leaving) (sym (c.new-leaving.ensures ∙ c.rows-2.ensures.rows))
    (begun new old c.requires.new c.requires.old)))

pub loop-row-preserved-in-Continue-1 : goal.loop-row-preserved-in-Continue-1
loop-row-preserved-in-Continue-1 c =
    let new = c.args.new.now in
    let old = c.args.old.now in
    let fits : FitsSigned w64 c.in-Some.more = search rules in
    let pushed = c.in_ok-push.ensures.ok ∙ ap (λ n. c.loop-row.changed ++ (c.in-Some.row.now, n) ∷ []) (to_z-of_z w64 c.in-Some.more fits) in
    subst (λ changed. IsUnderway new old changed c.step.new.coming c.step.new.leaving) (sym pushed)
    (moved_on new old c.loop-row.changed c.loop-row.coming c.loop-row.leaving c.step.new.coming c.step.new.leaving (c.in-Some.row.now, c.in-Some.more)
    c.loop-row.invariant c.in-Some.ensures c.counts_fit.ensures c.counts_fit-2.ensures)

pub loop-row-preserved : goal.loop-row-preserved
loop-row-preserved c =
    let fits : FitsSigned w64 c.in-Some.more = search rules in
    skipped c.args.new.now c.args.old.now c.loop-row.changed c.loop-row.coming c.loop-row.leaving c.step.new.coming c.step.new.leaving (c.in-Some.row.now, c.in-Some.more)
    c.loop-row.invariant c.in-Some.ensures (no_count c.in-Some.more fits c.if-more-ne0.false)
