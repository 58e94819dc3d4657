use Rattle.std.proofs.Common.{◌≡◌, ◌∙◌, ◌-◌, ◌+◌, ◌<◌, ◌≤◌, ℕ, refl, sym, subst, List, length, arith, IfOk}
use Rattle.std.specs.List.{All, AllZip, range_with_len}
use Rattle.std.proofs.lemmas.Iterator.{YieldsList-from_range, items_from_collect}
use Rattle.wh_maint.specs.Comp.{bag_at}
use Rattle.wh_maint.specs.Inner.Opening.{CanBeAsked, IsAnswerOf}
use Rattle.wh_maint.proofs.OpenedContents.{run_asked}
use Rattle.wh_maint.proofs.run.evaluate_run.Goals as goal

pub evaluate_each-requires-clause-asked : goal.evaluate_each-requires-clause-asked
evaluate_each-requires-clause-asked g c κs within =
    let first = c.args.first in
    let end = c.args.end in
    let numbers : c.in_ok-views.views.items ≡ range_with_len first (end - first) = subst (λ r. IfOk r (λ v. v.items ≡ range_with_len first (end - first))) c.in_ok-views.was
    (items_from_collect c.collect.result c.collect.ensures.ran (YieldsList-from_range first end (end - first) (cc) refl)) in
    subst (All (CanBeAsked c.args.catalog.now c.args.tables.now)) (sym (c.as_slice.ensures.value ∙ numbers))
    (run_asked c.args.catalog.now c.args.tables.now first (end - first) (omega (arith, c.requires.first, c.requires.end)) c.requires.bags)

pub returns : goal.returns
returns g c =
    let first = c.args.first in
    let end = c.args.end in
    let numbers : c.in_ok-views.views.items ≡ range_with_len first (end - first) = subst (λ r. IfOk r (λ v. v.items ≡ range_with_len first (end - first))) c.in_ok-views.was
    (items_from_collect c.collect.result c.collect.ensures.ran (YieldsList-from_range first end (end - first) (cc) refl)) in
    subst (λ (views : List ℕ). IfOk c.evaluate_each.result (λ answers. AllZip (IsAnswerOf c.args.catalog.now (bag_at c.args.tables.now)) views answers.items))
    (c.as_slice.ensures.value ∙ numbers) c.evaluate_each.ensures
