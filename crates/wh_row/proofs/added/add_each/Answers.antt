use Rattle.std.proofs.Common.{rules, ◌≡◌, sym, ap, subst, ◌∙◌, ◌+◌, ◌++◌, ℤ, Some, Err, take, slice_get, arith, FitsSigned, to_z, of_z, to_z-of_z}
use Rattle.std.proofs.lemmas.List.{take_all}
use mir.Syntax.{w64}
use Rattle.wh_row.specs.declared.fault.RecordsFault.TheVariants.{Large}
use Rattle.wh_row.specs.Row.{Row}
use Rattle.wh_row.specs.Weigh.{Counted}
use Rattle.wh_row.specs.Inner.Added.{AreAddedUp}
use Rattle.wh_row.proofs.AddedLaws.{added_next, first_at, place_behind}
use Rattle.wh_row.proofs.added.add_each.Goals as goal

pub loop-place-preserved : goal.loop-place-preserved
loop-place-preserved c = λ es up.
    let fn : FitsSigned w64 c.get-count.result.1 = search rules in
    let records = c.args.records.now in
    let row = c.get-count.result.0.now in
    let e : Row × ℤ = (row, to_z w64 (of_z w64 c.get-count.result.1)) in
    let is : slice_get records c.loop-place.place ≡ Some e = c.get-count.ensures ∙ (λ i. Some (row, sym (to_z-of_z fn) i)) in
    subst (AreAddedUp (es ++ take (c.loop-place.place + 1) records)) (sym c.in_default.ensures.ok)
    (added_next es records c.loop-place.place e c.loop-place.bag is c.in_default.ensures.fits (c.loop-place.invariant es up))

pub returns-in-Err-clause-large : goal.returns-in-Err-clause-large
returns-in-Err-clause-large c = λ es at up many told.
    let fn : FitsSigned w64 c.get-count.result.1 = search rules in
    let records = c.args.records.now in
    let row = c.get-count.result.0.now in
    let e : Row × ℤ = (row, to_z w64 (of_z w64 c.get-count.result.1)) in
    let is : slice_get records c.loop-place.place ≡ Some e = c.get-count.ensures ∙ (λ i. Some (row, sym (to_z-of_z fn) i)) in
    let large : c.at_place.result ≡ Large at = cc in
    let why = c.at_place.ensures.large at large in
    first_at es records c.loop-place.place e c.loop-place.bag at is (c.in-Err.ensures.large.0 (ap Err why.0)) (c.loop-place.invariant es up)
    (place_behind c.with.result c.args.before at _ c.loop-place.place c.with.ensures many why.1)

pub returns-clause-ok : goal.returns-clause-ok
returns-clause-ok c = λ es up.
    let records = c.args.records.now in
    subst (λ (rs : Counted). AreAddedUp (es ++ rs) c.loop-place.bag) (take_all c.loop-place.place records (omega arith)) (c.loop-place.invariant es up)
