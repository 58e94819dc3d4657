use Rattle.std.proofs.Common.{rules, ◌≡◌, ◌∙◌, ◌++◌, ◌∷◌, [], ◌+◌, ℤ, take, refl, FitsSigned, to_z-of_z}
use mir.Syntax.{w64}
use Rattle.wh_row.specs.Row.{Row}
use Rattle.wh_text.specs.Columns.{kinds_of}
use Rattle.wh_text_tables.specs.Inner.Pieces.{IsPartRenumbered}
use Rattle.wh_text_tables.proofs.PieceLaws.{part-one, take-one}
use Rattle.wh_text_tables.proofs.table.renumbered.renumbered.Goals as goal

pub loop-place-init : goal.loop-place-init
unfolding IsPartRenumbered
loop-place-init c dict texts numbers = c.in-Ok.ensures.same ∙ c.new-all.ensures

pub loop-place-preserved : goal.loop-place-preserved
loop-place-preserved c dict texts numbers =
    let records = c.args.records.now in
    let place = c.loop-place.place in
    let entry : Row × ℤ = (c.get-count.result.0.now, c.get-count.result.1) in
    let more : take (place + 1) records ≡ take place records ++ entry ∷ [] = take-one records place entry c.get-count.ensures in
    let fits : FitsSigned w64 c.get-count.result.1 = search rules in
    let back = to_z-of_z fits in
    let own : Row × ℤ = (c.renumber.new.out.items, c.get-count.result.1) in
    let pushed : c.push.new.self ≡ c.loop-place.all ++ own ∷ [] =
    c.in-Ok-push.ensures.ok ∙ (λ i. c.loop-place.all ++ (c.deref.ensures.value i, back i) ∷ []) in
    rw (more, pushed) (part-one (kinds_of c.args.columns.now) dict texts (take place records) c.loop-place.all entry own (c.loop-place.invariant dict texts numbers) refl (c.renumber.ensures c.if-not-renumber.false texts dict numbers))
