use Rattle.std.proofs.Common.{rules, ◌≡◌, ◌∙◌, ◌++◌, ◌∷◌, [], ◌<◌, length, FitsSigned, to_z-of_z, pos, get_or}
use mir.Syntax.{w64}
use Rattle.wh_text_tables.specs.Inner.Pieces.{IsRenumbered}
use Rattle.wh_text_tables.proofs.PieceLaws.{row-one}
use Rattle.wh_text_tables.proofs.table.renumbered.renumber.Goals as goal

pub loop-place-init : goal.loop-place-init
unfolding IsRenumbered
loop-place-init c texts dict numbers = c.clear.ensures.items

pub loop-place-preserved : goal.loop-place-preserved
loop-place-preserved c texts dict numbers =
    let columns = c.args.columns.now in
    let row = c.args.row.now in
    let place = c.loop-place.place in
    let below : place < length columns = search rules in
    let long : length row ≡ length columns = search rules in
    let fits : FitsSigned w64 c.in-Some.cell = search rules in
    let cell : FitsSigned w64 (get_or row place (pos 0)) = search rules in
    let back = to_z-of_z fits in
    let pushed : c.push.new.self.items ≡ c.loop-place.out.items ++ c.in-Some.cell ∷ [] = c.in-Ok.ensures.items ∙ (λ i. c.loop-place.out.items ++ back i ∷ []) in
    rw pushed (row-one columns place c.index-columns-place.result dict texts row c.loop-place.out.items c.in-Some.cell c.index-columns-place.is below long
    (c.loop-place.invariant texts dict numbers) (rw (c.kind.ensures, to_z-of_z cell) at (c.in-Some.ensures texts dict numbers)))
