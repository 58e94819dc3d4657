use Rattle.std.proofs.Common.{ap, sym, ◌∙◌, arith, get_or, pos, rules, FitsSigned}
use mir.Syntax.{w64}
use Rattle.wh_versions.specs.Rows.{read}
use Rattle.wh_versions.proofs.PlaceLaws.{absent_place, is_below}
use Rattle.wh_versions.proofs.row.read_places.Goals as goal

pub returns-then-counts-place-lt0 : goal.returns-then-counts-place-lt0
returns-then-counts-place-lt0 c =
    let fits : FitsSigned w64 (get_or c.args.counts.now c.loop-place.place (pos 0)) = search rules in
    let below = is_below _ fits c.if-counts-place-lt0.true in
    sym (ap (read c.args.version) (absent_place c.args.numbers.now c.args.counts.now c.loop-place.place c.requires (omega arith) below)) ∙ c.loop-place.invariant
