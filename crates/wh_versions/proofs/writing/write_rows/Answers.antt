use Rattle.std.proofs.Common.{◌≢◌, ◌≤ℤ◌, ◌+◌, ◌∙◌, ap, sym, subst, rules, arith, drop, ◌∷◌, ℤ, pos, None, FitsSigned, to_z-of_z}
use mir.Syntax.{w64}
use Rattle.wh_pieces.specs.Row.{Row}
use Rattle.wh_pieces.specs.Pieces.{found}
use Rattle.wh_row.specs.Stored.{plain}
use Rattle.wh_row.specs.Weigh.{Counted}
use Rattle.wh_versions.specs.Tables.{HaveCounts, is_given}
use Rattle.wh_versions.proofs.TouchLaws.{given_first, plain_next}
use Rattle.wh_versions.proofs.writing.write_rows.Goals as goal

pub write_row-requires : goal.write_row-requires
write_row-requires g c =
    let given = c.args.given.now in
    let i = c.loop-row.row-index in
    let x = c.loop-row-item.result in
    let e : Row × ℤ = (x.0.items, x.1) in
    let next = plain_next given i x c.loop-row-item.is (omega arith) in
    let rest = plain (drop (i + 1) given) in
    let there : found e.0 c.loop-row.rows ≢ None = c.loop-row.invariant.there e.0 (ap (is_given e.0) next ∙ given_first e rest) in
    let counts : HaveCounts (e ∷ rest) = subst (λ (es : Counted). HaveCounts es) next c.loop-row.invariant.counts in
    let fits : FitsSigned w64 x.1 = search rules in
    (search rules, (subst (λ (r : Row). found r c.loop-row.rows ≢ None) (sym c.as_slice.ensures.value) there, subst (λ (z : ℤ). pos 0 ≤ℤ z) (sym (to_z-of_z fits)) counts.0))
