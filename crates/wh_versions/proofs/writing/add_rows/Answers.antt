use Rattle.std.proofs.Common.{ap, sym, subst, ◌∙◌, ◌+◌, ◌≡◌, ◌⊎◌, arith, drop, None, false}
use Rattle.wh_pieces.specs.Row.{Row, is_row}
use Rattle.wh_pieces.specs.Pieces.{found}
use Rattle.wh_row.specs.Stored.{plain}
use Rattle.wh_row.specs.Weigh.{Counted}
use Rattle.wh_versions.specs.Tables.{added}
use Rattle.wh_versions.specs.Inner.Tables.{is_in}
use Rattle.wh_versions.proofs.TouchLaws.{IsAdding, adding_more, new_row, plain_next}
use Rattle.wh_versions.proofs.PageLaws.{told}
use Rattle.wh_versions.proofs.writing.add_rows.Goals as goal

pub loop-row-preserved : goal.loop-row-preserved
loop-row-preserved g c =
    let given = c.args.given.now in
    let i = c.loop-row.row-index in
    let x = c.loop-row-item.result in
    let next = plain_next given i x c.loop-row-item.is (omega arith) in
    let now = c.loop-row.rows in
    let is = subst (λ (es : Counted). IsAdding (plain given) es c.args.rows.now now c.args.touched.now c.loop-row.touched) next c.loop-row.invariant in
    adding_more (plain given) (plain (drop (i + 1) given)) (x.0.items, x.1) c.args.rows.now now c.add_row.new.rows c.args.touched.now c.loop-row.touched c.add_row.new.touched is
    (λ q. c.in_ok-add_row.ensures.ok q ∙ ap (λ r. added (is_row q r) (found q now)) c.as_slice.ensures.value)
    (ap (λ r. is_in r c.add_row.new.touched) (sym c.as_slice.ensures.value) ∙ c.in_ok-add_row.ensures.here)
    c.in_ok-add_row.ensures.more

pub returns-in_err-add_row-clause-memory : goal.returns-in_err-add_row-clause-memory
returns-in_err-add_row-clause-memory g c =
    let given = c.args.given.now in
    let i = c.loop-row.row-index in
    let x = c.loop-row-item.result in
    let next = plain_next given i x c.loop-row-item.is (omega arith) in
    let now = c.loop-row.rows in
    let after = c.loop-row.touched in
    let is = subst (λ (es : Counted). IsAdding (plain given) es c.args.rows.now now c.args.touched.now after) next c.loop-row.invariant in
    let lacks = subst (λ (r : Row). (found r now ≡ None) ⊎ (is_in r after ≡ false)) c.as_slice.ensures.value c.in_err-add_row.ensures.memory in
    told (new_row (plain given) (plain (drop (i + 1) given)) (x.0.items, x.1) c.args.rows.now now c.args.touched.now after is lacks) c.from_residual.result
