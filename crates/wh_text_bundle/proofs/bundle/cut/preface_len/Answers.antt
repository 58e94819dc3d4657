use Rattle.std.proofs.Common.{◌∙◌, arith, sym}
use Rattle.std.proofs.lemmas.List.{take_rest}
use Rattle.wh_text_bundle.proofs.CutLemmas.{cut-skip_at}
use Rattle.wh_text_bundle.proofs.bundle.cut.preface_len.Goals as goal

pub loop-at-preserved : goal.loop-at-preserved
loop-at-preserved c =
    let text = c.args.text.now in
    let at = c.loop-at.at in
    let first = rw (take_rest text at) at c.first_line.ensures in
    record {
      within = omega arith;
      cut = cut-skip_at text at c.first_line.result.0.now c.first_line.result.1.now c.plain_len.result c.loop-at.invariant.cut first.line first.below first.lines (sym c.opens_part.ensures ∙ c.if-opens_part.false) c.plain_len.ensures.lines c.plain_len.ensures.plain;
    }
