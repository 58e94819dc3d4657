use Rattle.std.proofs.Common.{arith}
use Rattle.std.proofs.lemmas.List.{take_rest}
use Rattle.wh_text_bundle.proofs.TextLemmas.{body_text-kept_at, body_text-changed_at}
use Rattle.wh_text_bundle.proofs.bundle.text.kept_len.Goals as goal

pub loop-at-preserved : goal.loop-at-preserved
loop-at-preserved c =
    let body = c.args.body.now in
    let at = c.loop-at.at in
    let first = rw (take_rest body at) at c.first_line.ensures in
    let line = c.first_line.result.0.now in
    let below = c.first_line.result.1.now in
    record {
      within = omega arith;
      kept = body_text-kept_at c.args.csv body at line below c.plain_csv_len.result c.loop-at.invariant.kept first.line first.below first.lines (c.is_kept.ensures.kept c.if-not-is_kept.false) c.plain_csv_len.ensures.text;
    }

pub returns-then-not-is_kept-clause-changed : goal.returns-then-not-is_kept-clause-changed
returns-then-not-is_kept-clause-changed c = λ _.
    let body = c.args.body.now in
    let at = c.loop-at.at in
    let first = rw (take_rest body at) at c.first_line.ensures in
    body_text-changed_at c.args.csv body at c.first_line.result.0.now c.first_line.result.1.now c.loop-at.invariant.within c.loop-at.invariant.kept first.shorter first.lines (c.is_kept.ensures.changed c.if-not-is_kept.true)
