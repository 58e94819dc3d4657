use Rattle.std.proofs.Common.{◌+◌, ◌∙◌, arith, sym, length-drop}
use Rattle.std.proofs.lemmas.List.{get_or-drop, take_rest}
use Rattle.wh_text_bundle.proofs.PlainLines.{unmarked_start, unmarked_past, unmarked_to, unmarked_all, lines_at_mark}
use Rattle.wh_text_bundle.proofs.bundle.line.plain_len.Goals as goal

pub loop-gap-init : goal.loop-gap-init
loop-gap-init c = record { within = omega arith; plain = unmarked_start }

pub returns-then-begins_line-clause-lines : goal.returns-then-begins_line-clause-lines
returns-then-begins_line-clause-lines c =
    let text = c.args.text.now in
    let at = c.loop-gap.at in
    let found = rw (take_rest text at) at c.in-Some.ensures in
    let high = rw (length-drop at text) at found.0.high in
    lines_at_mark text (at + c.in-Some.gap) (omega arith) (sym c.begins_line.ensures ∙ c.if-begins_line.true)

pub returns-then-begins_line-clause-plain : goal.returns-then-begins_line-clause-plain
returns-then-begins_line-clause-plain c =
    let text = c.args.text.now in
    let at = c.loop-gap.at in
    let found = rw (take_rest text at) at c.in-Some.ensures in
    unmarked_to text at c.in-Some.gap c.loop-gap.invariant.plain (λ j h. found.0.before j (omega arith) h)

pub returns-then-begins_line-clause-marked : goal.returns-then-begins_line-clause-marked
returns-then-begins_line-clause-marked c =
    let text = c.args.text.now in
    let at = c.loop-gap.at in
    let found = rw (take_rest text at) at c.in-Some.ensures in
    let marked = rw (get_or-drop at text c.in-Some.gap 0) at found.1 in
    λ inside. marked

pub loop-gap-preserved : goal.loop-gap-preserved
loop-gap-preserved c =
    let text = c.args.text.now in
    let at = c.loop-gap.at in
    let found = rw (take_rest text at) at c.in-Some.ensures in
    let high = rw (length-drop at text) at found.0.high in
    record {
      within = omega arith;
      plain = unmarked_past text at c.in-Some.gap c.loop-gap.invariant.plain (λ j h. found.0.before j (omega arith) h) (omega arith) (sym c.begins_line.ensures ∙ c.if-begins_line.false);
    }

pub returns-clause-plain : goal.returns-clause-plain
returns-clause-plain c =
    let text = c.args.text.now in
    let at = c.loop-gap.at in
    let none = rw (take_rest text at, length-drop at text) at c.in_default.ensures in
    unmarked_all text at (omega arith) c.loop-gap.invariant.plain (λ j h. none j (omega arith) h)
