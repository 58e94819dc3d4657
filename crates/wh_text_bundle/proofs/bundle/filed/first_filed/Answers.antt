use Rattle.std.proofs.Common.{rules, ◌≡◌, sym, ◌∙◌, arith, None}
use Rattle.std.proofs.lemmas.List.{take_rest}
use Rattle.wh_text_bundle.specs.Files.{filed_part}
use Rattle.wh_text_bundle.specs.RawPart.{shown}
use Rattle.wh_text_bundle.proofs.FiledParts.{passed_more, long_part}
use Rattle.wh_text_bundle.proofs.bundle.filed.first_filed.Goals as goal

pub overflow_add-at-in-loop-at : goal.overflow_add-at-in-loop-at
overflow_add-at-in-loop-at c =
    let text = c.args.text.now in
    let first = rw (take_rest text c.loop-at.at) at c.first_part.ensures in
    let long = long_part text c.first_part.result.1.now c.loop-at.at (shown c.first_part.result.0) c.loop-at.invariant.passed first.parts first.begins c.loop-at.invariant.within in
    search (rules, long)

pub loop-at-smaller : goal.loop-at-smaller
loop-at-smaller c =
    let text = c.args.text.now in
    let first = rw (take_rest text c.loop-at.at) at c.first_part.ensures in
    let long = long_part text c.first_part.result.1.now c.loop-at.at (shown c.first_part.result.0) c.loop-at.invariant.passed first.parts first.begins c.loop-at.invariant.within in
    omega (arith, long, first.shorter)

pub loop-at-preserved : goal.loop-at-preserved
loop-at-preserved c =
    let text = c.args.text.now in
    let first = rw (take_rest text c.loop-at.at) at c.first_part.ensures in
    let part = shown c.first_part.result.0 in
    let below = c.first_part.result.1.now in
    let long = long_part text below c.loop-at.at part c.loop-at.invariant.passed first.parts first.begins c.loop-at.invariant.within in
    let none : filed_part part ≡ None = sym c.filed.ensures ∙ search rules in
    record {
      within = omega (arith, long);
      passed = passed_more text below c.loop-at.at part c.loop-at.invariant.passed first.parts first.begins none;
    }
