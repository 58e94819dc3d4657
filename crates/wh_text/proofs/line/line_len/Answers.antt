use Rattle.std.proofs.Common.{length, arith, add-one}
use Rattle.wh_text.proofs.LineLemmas.{whole_lines-at, whole_lines-none}
use Rattle.std.proofs.lemmas.List.{take_all, drop_all}
use Rattle.wh_text.proofs.line.line_len.Goals as goal

pub returns-in-Some-clause-lines : goal.returns-in-Some-clause-lines
returns-in-Some-clause-lines c =
    let found = c.in-Some.ensures in
    rw add-one (whole_lines-at c.args.text.now c.in-Some.place found.0.high (λ j h. found.0.before j (omega arith) h) found.1)

pub returns-in-None-clause-lines : goal.returns-in-None-clause-lines
returns-in-None-clause-lines c =
    let text = c.args.text.now in
    rw (take_all (length text) text (omega arith), drop_all (length text) text (omega arith))
    (whole_lines-none c.args.text.now c.requires (λ j h. c.in-None.ensures j (omega arith) h))
