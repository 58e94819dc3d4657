use Rattle.std.proofs.Common.{sym, subst, ◌∙◌}
use Rattle.std.specs.Str.Parse.{ParsesUnsigned}
use Rattle.wh_text_lines.proofs.Naturals.{natural-plus, natural-other, natural-parse}
use Rattle.wh_text_lines.proofs.natural.natural.Goals as goal

pub returns-then-has_plus : goal.returns-then-has_plus
returns-then-has_plus c = sym (natural-plus c.args.word.now c.if-has_plus.ensures)

pub returns-in-Ok : goal.returns-in-Ok
returns-in-Ok c =
    let read : ParsesUnsigned 128 10 c.args.word.now c.parse.result = subst (λ word. ParsesUnsigned 128 10 word c.parse.result) c.in-Ok.ensures.cases.0 c.parse.ensures.value.0 in
    c.ok.ensures.value ∙ natural-parse c.args.word.now c.parse.result c.if-has_plus.ensures read

pub returns-in-Err : goal.returns-in-Err
returns-in-Err c = sym (natural-other c.args.word.now c.in-Err.ensures.cases.0)
