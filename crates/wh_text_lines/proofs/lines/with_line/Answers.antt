use Rattle.std.proofs.Common.{Some, None, inr, ap, sym, ◌∙◌}
use Rattle.std.specs.Prelude.{◌==◌}
use Rattle.wh_text_lines.proofs.LineGrammars.{said_with-words}
use Rattle.wh_text_lines.proofs.lines.with_line.Goals as goal

pub returns-in-Some-clause-ok : goal.returns-in-Some-clause-ok
returns-in-Some-clause-ok g c =
    said_with-words (g.G.Grammar.grammar c.args.grammar.now) c.args.said c.args.line.now c.in_ok-words.words.items c.deref.result.now (Some c.in-Some.more) c.in_ok-words.ensures
    (c.if-is_empty.ensures ∙ ap (λ n. n == 0) c.in_ok-words.words.ok.0) c.deref.ensures.value (sym c.in-Some.is ∙ c.in_ok-more.ensures)

pub returns-clause-err : goal.returns-clause-err
returns-clause-err g c =
    inr (
      said_with-words (g.G.Grammar.grammar c.args.grammar.now) c.args.said c.args.line.now c.in_ok-words.words.items c.deref.result.now None c.in_ok-words.ensures
          (c.if-is_empty.ensures ∙ ap (λ n. n == 0) c.in_ok-words.words.ok.0) c.deref.ensures.value (sym c.in-None.is ∙ c.in_ok-more.ensures),
      c.fault.ensures,
    )
