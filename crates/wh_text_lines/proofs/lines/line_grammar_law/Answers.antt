use Rattle.wh_text_lines.proofs.LineGrammars.{lines_read, lines_stop}
use Rattle.wh_text_lines.proofs.lines.line_grammar_law.Goals as goal

pub returns : goal.returns
returns g c = record { read = lines_read _; stop = lines_stop _ }
