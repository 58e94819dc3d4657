use Rattle.std.proofs.Common.{◌≡◌, ◌+◌, ◌≤◌, length}
use Rattle.wh_text_lines.specs.LineGrammar.{read_below, read_by}
use Rattle.wh_text_lines.specs.Words.{lines_of}
use Rattle.wh_text_lines.proofs.lines.read_lines.Given as goal

-- what is said so far, and the lines to come
abbrev pub invariant-loop-rest : goal.invariant-loop-rest
invariant-loop-rest g l =
    record {
      read : read_by (g.G.Grammar.grammar l.grammar) l.text ≡ read_below (g.G.Grammar.grammar l.grammar) l.number l.said (lines_of l.rest);
      count : l.number + length l.rest ≤ length l.text;
    }

abbrev pub decreases-loop-rest : goal.decreases-loop-rest
decreases-loop-rest g l = length l.rest
