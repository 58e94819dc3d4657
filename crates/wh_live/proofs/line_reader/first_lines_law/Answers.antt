use Rattle.wh_live.proofs.HandedOut.{first_lines}
use Rattle.wh_live.proofs.line_reader.first_lines_law.Goals as goal

pub returns : goal.returns
returns c = first_lines
