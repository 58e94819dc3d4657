use Rattle.wh_text_lines.proofs.ReadingBack.{reads_back}
use Rattle.wh_text_lines.proofs.strategy.reads_back_law.Goals as goal

pub returns : goal.returns
returns c = reads_back
