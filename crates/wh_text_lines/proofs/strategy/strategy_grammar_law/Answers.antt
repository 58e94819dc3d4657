use Rattle.wh_text_lines.proofs.Lists.{strategy_read}
use Rattle.wh_text_lines.proofs.strategy.strategy_grammar_law.Goals as goal

pub returns : goal.returns
returns c = strategy_read
