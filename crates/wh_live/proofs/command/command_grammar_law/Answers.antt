use Rattle.wh_live.proofs.CommandGrammars.{command_grammar}
use Rattle.wh_live.proofs.command.command_grammar_law.Goals as goal

pub returns : goal.returns
returns c = command_grammar
