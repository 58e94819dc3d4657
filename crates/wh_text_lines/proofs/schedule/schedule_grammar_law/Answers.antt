use Rattle.wh_text_lines.proofs.ScheduleGrammars.{schedule_faults, schedule_grammar_holds}
use Rattle.wh_text_lines.proofs.schedule.schedule_grammar_law.Goals as goal

pub returns : goal.returns
returns c = record { grammar = schedule_grammar_holds; faults = schedule_faults }
