use Rattle.wh_text_lines.proofs.PlanGrammars.{plan_faults, plan_grammar_holds}
use Rattle.wh_text_lines.proofs.plan.plan_grammar_law.Goals as goal

pub returns : goal.returns
returns c = record { grammar = plan_grammar_holds; faults = plan_faults }
