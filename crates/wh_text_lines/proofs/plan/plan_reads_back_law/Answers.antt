use Rattle.wh_text_lines.proofs.PlanReadingBack.{plan_reads_back, texts_differ}
use Rattle.wh_text_lines.proofs.plan.plan_reads_back_law.Goals as goal

pub returns : goal.returns
returns c = record { reads_back = plan_reads_back; distinct = texts_differ }
