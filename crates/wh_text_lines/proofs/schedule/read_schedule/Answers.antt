use Rattle.std.proofs.Common.{sym, subst}
use Rattle.wh_text_lines.specs.ScheduleText.{desks_in, keys_in, versions_in, workers_in}
use Rattle.wh_text_lines.specs.Inner.ScheduleText.{IsSized}
use Rattle.wh_text_lines.proofs.ScheduleGrammars.{read_sized}
use Rattle.wh_text_lines.proofs.schedule.read_schedule.Goals as goal

pub schedule_from-requires : goal.schedule_from-requires
schedule_from-requires c =
    subst (λ lines. IsSized (desks_in lines) (workers_in lines) (keys_in lines) (versions_in lines)) (sym c.into_lines.ensures) (read_sized c.args.names.now c.args.text.now c.in_ok-said.said c.in_ok-said.ensures.ok)
