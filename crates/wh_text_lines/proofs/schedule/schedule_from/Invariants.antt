use Rattle.std.proofs.Common.{◌≡◌}
use Rattle.std.specs.List.{flat_map}
use Rattle.wh_text_lines.specs.ScheduleText.{events_in}
use Rattle.wh_text_lines.proofs.schedule.schedule_from.Given as goal

abbrev pub invariant-loop-line : goal.invariant-loop-line
invariant-loop-line l = l.events.items ≡ flat_map events_in l.yielded
