-- The events of a schedule, as a machine takes them.
use Rattle.std.specs.Prelude.{ℕ, unwrap_or}
use Rattle.wh_core.specs.declared.event.Event.{Event}
use Rattle.wh_core.specs.declared.event.Event.TheVariants as event
use Rattle.wh_text_lines.specs.declared.schedule.event.ScheduledEvent.{ScheduledEvent}
use Rattle.wh_text_lines.specs.declared.schedule.event.ScheduledEvent.TheVariants as scheduled

-- an event of the schedule over so many views; a name that is no view's stands for the number that comes after them
abbrev pub event_of : ℕ → ScheduledEvent → Event
event_of views scheduled.Begin = event.Begin
event_of views (scheduled.Take worker) = event.Take worker
event_of views (scheduled.Done worker) = event.Done worker
event_of views scheduled.Page = event.PageIn
event_of views scheduled.Commit = event.Commit
event_of views scheduled.GiveUp = event.GiveUp
event_of views (scheduled.Open desk) = event.Open desk
event_of views (scheduled.Read desk view limit) = event.Read desk (unwrap_or view views) limit
event_of views (scheduled.Close desk) = event.Close desk
