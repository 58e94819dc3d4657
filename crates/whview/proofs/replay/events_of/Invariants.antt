use Rattle.std.proofs.Common.{◌≡◌, map, take}
use Rattle.wh_replies.specs.Events.{event_of}
use Rattle.whview.proofs.replay.events_of.Given as goal

abbrev pub invariant-loop-event : goal.invariant-loop-event
invariant-loop-event l = l.events.items ≡ map (event_of l.views) (take l.event-index l.scheduled)
