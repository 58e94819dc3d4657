-- A schedule as text: how large the machine is, and its events.
use Rattle.std.specs.Prelude.{◌==◌, ℕ, Bool, nat_lt, List, [], ◌∷◌, length, Result, Ok, Err}
use Rattle.std.specs.List.{flat_map}
use Rattle.wh_text.specs.declared.fault.LoadFault.{LoadFault}
use Rattle.wh_text.specs.declared.fault.LoadFault.TheVariants.{Schedule as ScheduleFault}
use Rattle.wh_text_lines.specs.LineGrammar.{LineGrammar, read_by}
use Rattle.wh_text_lines.specs.ListedLines.{listed_grammar}
use Rattle.wh_text_lines.specs.ScheduleLine.{line_in}
use Rattle.wh_text_lines.specs.declared.schedule.event.ScheduledEvent.{ScheduledEvent}
use Rattle.wh_text_lines.specs.declared.schedule.line.ScheduleLine.{ScheduleLine}
use Rattle.wh_text_lines.specs.declared.schedule.line.ScheduleLine.TheVariants.{Desks, Workers, Keys, Versions, Event}

-- How many desks and workers a machine has, how many keys its pages have at most, and of how many versions it keeps the contents. Then the
-- events that it goes through.
pub record ScheduleOf : Type 0 where
  pub desks : ℕ
  pub workers : ℕ
  pub keys : ℕ
  pub versions : ℕ
  pub events : List ScheduledEvent

-- A line of this kind may stand after these. First come the desks, then the workers, the keys and the versions, and at the end the events,
-- which may stand in place of the versions.
abbrev pub may_follow : List ScheduleLine → ScheduleLine → Bool
may_follow before (Desks n) = length before == 0
may_follow before (Workers n) = length before == 1
may_follow before (Keys n) = length before == 2
may_follow before (Versions n) = length before == 3
may_follow before (Event e) = nat_lt 2 (length before)

-- lines may end where the desks, the workers and the keys are said
abbrev pub may_end : List ScheduleLine → Bool
may_end said = nat_lt 2 (length said)

-- the lines of a schedule over views of these names: each says something that may stand after what those above it say
abbrev pub schedule_grammar : List (List ℕ) → LineGrammar (List ScheduleLine)
schedule_grammar names = listed_grammar (line_in names) may_follow may_end ScheduleFault

-- the desks that the first line says, the workers that the second does, and the keys that the third does
abbrev pub desks_in : List ScheduleLine → ℕ
desks_in (Desks n ∷ lines) = n
desks_in _ = 0

abbrev pub workers_in : List ScheduleLine → ℕ
workers_in (first ∷ Workers n ∷ lines) = n
workers_in _ = 0

abbrev pub keys_in : List ScheduleLine → ℕ
keys_in (first ∷ second ∷ Keys n ∷ lines) = n
keys_in _ = 0

-- the versions that the fourth line says; two where it says none
abbrev pub versions_in : List ScheduleLine → ℕ
versions_in (first ∷ second ∷ third ∷ Versions n ∷ lines) = n
versions_in _ = 2

-- the event that a line says, if it does
abbrev pub events_in : ScheduleLine → List ScheduledEvent
events_in (Event e) = e ∷ []
events_in _ = []

-- the schedule that lines say
abbrev pub schedule_from : List ScheduleLine → ScheduleOf
schedule_from lines = record { desks = desks_in lines; workers = workers_in lines; keys = keys_in lines; versions = versions_in lines; events = flat_map events_in lines }

-- the schedule that lines say, where they say one
abbrev pub schedule_said : Result (List ScheduleLine) LoadFault → Result ScheduleOf LoadFault
schedule_said (Ok lines) = Ok (schedule_from lines)
schedule_said (Err fault) = Err fault

-- the schedule that a text is, over views of these names, or its first fault
abbrev pub schedule_of : List (List ℕ) → List ℕ → Result ScheduleOf LoadFault
schedule_of names text = schedule_said (read_by (schedule_grammar names) text)
