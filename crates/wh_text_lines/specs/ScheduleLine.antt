-- The lines of a schedule, each by itself.
use Rattle.std.specs.Prelude.{ℕ, List, [], ◌∷◌, Option, Some, None, option_map, option_and_then, codes, if◌then◌else◌}
use Rattle.std.specs.Option.{option_or}
use Rattle.std.specs.Str.{bytes_eq}
use Rattle.wh_dag.specs.Written.{number_of}
use Rattle.wh_text_lines.specs.Natural.{number_within}
use Rattle.wh_text_lines.specs.declared.schedule.event.ScheduledEvent.{ScheduledEvent}
use Rattle.wh_text_lines.specs.declared.schedule.event.ScheduledEvent.TheVariants.{Begin, Take, Done, Page, Commit, GiveUp, Open, Read, Close}
use Rattle.wh_text_lines.specs.declared.schedule.line.ScheduleLine.{ScheduleLine}
use Rattle.wh_text_lines.specs.declared.schedule.line.ScheduleLine.TheVariants.{Desks, Workers, Keys, Versions, Event}

-- the number of a desk, a worker or a limit
abbrev pub event_number : List ℕ → Option ℕ
event_number word = number_within 0 1000000 word

-- the event that is this word alone
abbrev pub lone_event : List ℕ → Option ScheduledEvent
lone_event word =
    if bytes_eq word (codes "begin") then Some Begin
    else (if bytes_eq word (codes "page") then Some Page
    else (if bytes_eq word (codes "commit") then Some Commit
    else (if bytes_eq word (codes "giveup") then Some GiveUp
    else None)))

-- the event of this word and a number
abbrev pub numbered_event : List ℕ → ℕ → Option ScheduledEvent
numbered_event word number =
    if bytes_eq word (codes "take") then Some (Take number)
    else (if bytes_eq word (codes "done") then Some (Done number)
    else (if bytes_eq word (codes "open") then Some (Open number)
    else (if bytes_eq word (codes "close") then Some (Close number)
    else None)))

-- `read D VIEW LIMIT`, where the view is the one of this name, if there is one
abbrev pub read_event : List (List ℕ) → List ℕ → List ℕ → List ℕ → Option ScheduledEvent
read_event names desk view limit = option_and_then (λ d. option_map (λ l. Read d (number_of names view) l) (event_number limit)) (event_number desk)

-- the event that these words say over views of these names, if they say one
abbrev pub event_of : List (List ℕ) → List (List ℕ) → Option ScheduledEvent
event_of names (first ∷ []) = lone_event first
event_of names (first ∷ number ∷ []) = option_and_then (numbered_event first) (event_number number)
event_of names (first ∷ desk ∷ view ∷ limit ∷ []) = if bytes_eq first (codes "read") then read_event names desk view limit else None
event_of names _ = None

-- the number of a line of the head, which is this word and a number from the least to the most
abbrev pub head_number : List ℕ → ℕ → ℕ → List (List ℕ) → Option ℕ
head_number word least most (first ∷ number ∷ []) = if bytes_eq first word then number_within least most number else None
head_number word least most _ = None

-- what a line of these words says in a schedule over views of these names, if it says anything there: no two forms have one first word
abbrev pub schedule_line_of : List (List ℕ) → List (List ℕ) → Option ScheduleLine
schedule_line_of names words =
    option_or (option_map Desks (head_number (codes "desks") 1 16 words))
    (option_or (option_map Workers (head_number (codes "workers") 1 16 words))
    (option_or (option_map Keys (head_number (codes "keys") 1 256 words))
    (option_or (option_map Versions (head_number (codes "versions") 2 4 words)) (option_map Event (event_of names words)))))

-- what a line says, by its words alone
abbrev pub line_in : List (List ℕ) → List ℕ → List (List ℕ) → Option ScheduleLine
line_in names line words = schedule_line_of names words
