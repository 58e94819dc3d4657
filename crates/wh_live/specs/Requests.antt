-- What one line asks for.
use Rattle.std.specs.Prelude.{◌==◌, ℕ, zero, suc, Bool, true, false, List, [], ◌∷◌, length, Option, Some, None, codes, if◌then◌else◌}
use Rattle.std.specs.Str.{bytes_eq}
use Rattle.wh_text.specs.Line.{is_blank}
use Rattle.wh_text_lines.specs.ScheduleLine.{event_of}
use Rattle.wh_text_lines.specs.Words.{words_of}
use Rattle.wh_text_lines.specs.declared.schedule.event.ScheduledEvent.{ScheduledEvent}
use Rattle.wh_text_lines.specs.declared.schedule.event.ScheduledEvent.TheVariants as scheduled
use Rattle.wh_live.specs.declared.request.Request.{Request}
use Rattle.wh_live.specs.declared.request.Request.TheVariants as request

-- the event of a schedule is asked for by itself: a night's end, and what a desk does
abbrev pub is_asked : ScheduledEvent → Bool
is_asked scheduled.Commit = true
is_asked scheduled.GiveUp = true
is_asked (scheduled.Open desk) = true
is_asked (scheduled.Read desk view limit) = true
is_asked (scheduled.Close desk) = true
is_asked _ = false

-- what asks for an event, if there is one
abbrev pub event_request : Option ScheduledEvent → Request
event_request None = request.Unknown
event_request (Some event) = if is_asked event then request.Event event else request.Unknown

-- what asks for a page, where a read of the same desk, view and limit is known: of the view from its beginning, or behind a row
abbrev pub page_request : Option ScheduledEvent → Request
page_request (Some (scheduled.Read desk view limit)) = request.Page desk view limit
page_request _ = request.Unknown

abbrev pub page_after_request : Option ScheduledEvent → Request
page_after_request (Some (scheduled.Read desk view limit)) = request.PageAfter desk view limit
page_after_request _ = request.Unknown

-- what a word by itself asks for, over views of these names: `night`, `quit`, `tables`, `changes`, or what a schedule would write so
abbrev pub lone_request : List (List ℕ) → List ℕ → Request
lone_request names word =
    if bytes_eq word (codes "night") then request.Night
    else (if bytes_eq word (codes "quit") then request.Quit
    else (if bytes_eq word (codes "tables") then request.Tables
    else (if bytes_eq word (codes "changes") then request.Changes
    else event_request (event_of names (word ∷ [])))))

-- what these words ask for, over views of these names: a word by itself, `page D VIEW LIMIT`, `page D VIEW LIMIT after` with whatever follows,
-- where D, VIEW and LIMIT are as in `read D VIEW LIMIT`, or what a schedule would write so
abbrev pub request_of : List (List ℕ) → List (List ℕ) → Request
request_of names (first ∷ []) = lone_request names first
request_of names (first ∷ desk ∷ view ∷ limit ∷ []) =
    if bytes_eq first (codes "page") then page_request (event_of names (codes "read" ∷ desk ∷ view ∷ limit ∷ []))
    else event_request (event_of names (first ∷ desk ∷ view ∷ limit ∷ []))
request_of names (first ∷ desk ∷ view ∷ limit ∷ fifth ∷ more) =
    if bytes_eq first (codes "page") then (if bytes_eq fifth (codes "after") then page_after_request (event_of names (codes "read" ∷ desk ∷ view ∷ limit ∷ [])) else request.Unknown)
    else request.Unknown
request_of names words = event_request (event_of names words)

-- what a line asks for: nothing where it has no words
abbrev pub asked_by : List (List ℕ) → List ℕ → Option Request
asked_by names line = if length (words_of line) == 0 then None else Some (request_of names (words_of line))

-- what stands behind so many words of a line and the one blank that ends the last of them; a word may have begun
abbrev pub behind_words : ℕ → Bool → List ℕ → List ℕ
behind_words zero begun line = line
behind_words (suc n) begun [] = []
behind_words (suc n) begun (byte ∷ line) =
    if is_blank byte then (if begun then behind_words n false line else behind_words (suc n) false line) else behind_words (suc n) true line

-- the cells that a line names behind `page D VIEW LIMIT after`
abbrev pub cells_in : List ℕ → List ℕ
cells_in line = behind_words 5 false line

-- the line that ends the parts of a night
abbrev pub is_end : List ℕ → Bool
is_end line = bytes_eq line (codes "@end")
