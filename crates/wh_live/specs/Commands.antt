-- The commands that lines say, one after another: each is a line, or the lines from `night` down to `@end`.
use Rattle.std.specs.Prelude.{◌≡◌, ◌↔◌, ℕ, true, false, List, [], ◌∷◌, ◌++◌, Option, Some, None, option_map, if◌then◌else◌}
use Rattle.std.specs.List.{All, cons_option, flat_map}
use Rattle.wh_text_lines.specs.declared.schedule.event.ScheduledEvent.{ScheduledEvent}
use Rattle.wh_live.specs.Requests.{asked_by, cells_in, is_end}
use Rattle.wh_live.specs.declared.command.Command.{Command as CommandRead}
use Rattle.wh_live.specs.declared.command.Command.TheVariants as read
use Rattle.wh_live.specs.declared.request.Request.{Request}
use Rattle.wh_live.specs.declared.request.Request.TheVariants as request

-- a night by the bytes of its parts, an event, a page of a view in a desk's session, from its beginning or behind the row of these cells, how
-- many rows all tables have, what the open night changes, the end, or what is not known
pub data Command : Type 0 where
  Night : (parts : List ℕ) → Command
  Event : ScheduledEvent → Command
  Page : (desk : ℕ) (view : Option ℕ) (limit : ℕ) (after : Option (List ℕ)) → Command
  Tables : Command
  Changes : Command
  Quit : Command
  Unknown : Command

-- a command as it lies in memory
abbrev pub shown_command : CommandRead → Command
shown_command (read.Night parts) = Night parts.items
shown_command (read.Event event) = Event event
shown_command (read.Page desk view limit after) = Page desk view limit (option_map (λ cells. cells.items) after)
shown_command read.Tables = Tables
shown_command read.Changes = Changes
shown_command read.Quit = Quit
shown_command read.Unknown = Unknown

-- ---- line by line

-- a line with the LF that ends it
abbrev pub line_in_full : List ℕ → List ℕ
line_in_full line = line ++ 10 ∷ []

-- the parts that stand in these lines
abbrev pub parts_in : List (List ℕ) → List ℕ
parts_in lines = flat_map line_in_full lines

-- the parts of the night whose end has not come, if there is one, and the command that this line has ended, by what it asks for
abbrev pub begun_by : List ℕ → Option Request → Option (List ℕ) × Option Command
begun_by line None = (None, None)
begun_by line (Some request.Night) = (Some [], None)
begun_by line (Some (request.Event event)) = (None, Some (Event event))
begun_by line (Some (request.Page desk view limit)) = (None, Some (Page desk view limit None))
begun_by line (Some (request.PageAfter desk view limit)) = (None, Some (Page desk view limit (Some (cells_in line))))
begun_by line (Some request.Tables) = (None, Some Tables)
begun_by line (Some request.Changes) = (None, Some Changes)
begun_by line (Some request.Quit) = (None, Some Quit)
begun_by line (Some request.Unknown) = (None, Some Unknown)

-- what a line makes of them
abbrev pub taken : List (List ℕ) → Option (List ℕ) → List ℕ → Option (List ℕ) × Option Command
taken names None line = begun_by line (asked_by names line)
taken names (Some parts) line = if is_end line then (None, Some (Night parts)) else (Some (parts ++ line_in_full line), None)

-- the commands of lines below the beginning of a night, if one has begun
abbrev pub commands_below : List (List ℕ) → Option (List ℕ) → List (List ℕ) → List Command
commands_below names amid [] = []
commands_below names amid (line ∷ lines) = cons_option (taken names amid line).1 (commands_below names (taken names amid line).0 lines)

-- the commands of lines
abbrev pub commands_of : List (List ℕ) → List (List ℕ) → List Command
commands_of names lines = commands_below names None lines

-- ---- as a whole

-- the line is the command, all of it
pub data IsLone (names : List (List ℕ)) (line : List ℕ) : Command → Type 0 where
  an_event : (event : ScheduledEvent) → asked_by names line ≡ Some (request.Event event) → IsLone names line (Event event)
  a_page : (desk : ℕ) (view : Option ℕ) (limit : ℕ) → asked_by names line ≡ Some (request.Page desk view limit) → IsLone names line (Page desk view limit None)
  a_page_after : (desk : ℕ) (view : Option ℕ) (limit : ℕ) → asked_by names line ≡ Some (request.PageAfter desk view limit)
      → IsLone names line (Page desk view limit (Some (cells_in line)))
  all_tables : asked_by names line ≡ Some request.Tables → IsLone names line Tables
  all_changes : asked_by names line ≡ Some request.Changes → IsLone names line Changes
  the_end : asked_by names line ≡ Some request.Quit → IsLone names line Quit
  not_known : asked_by names line ≡ Some request.Unknown → IsLone names line Unknown

-- these lines say these commands. A line without words says nothing, and a night whose end has not come says nothing yet
pub data SayCommands (names : List (List ℕ)) : List (List ℕ) → List Command → Type 0 where
  nothing : SayCommands names [] []
  blank : (line : List ℕ) (lines : List (List ℕ)) (commands : List Command) → asked_by names line ≡ None
      → SayCommands names lines commands → SayCommands names (line ∷ lines) commands
  alone : (line : List ℕ) (lines : List (List ℕ)) (command : Command) (commands : List Command) → IsLone names line command
      → SayCommands names lines commands → SayCommands names (line ∷ lines) (command ∷ commands)
  a_night : (line : List ℕ) (body : List (List ℕ)) (last : List ℕ) (lines : List (List ℕ)) (commands : List Command) → asked_by names line ≡ Some request.Night
      → All (λ inner. is_end inner ≡ false) body → is_end last ≡ true
      → SayCommands names lines commands → SayCommands names (line ∷ body ++ last ∷ lines) (Night (parts_in body) ∷ commands)
  no_end_yet : (line : List ℕ) (body : List (List ℕ)) → asked_by names line ≡ Some request.Night
      → All (λ inner. is_end inner ≡ false) body → SayCommands names (line ∷ body) []

-- what is read line by line is what the lines say, and nothing else
abbrev pub CommandGrammar : Type 0
CommandGrammar = (names : List (List ℕ)) (lines : List (List ℕ)) (commands : List Command) → (commands_of names lines ≡ commands) ↔ SayCommands names lines commands
