-- The steps of a dialogue, as calls of the crate leave a warehouse: what only private contracts use.
use Rattle.std.specs.Prelude.{◌≡◌, ℕ, List, ◌++◌, Option, Some, None}
use Rattle.std.specs.Io.KnownBytes.{Appends}
use Rattle.wh_core.specs.Laws.{IsSetup}
use Rattle.wh_core.specs.Log.{Log}
use Rattle.wh_core.specs.Nights.{Setup}
use Rattle.wh_core.specs.Standing.{StandsWith}
use Rattle.wh_core.specs.declared.event.Event.{Event}
use Rattle.wh_core.specs.declared.reply.Reply.{Reply}
use Rattle.wh_core.specs.declared.warehouse.Core.{Core}
use Rattle.wh_dialogue.specs.Dialogue.{IsAnswered, IsCarried}
use Rattle.wh_dialogue.specs.declared.talking.TalkEnd.{TalkEnd}
use Rattle.wh_dialogue.specs.declared.talking.TalkEnd.TheVariants as ends
use Rattle.wh_live.specs.Commands.{Command, taken}
use Rattle.wh_live.specs.Commands as command
use Rattle.wh_stay.specs.Standing.{StandingOf, core_of, standing_of}
use Rattle.wh_stay.specs.declared.standing.Live.{Live}

-- a night was carried on from this log, what is printed of it was appended, and the machine stands so
pub record CarriedIn {F G : Type 0} (s : Setup) (log : Log) (before after : List ℕ) (core : Core F G) : Type 0 where
  pub events : List Event
  pub replies : List Reply
  pub text : List ℕ
  pub log_then : Log
  pub carried : IsCarried s log events replies text log_then
  pub printed : after ≡ before ++ text
  pub stands : StandsWith s log_then core

-- a command was answered by this text, and the warehouse stands so
pub record IsAnsweredIn {F G : Type 0} (s : Setup) (log : Log) (w : StandingOf) (asked : Command) (text : List ℕ) (live : Live F G) : Type 0 where
  pub events : List Event
  pub replies : List Reply
  pub setup : Setup
  pub log_then : Log
  pub answered : IsAnswered s log w asked events replies text setup log_then (standing_of live)
  pub is_setup : IsSetup setup
  pub stands : StandsWith setup log_then (core_of live)

-- the talk ends with this command, if it ends with it
pub data EndsWith : Command → Option TalkEnd → Type 0 where
  quits : EndsWith command.Quit (Some ends.Done)
  goes_on : (next : Command) → (next ≡ command.Quit → ⊥) → EndsWith next None

-- what the line made of the lines before, and the command that it has ended, were answered, and the warehouse stands so
pub data IsLineAnswered {F G : Type 0} (s : Setup) (log : Log) (w : StandingOf) (amid : Option (List ℕ)) (line : List ℕ) : Option (List ℕ) → Option (List ℕ) → Option (List ℕ) → Option TalkEnd → Live F G → Type 0 where
  no_command : (amid' before : Option (List ℕ)) (live : Live F G) → taken w.names amid line ≡ (amid', None) → standing_of live ≡ w → StandsWith s log (core_of live)
      → IsLineAnswered s log w amid line amid' before before None live
  a_command : (amid' before after : Option (List ℕ)) (live : Live F G) (next : Command) (text : List ℕ) (end : Option TalkEnd) → taken w.names amid line ≡ (amid', Some next)
      → IsAnsweredIn s log w next text live → Appends before after text → EndsWith next end
      → IsLineAnswered s log w amid line amid' before after end live
