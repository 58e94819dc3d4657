-- A dialogue: commands that are answered one after another.
use Rattle.std.specs.Prelude.{◌≡◌, ◌≢◌, ℕ, Bool, true, false, List, [], ◌∷◌, ◌++◌, length, Option, Result, IfSome, codes}
use Rattle.std.specs.Io.KnownBytes.{Appends}
use Rattle.std.specs.List.{flat_map}
use Rattle.wh_core.specs.Changes.{change_written}
use Rattle.wh_core.specs.Laws.{log_after}
use Rattle.wh_core.specs.Log.{Log, logged}
use Rattle.wh_core.specs.Nights.{Setup, versions}
use Rattle.wh_core.specs.Replies.{IsLegalRun, IsReply}
use Rattle.wh_core.specs.Tables.{readable_now, sizes_now}
use Rattle.wh_core.specs.declared.event.Event.{Event}
use Rattle.wh_core.specs.declared.event.Event.TheVariants as event
use Rattle.wh_core.specs.declared.reply.Cause.{Cause}
use Rattle.wh_core.specs.declared.reply.Reply.{Reply}
use Rattle.wh_core.specs.declared.reply.Reply.TheVariants as reply
use Rattle.wh_dialogue.specs.Said.{changes_text, page_told_text, said_line, said_of, tables_text, told_text}
use Rattle.wh_dialogue.specs.declared.talking.TalkEnd.{TalkEnd}
use Rattle.wh_dialogue.specs.declared.talking.TalkEnd.TheVariants as ends
use Rattle.wh_live.specs.Commands.{Command, commands_of}
use Rattle.wh_live.specs.Commands as command
use Rattle.wh_live.specs.Requests.{is_asked}
use Rattle.wh_replies.specs.Events.{event_of}
use Rattle.wh_replies.specs.ReplyText.{line}
use Rattle.wh_stay.specs.Pages.{IsPageTold}
use Rattle.wh_stay.specs.Standing.{StandingOf}
use Rattle.wh_stay.specs.Told.{CarriesOn, IsNightTold, IsReady}
use Rattle.wh_stay.specs.declared.told.NightTold.{NightTold}
use Rattle.wh_stay.specs.declared.told.NightTold.TheVariants as told
use Rattle.wh_text.specs.declared.fault.LoadFault.{LoadFault}
use Rattle.wh_text_lines.specs.Words.{lines_of}
use Rattle.wh_text_lines.specs.declared.schedule.event.ScheduledEvent.{ScheduledEvent}

-- ---- a night

-- the reply is a refusal
abbrev pub is_refusal : Reply → Bool
is_refusal (reply.Refused why) = true
is_refusal _ = false

-- a night is carried on from this log by these events, each replied so, and none refused
pub data GoesOn (s : Setup) (begun : Log) : List Event → List Reply → Log → Type 0 where
  at_first : GoesOn s begun [] [] begun
  one_more : (events : List Event) (replies : List Reply) (log : Log) (event : Event) (r : Reply) → GoesOn s begun events replies log → CarriesOn s log event r
      → IsReply s log event r → is_refusal r ≡ false → GoesOn s begun (events ++ event ∷ []) (replies ++ r ∷ []) (logged log event r)

-- after what was done, a night is carried on no further: nothing more is in turn, or an event that would carry it on is refused
pub data Stops (s : Setup) (log : Log) : List Event → List Reply → List ℕ → Type 0 where
  is_ready : IsReady s log → Stops s log [] [] (line (codes "ready"))
  is_refused : (event : Event) (why : Cause) → CarriesOn s log event (reply.Refused why) → IsReply s log event (reply.Refused why)
      → Stops s log (event ∷ []) (reply.Refused why ∷ []) (said_line (reply.Refused why))

-- a night that has begun is carried on from this log: by these events and replies, of which this is printed, up to this log
pub record IsCarried (s : Setup) (begun : Log) (events : List Event) (replies : List Reply) (text : List ℕ) (log : Log) : Type 0 where
  pub carrying : List Event
  pub carried : List Reply
  pub stopping : List Event
  pub stopped : List Reply
  pub last : List ℕ
  pub goes_on : GoesOn s begun carrying carried log
  pub stops : Stops s log stopping stopped last
  pub events_are : events ≡ carrying ++ stopping
  pub replies_are : replies ≡ carried ++ stopped
  pub text_is : text ≡ flat_map said_line carried ++ last

-- ---- a command

-- what no line asks for by itself: what is not known, and an event of a schedule that belongs to a night's own steps
pub data IsStrange : Command → Type 0 where
  not_known : IsStrange command.Unknown
  not_asked : (event : ScheduledEvent) → is_asked event ≡ false → IsStrange (command.Event event)

-- What a command comes to, after what was done, over what stands: the events that the machine is asked, its replies, and what is printed of
-- them. It leaves this setup, this log, and this standing. Only a night that begins is a night more, and only it brings texts. A page, how
-- many rows all tables have and what the open night changes are told of what was done, and are no events: they leave all as it was, a desk's
-- bookmark too
pub data IsAnswered (s : Setup) (log : Log) (w : StandingOf) : Command → List Event → List Reply → List ℕ → Setup → Log → StandingOf → Type 0 where
  an_event : (event : ScheduledEvent) (r : Reply) → is_asked event ≡ true → (asked : Event) → asked ≡ event_of (length w.names) event → IsReply s log asked r
      → IsAnswered s log w (command.Event event) (asked ∷ []) (r ∷ []) (said_of w event r) s (logged log asked r) w
  a_page_asked : (desk : ℕ) (view : Option ℕ) (limit : ℕ) (after : Option (List ℕ)) (said : Result Reply LoadFault) → IsPageTold s log w desk view limit after said
      → IsAnswered s log w (command.Page desk view limit after) [] [] (page_told_text w view said) s log w
  all_tables : IsAnswered s log w command.Tables [] [] (tables_text w.names (sizes_now s log) (readable_now s log)) s log w
  all_changes : IsAnswered s log w command.Changes [] [] (changes_text w (change_written (versions s log))) s log w
  changes_want_memory : IsAnswered s log w command.Changes [] [] (line (codes "memory")) s log w
  tables_want_memory : IsAnswered s log w command.Tables [] [] (line (codes "memory")) s log w
  a_stranger : (strange : Command) → IsStrange strange → IsAnswered s log w strange [] [] (line (codes "unknown")) s log w
  the_end : IsAnswered s log w command.Quit [] [] [] s log w
  no_night : (parts : List ℕ) (said : NightTold) → IsNightTold s log w parts said w s log → said ≢ told.Replied reply.Begun
      → IsAnswered s log w (command.Night parts) [] [] (told_text said) s log w
  a_night : (parts : List ℕ) (stands : StandingOf) (setup : Setup) (begun after : Log) (events : List Event) (replies : List Reply) (text : List ℕ)
      → IsNightTold s log w parts (told.Replied reply.Begun) stands setup begun → IsCarried setup begun events replies text after
      → IsAnswered s log w (command.Night parts) (event.Begin ∷ events) (reply.Begun ∷ replies) (said_line reply.Begun ++ text) setup after stands

-- ---- commands

-- Commands are answered one after another, from this setup, log and standing on: the events that the machine is asked, its replies, and
-- what is printed. This setup, log and standing are left
pub data Dialogue (opening : Setup) (at : Log) (stood : StandingOf) : List Command → List Event → List Reply → List ℕ → Setup → Log → StandingOf → Type 0 where
  opens : Dialogue opening at stood [] [] [] [] opening at stood
  answers : (commands : List Command) (events : List Event) (replies : List Reply) (text : List ℕ) (s : Setup) (log : Log) (w : StandingOf)
      (next : Command) (asked : List Event) (replied : List Reply) (said : List ℕ) (setup : Setup) (after : Log) (stands : StandingOf)
      → Dialogue opening at stood commands events replies text s log w → IsAnswered s log w next asked replied said setup after stands
      → Dialogue opening at stood (commands ++ next ∷ []) (events ++ asked) (replies ++ replied) (text ++ said) setup after stands

-- the machine's replies to the commands of a dialogue are one legal run, of a setup that had all the nights from the start
abbrev pub DialoguesAreLegalRuns : Type 0
DialoguesAreLegalRuns =
    (opening s : Setup) (stood w : StandingOf) (commands : List Command) (events : List Event) (replies : List Reply) (text : List ℕ) (log : Log)
    → Dialogue opening [] stood commands events replies text s log w → IsLegalRun s events replies × (log_after [] events replies ≡ log)

-- ---- lines that come

-- the commands up to the first that ends the dialogue
abbrev pub up_to_quit : List Command → List Command
up_to_quit [] = []
up_to_quit (command.Quit ∷ commands) = command.Quit ∷ []
up_to_quit (next ∷ commands) = next ∷ up_to_quit commands

-- the one list begins with the other
abbrev pub BeginsSo : List Command → List Command → Type 0
BeginsSo all commands = (rest : List Command) × (all ≡ commands ++ rest)

-- these commands were answered of all that a source has: all up to the end of the dialogue where it came to that, and else a beginning
abbrev pub AreAnswered : List Command → TalkEnd → List Command → Type 0
AreAnswered all ends.Done commands = commands ≡ up_to_quit all
AreAnswered all other commands = BeginsSo (up_to_quit all) commands

-- What a talk comes to, from this setup, log and standing on, with a source of which these bytes are known: whole answers to commands were
-- written, one after another. They are those of the lines of the source, however it is cut into reads
pub record IsTalk (s : Setup) (log : Log) (w : StandingOf) (known before after : Option (List ℕ)) (end : TalkEnd) : Type 0 where
  pub commands : List Command
  pub events : List Event
  pub replies : List Reply
  pub text : List ℕ
  pub setup : Setup
  pub log_then : Log
  pub stands : StandingOf
  pub dialogue : Dialogue s log w commands events replies text setup log_then stands
  pub written : Appends before after text
  pub read : IfSome known (λ all. AreAnswered (commands_of w.names (lines_of all)) end commands)
