-- What is told of a night whose parts came, and of what carries it on.
use Rattle.std.specs.Prelude.{◌≡◌, ◌≢◌, ℕ, List, [], ◌∷◌, Option, Some, None, Ok, Err, Result}
use Rattle.wh_strategy.specs.Rules.{IsCorrect, IsFirstBroken}
use Rattle.wh_strategy.specs.declared.rule.Rule.{Rule}
use Rattle.wh_core.specs.Laws.{IsSetup}
use Rattle.wh_core.specs.Log.{Log, Began, logged}
use Rattle.wh_core.specs.Nights.{GivenNight as NightOfMachine, Setup, with_nights}
use Rattle.wh_core.specs.Replies.{IsReply}
use Rattle.wh_core.specs.Standing.{StandsWith}
use Rattle.wh_core.specs.declared.event.Event.{Event}
use Rattle.wh_core.specs.declared.event.Event.TheVariants as event
use Rattle.wh_core.specs.declared.reply.Cause.TheVariants as cause
use Rattle.wh_core.specs.declared.reply.Reply.{Reply}
use Rattle.wh_core.specs.declared.reply.Reply.TheVariants as reply
use Rattle.wh_core.specs.declared.warehouse.Core.{Core}
use Rattle.wh_later.specs.LaterNight.{later_of}
use Rattle.wh_load.specs.ReadingNight.{GivenNight}
use Rattle.wh_text.specs.declared.fault.LoadFault.{LoadFault}
use Rattle.wh_text_catalogue.specs.FormulaKinds.{Texts}
use Rattle.wh_stay.specs.Standing.{StandingOf, with_texts}
use Rattle.wh_stay.specs.declared.told.NightTold.{NightTold}
use Rattle.wh_stay.specs.declared.told.NightTold.TheVariants as told

-- a night that was read, as a machine takes it
abbrev pub night_of_machine : GivenNight → NightOfMachine
night_of_machine night = record { changes = night.changes; list = night.list }

-- the setup with this night behind those that were given
abbrev pub with_night : Setup → GivenNight → Setup
with_night s night = with_nights s (night_of_machine night ∷ [])

-- what the bytes of a night's parts give over what stands, and the texts after them; or their first fault
abbrev pub night_in : StandingOf → List ℕ → Result (GivenNight × Texts) LoadFault
night_in w parts = later_of w.names w.views w.strategy w.texts parts

-- What is told of a night with these parts, after what was done, and what then stands, is given and was done. Only a night that begins
-- changes anything. The reply to its Begin is the one that the machine has with this night behind the others. Memory may be refused at any
-- point before
pub data IsNightTold (s : Setup) (log : Log) (w : StandingOf) (parts : List ℕ) : NightTold → StandingOf → Setup → Log → Type 0 where
  has_a_fault : (f : LoadFault) → night_in w parts ≡ Err f → IsNightTold s log w parts (told.Fault f) w s log
  breaks_a_rule : (night : GivenNight) (texts : Texts) (rule : Rule) (place : ℕ) → night_in w parts ≡ Ok (night, texts)
      → IsFirstBroken s.catalog.views.children night.list rule place → IsNightTold s log w parts (told.Broken rule place) w s log
  is_refused : (night : GivenNight) (texts : Texts) (r : Reply) → night_in w parts ≡ Ok (night, texts) → IsCorrect s.catalog.views.children night.list
      → r ≢ reply.Begun → IsReply (with_night s night) log event.Begin r → IsNightTold s log w parts (told.Replied r) w s log
  wants_memory : IsNightTold s log w parts (told.Replied (reply.Refused cause.Memory)) w s log
  has_begun : (night : GivenNight) (texts : Texts) → night_in w parts ≡ Ok (night, texts) → IsCorrect s.catalog.views.children night.list
      → IsReply (with_night s night) log event.Begin reply.Begun
      → IsNightTold s log w parts (told.Replied reply.Begun) (with_texts w texts) (with_night s night) (Began ∷ log)

-- so it is told, and the machine stands so
pub record IsTold {F G : Type 0} (s : Setup) (log : Log) (w : StandingOf) (parts : List ℕ) (said : NightTold) (stands : StandingOf) (core : Core F G) : Type 0 where
  pub setup : Setup
  pub log_then : Log
  pub told_so : IsNightTold s log w parts said stands setup log_then
  pub is_setup : IsSetup setup
  pub core_stands : StandsWith setup log_then core

-- the first worker finds no job, and no page is in turn
abbrev pub IsReady : Setup → Log → Type 0
IsReady s log = IsReply s log (event.Take 0) (reply.Refused cause.NoJob) × IsReply s log event.PageIn (reply.Refused cause.NotReady)

-- the event that carries a night on after what was done, with its reply: the first worker draws a job; or it has one already, and is done with
-- it; or it finds none, and a page is put
pub data CarriesOn (s : Setup) (log : Log) : Event → Reply → Type 0 where
  a_draw : (r : Reply) → r ≢ reply.Refused cause.Busy → r ≢ reply.Refused cause.NoJob → CarriesOn s log (event.Take 0) r
  a_done : (r : Reply) → IsReply s log (event.Take 0) (reply.Refused cause.Busy) → CarriesOn s log (event.Done 0) r
  a_page : (r : Reply) → IsReply s log (event.Take 0) (reply.Refused cause.NoJob) → r ≢ reply.Refused cause.NotReady → CarriesOn s log event.PageIn r

-- the night was carried on by this event, which had this reply; where there is none, nothing more is in turn
abbrev pub IsCarriedOn : {F G : Type 0} → Setup → Log → Option (Event × Reply) → Core F G → Type 0
IsCarriedOn s log None core = IsReady s log × StandsWith s log core
IsCarriedOn s log (Some pair) core = CarriesOn s log pair.0 pair.1 × IsReply s log pair.0 pair.1 × StandsWith s (logged log pair.0 pair.1) core
