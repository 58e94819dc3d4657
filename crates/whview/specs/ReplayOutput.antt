-- What `replay` prints for the bytes of a bundle, and the status that it ends with.
use Rattle.std.specs.Prelude.{◌≡◌, ◌⊎◌, ℕ, List, [], ◌∷◌, length, map, Bool, true, false, MatchResult}
use Rattle.std.specs.List.{list_any}
use Rattle.wh_dag.specs.Catalog.{CatalogOf}
use Rattle.wh_row.specs.Bag.{Bag}
use Rattle.wh_text_catalogue.specs.ReadCatalog.{catalog_of}
use Rattle.wh_core.specs.Headline.{ComesTrue}
use Rattle.wh_core.specs.Laws.{IsSetup}
use Rattle.wh_core.specs.Nights.{GivenNight as NightOfMachine, Setup}
use Rattle.wh_core.specs.Replies.{IsLegalRun}
use Rattle.wh_core.specs.declared.event.Event.{Event}
use Rattle.wh_core.specs.declared.reply.Cause.TheVariants as cause
use Rattle.wh_core.specs.declared.reply.Reply.{Reply}
use Rattle.wh_core.specs.declared.reply.Reply.TheVariants as reply
use Rattle.wh_load.specs.ReadingNight.{GivenNight}
use Rattle.wh_load.specs.ReadingReplay.{Replay, replay_of}
use Rattle.wh_maint.specs.Comp.{bag_at}
use Rattle.wh_maint.specs.Definition.{graph_of}
use Rattle.wh_maint.specs.Opening.{HasNoContents}
use Rattle.wh_maint.specs.declared.fault.MaintFault.{MaintFault}
use Rattle.wh_text_lines.specs.ScheduleText.{ScheduleOf}
use Rattle.wh_strategy.specs.Rules.{IsCorrect, IsFirstBroken}
use Rattle.wh_strategy.specs.declared.rule.Rule.{Rule}
use Rattle.whview.specs.CheckOutput.{IsFaultShown, broken_text}
use Rattle.whview.specs.NightOutput.{AreOpened, refused_text}
use Rattle.wh_replies.specs.Events.{event_of}
use Rattle.wh_replies.specs.ReplyText.{replies_text}

-- ---- what a machine is given

-- a night that was read, as a machine takes it
abbrev pub night_of_machine : GivenNight → NightOfMachine
night_of_machine night = record { changes = night.changes; list = night.list }

-- a machine over this catalogue, of the schedule's size, from these contents; it keeps as many versions as the schedule says
abbrev pub machine_of : CatalogOf → ScheduleOf → List Bag → List NightOfMachine → Setup
machine_of catalog schedule tables nights = record {
  catalog = catalog;
  desks = schedule.desks;
  workers = schedule.workers;
  versions = schedule.versions;
  keys = schedule.keys;
  opening = tables;
  nights = nights;
}

-- the machine that goes through what is replayed
abbrev pub setup_of : Replay → List Bag → Setup
setup_of r tables = machine_of (catalog_of r.shape r.opening.views) r.schedule tables (map night_of_machine r.nights)

-- the events of what is replayed
abbrev pub events_of : Replay → List Event
events_of r = map (event_of (length r.shape.children)) r.schedule.events

-- ---- strategies

-- the strategy of each night is correct
abbrev pub AreCorrect : List (List ℕ) → List GivenNight → Type 0
AreCorrect children [] = Unit {0}
AreCorrect children (night ∷ nights) = IsCorrect children night.list × AreCorrect children nights

-- of the first night whose strategy is not correct, this is the first rule that it breaks, at this place first
abbrev pub IsFirstBrokenNight : List (List ℕ) → List GivenNight → Rule → ℕ → Type 0
IsFirstBrokenNight children [] rule place = ⊥
IsFirstBrokenNight children (night ∷ nights) rule place =
    IsFirstBroken children night.list rule place ⊎ (IsCorrect children night.list × IsFirstBrokenNight children nights rule place)

-- ---- what is printed

-- the reply is that memory was refused
abbrev pub is_memory : Reply → Bool
is_memory (reply.Refused cause.Memory) = true
is_memory _ = false

-- What is printed of a replay, and the status. Its replies are those of a legal run, from the contents of the base that was read, of a
-- machine that fits together. They come to what they say; want of memory is told as such and is none of these.
pub data IsReplayTold (r : Replay) (text : List ℕ) (status : ℕ) : Type 0 where
  broken : (rule : Rule) (place : ℕ) → IsFirstBrokenNight r.shape.children r.nights rule place → text ≡ broken_text rule place → status ≡ 1 → IsReplayTold r text status
  no_contents : (fault : MaintFault) → AreCorrect r.shape.children r.nights → HasNoContents (graph_of (catalog_of r.shape r.opening.views)) (bag_at r.opening.tables) fault
      → text ≡ refused_text r.shape.names fault → status ≡ 1 → IsReplayTold r text status
  replayed : (tables : List Bag) (replies : List Reply) → AreCorrect r.shape.children r.nights → AreOpened r.shape r.opening tables
      → IsSetup (setup_of r tables) → IsLegalRun (setup_of r tables) (events_of r) replies → ComesTrue (setup_of r tables) (events_of r) replies
      → list_any is_memory replies ≡ false
      → text ≡ replies_text replies → status ≡ 0 → IsReplayTold r text status

-- what `replay` prints for a bundle's bytes, and the status
abbrev pub IsReplayOutput : List ℕ → List ℕ → ℕ → Type 0
IsReplayOutput bytes text status =
    MatchResult (replay_of bytes) (λ r. IsReplayTold r text status) (λ fault. IsFaultShown fault text status)
