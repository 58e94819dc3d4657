-- That logs of running nights go on: by what more is published, and by what desks are asked.
use Rattle.std.specs.Prelude.{◌≡◌, ◌≢◌, ℕ, ◌<◌, ◌==◌, Bool, false, if◌then◌else◌, List, [], ◌∷◌, Option, option_map}
use mathlib.Core.List.{IsPrefix}
use Rattle.wh_store.specs.Operations.{Operation}
use Rattle.wh_store.specs.Pages.{Shown}
use Rattle.wh_desk.specs.Desks.{Sitting}
use Rattle.wh_store.specs.Readers.{Bookmark}
use Rattle.wh_desk.specs.Reading.{Call, IsCall}
use Rattle.wh_desk.specs.declared.asks.Ask.{Ask}
use Rattle.wh_desk.specs.declared.asks.Ask.TheVariants as ask
use Rattle.wh_desk.specs.declared.asks.Answer.{Answer}
use Rattle.wh_desk.specs.declared.asks.Answer.TheVariants as answer
use Rattle.wh_desk.specs.declared.chair.DeskFault.TheVariants.{NoSession, SessionOpen, Expired, NoView, Memory, Away}
use Rattle.wh_core.specs.declared.event.Event.{Event}
use Rattle.wh_core.specs.declared.event.Event.TheVariants.{Begin, Take, Done, PageIn, Commit, GiveUp, Open, Read, Close}
use Rattle.wh_core.specs.declared.reply.Cause.TheVariants as cause
use Rattle.wh_core.specs.declared.reply.Reply.{Reply}
use Rattle.wh_core.specs.declared.reply.Reply.TheVariants as reply
use Rattle.wh_core.specs.Laws.{IsSetup, log_after}
use Rattle.wh_core.specs.Log.{Log, SessionOf, logged, session}
use Rattle.wh_core.specs.Nights.{Setup}
use Rattle.wh_core.specs.Replies.{IsReply, IsRunFrom}
use Rattle.wh_headline.specs.RunningNights.{AreRunningNights, IsLogOf, set_up_warehouse}

-- ---- runs that go on

-- behind this log these events have these replies, and leave that one
pub record GoesOnBy (s : Setup) (log : Log) (events : List Event) (replies : List Reply) (later : Log) : Type 0 where
  pub run : IsRunFrom s log events replies
  pub leaves : log_after log events replies ≡ later

-- the event is one of this desk
abbrev pub is_of_desk : ℕ → Event → Bool
is_of_desk d Begin = false
is_of_desk d (Take w) = false
is_of_desk d (Done w) = false
is_of_desk d PageIn = false
is_of_desk d Commit = false
is_of_desk d GiveUp = false
is_of_desk d (Open e) = e == d
is_of_desk d (Read e view limit) = e == d
is_of_desk d (Close e) = e == d

-- the events of a desk in a run, in their order, each with its reply
abbrev pub asked_at : ℕ → List Event → List Reply → List (Event × Reply)
asked_at d (event ∷ events) (r ∷ replies) = if is_of_desk d event then (event, r) ∷ asked_at d events replies else asked_at d events replies
asked_at d [] replies = []
asked_at d events [] = []

-- the run goes on by events of the night alone: by none of a desk, and each desk has the session that it had
pub record NightsGoOnAlone (s : Setup) (log later : Log) : Type 0 where
  pub events : List Event
  pub replies : List Reply
  pub on : GoesOnBy s log events replies later
  pub no_desk : (d : ℕ) → asked_at d events replies ≡ []
  pub sessions : (d : ℕ) → session later d ≡ session log d

-- ---- what more is published

-- each log of a beginning of what running nights publish goes on to one of the whole, by events of the night alone, whatever its workers
-- are at. So the logs of a list that grows are those of one run
abbrev pub LogsGrow : Type 0
LogsGrow =
    (s : Setup) (n nights : ℕ) (seen_open active : Bool) (seen ops : List Operation) (log : Log) → IsSetup s → AreRunningNights s nights active ops
    → IsPrefix seen ops → IsLogOf s n seen_open seen log → (later : Log) × IsLogOf s nights active ops later × NightsGoOnAlone s log later

-- ---- what desks are asked

-- the event that a desk is asked by
pub data IsEventOf (d : ℕ) : Ask → Event → Type 0 where
  is_open : IsEventOf d ask.Open (Open d)
  is_read : (view limit : ℕ) → IsEventOf d (ask.Page view limit) (Read d view limit)
  is_close : IsEventOf d ask.Close (Close d)

-- the reply that an answer is
pub data IsReplyOf : Answer → Reply → Type 0 where
  of_session : (v : ℕ) → IsReplyOf (answer.Session v) (reply.Session v)
  of_page : (page : Shown) → IsReplyOf (answer.Page page) (reply.Page page)
  of_closed : IsReplyOf answer.Closed reply.Closed
  of_no_session : IsReplyOf (answer.Refused NoSession) (reply.Refused cause.NoSession)
  of_session_open : IsReplyOf (answer.Refused SessionOpen) (reply.Refused cause.SessionOpen)
  of_expired : (of current : ℕ) (active : Bool) → IsReplyOf (answer.Refused (Expired of current active)) (reply.Refused (cause.Expired of current active))
  of_no_view : IsReplyOf (answer.Refused NoView) (reply.Refused cause.NoView)
  of_memory : IsReplyOf (answer.Refused Memory) (reply.Refused cause.Memory)

-- a desk's call and its answer are this event and its reply
abbrev pub IsAskedAs : ℕ → Call → Event × Reply → Type 0
IsAskedAs d call said = IsEventOf d call.0 said.0 × IsReplyOf call.1 said.1

-- So it is of each of its calls, in turn, and there are no other events. A call that is answered Away is no event: the copy that readers see
-- could not be had, and nothing has changed
pub data AreAskedAs (d : ℕ) : List Call → List (Event × Reply) → Type 0 where
  none_asked : AreAskedAs d [] []
  asked_more : (call : Call) (said : Event × Reply) (calls : List Call) (more : List (Event × Reply)) → IsAskedAs d call said → AreAskedAs d calls more
      → AreAskedAs d (call ∷ calls) (said ∷ more)
  away : (a : Ask) (calls : List Call) (more : List (Event × Reply)) → AreAskedAs d calls more → AreAskedAs d ((a, answer.Refused Away) ∷ calls) more

-- where a reader stands is the bookmark of its desk's session
abbrev pub seat_of : Sitting → Option Bookmark → Option SessionOf
seat_of t at = option_map (λ v. record { version = v; bookmark = at }) t.session

-- the desk is one of this setup, and sees this list
pub record SeesHere (s : Setup) (d : ℕ) (ops : List Operation) (u : Sitting) : Type 0 where
  pub desk : d < s.desks
  pub of : u.of ≡ set_up_warehouse s
  pub list : u.list ≡ ops

-- Behind a log of this list the event is replied to as the desk was answered. The log stays one of the list, in which the desk has the
-- session that the call has left, and each other desk its own
pub record IsCalledAs (s : Setup) (n : ℕ) (active : Bool) (ops : List Operation) (log : Log) (d : ℕ) (call : Call) (u : Sitting) (later : Option Bookmark) : Type 0 where
  pub event : Event
  pub r : Reply
  pub asked : IsAskedAs d call (event, r)
  pub is_reply : IsReply s log event r
  pub stays : IsLogOf s n active ops (logged log event r)
  pub own : session (logged log event r) d ≡ seat_of u later
  pub others : (e : ℕ) → d ≢ e → session (logged log event r) e ≡ session log e

-- each call of a desk that sees the log's list, and has in the log the session that it has, is such an event of the log, unless it is answered Away
abbrev pub CallsAreEvents : Type 0
CallsAreEvents =
    (s : Setup) (n : ℕ) (active : Bool) (ops : List Operation) (log : Log) (d : ℕ) (t u : Sitting) (at later : Option Bookmark) (a : Ask) (said : Answer)
    → IsLogOf s n active ops log → session log d ≡ seat_of t at → SeesHere s d ops u → IsCall t at a said u later → said ≢ answer.Refused Away → IsCalledAs s n active ops log d (a, said) u later
