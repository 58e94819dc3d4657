-- Logs of the machine over events for the lists that running nights publish.
use Rattle.std.specs.Prelude.{◌≡◌, ◌≢◌, ◌⊎◌, ℕ, ◌+◌, ◌^◌, ◌<◌, ◌≤◌, Bool, true, false, List, [], ◌∷◌, ◌++◌, Option, None, Some, length, option_map, slice_get}
use mathlib.Core.List.{IsPrefix}
use Rattle.wh_row.specs.Row.{Row}
use Rattle.wh_maint.specs.Comp.{bag_at}
use Rattle.wh_carry.specs.Refused.{ArePassedBelow}
use Rattle.wh_store.specs.Operations.{Operation, Opens}
use Rattle.wh_store.specs.Pages.{Contents, Shown, page_of}
use Rattle.wh_store.specs.Versions.{Versions, number, table_in, version, versions_of}
use Rattle.wh_store.specs.Faults.{publish_refusal, Ends, EndsLater}
use Rattle.wh_store.specs.Ledgers.{Ledger, Warehouse}
use Rattle.wh_store.specs.declared.ended.Ended.{Ended}
use Rattle.wh_store.specs.Readers.{Bookmark, bookmark_after}
use Rattle.wh_carry.specs.Night.{Night, AreAllowed, HasEnded}
use Rattle.wh_desk.specs.Askers.{IsHad}
use Rattle.wh_desk.specs.Desks.{Grows, OpensAt, Reads, Sitting}
use Rattle.wh_desk.specs.Writers.{Writing}
use Rattle.wh_night.specs.Tonight.{Begin_it, IsDone, IsOpen, Leaves, newest_in, tonight}
use Rattle.wh_night.specs.declared.cause.NightCause.{NightCause}
use Rattle.wh_night.specs.declared.left.Aftermath.{Aftermath}
use Rattle.wh_night.specs.declared.left.Aftermath.TheVariants.{Untouched, GivenUp, StillOpen}
use Rattle.wh_core.specs.Laws.{IsSetup}
use Rattle.wh_core.specs.Log.{Log, SessionOf, is_open, nights_begun, session}
use Rattle.wh_core.specs.Nights.{GivenNight, Setup, night_from, versions}
use Rattle.wh_core.specs.Replies.{IsLegalLog}
use Rattle.wh_headline.specs.Alike.{AreSeenAlike, IsAnsweredAlike}

-- ---- what running nights publish

-- the warehouse of this setup
abbrev pub set_up_warehouse : Setup → Warehouse
set_up_warehouse s = record { limit = s.versions; opening = s.opening }

-- the night of this number, by pages of at most so many rows, from the contents that are the newest once these operations are published
abbrev pub night_after : Setup → List Operation → ℕ → ℕ → Night
night_after s ops n keys = record (night_from s (versions_of s.opening ops).newest n) { keys = keys }

-- it can begin: it was given, the version that it makes is not the one whose number is 2^64, its base changes are allowed, and a page of it
-- has rows
pub record CanBegin (s : Setup) (ops : List Operation) (n keys : ℕ) : Type 0 where
  pub given : n < length s.nights
  pub numbered : number (versions_of s.opening ops) + 1 ≢ 2 ^ 64
  pub allowed : AreAllowed (night_after s ops n keys)
  pub some_keys : 1 ≤ keys

-- the lists of so many nights that ended, one after another, each from the contents that were the newest when it began, and by pages of a
-- size of its own
pub data AreEndedNights (s : Setup) : ℕ → List Operation → Type 0 where
  none : AreEndedNights s 0 []
  one_more : (n keys : ℕ) (ops last : List Operation) → AreEndedNights s n ops → CanBegin s ops n keys → HasEnded (night_after s ops n keys) last
      → AreEndedNights s (n + 1) (ops ++ last)

-- what is published of a warehouse once so many nights have begun: all have ended; or the last is open, and a beginning of its list is
-- published, its Begin at least
pub data AreRunningNights (s : Setup) : ℕ → Bool → List Operation → Type 0 where
  all_ended : (n : ℕ) (ops : List Operation) → AreEndedNights s n ops → AreRunningNights s n false ops
  one_open : (n keys : ℕ) (ops puts : List Operation) → AreEndedNights s n ops → CanBegin s ops n keys → Begin_it (night_after s ops n keys) (Opens ∷ puts)
      → AreRunningNights s (n + 1) true (ops ++ Opens ∷ puts)

-- a beginning of what running nights publish is what running nights publish, wherever it ends: no more of them have begun in it, and the
-- last of these has ended or is open
abbrev pub BeginningsAreRunningNights : Type 0
BeginningsAreRunningNights =
    (s : Setup) (nights : ℕ) (active : Bool) (ops seen : List Operation) → AreRunningNights s nights active ops → IsPrefix seen ops
    → (n : ℕ) × (seen_open : Bool) × (n ≤ nights) × AreRunningNights s n seen_open seen

-- ---- a night that runs

-- behind this ledger, in which all nights have ended, the night of this number can begin: it is the given one, a page has rows, and a Begin is
-- not refused; where it is, `night` says so and leaves all as it was
pub record ComesNext (s : Setup) (n keys : ℕ) (given : GivenNight) (l : Ledger) : Type 0 where
  pub of : l.of ≡ set_up_warehouse s
  pub ended : AreEndedNights s n l.list
  pub is : slice_get s.nights n ≡ Some given
  pub free : publish_refusal l Opens ≡ None
  pub some_keys : 1 ≤ keys

-- what a night that was refused leaves: untouched, what was there; given up, the lists of one night more that ended; left open, the list
-- that was there, while its Begin is held, or one in which it is open
abbrev pub GoesOnAs : Setup → ℕ → Ledger → Aftermath → Ledger → Type 0
GoesOnAs s n l Untouched m = m ≡ l
GoesOnAs s n l GivenUp m = AreEndedNights s (n + 1) m.list
GoesOnAs s n l StillOpen m = AreRunningNights s n false m.list ⊎ AreRunningNights s (n + 1) true m.list

-- what it publishes goes on with such a list: where it is done; where it is refused; and where it was left open and is ended later, however
-- often want of memory has put that off: it is then left open as before
pub record GoOn (s : Setup) (n keys : ℕ) (given : GivenNight) (l m : Ledger) : Type 0 where
  pub done : IsDone (tonight s.catalog given.list l given.changes keys) l m → AreAllowed (tonight s.catalog given.list l given.changes keys)
      → ArePassedBelow s.catalog given.list (bag_at (newest_in l)) (bag_at given.changes) (length given.list) → AreEndedNights s (n + 1) m.list
  pub left : (cause : NightCause) (how : Aftermath) → Leaves (tonight s.catalog given.list l given.changes keys) cause l how m → GoesOnAs s n l how m
  pub put_off : (cause : NightCause) (k : Ledger) → IsOpen (tonight s.catalog given.list l given.changes keys) cause l k → EndsLater k m
      → IsOpen (tonight s.catalog given.list l given.changes keys) cause l m
  pub ended_later : (cause : NightCause) (k : Ledger) (answer : Ended) → IsOpen (tonight s.catalog given.list l given.changes keys) cause l k → Ends k m answer
      → AreEndedNights s (n + 1) m.list

abbrev pub NightsGoOn : Type 0
NightsGoOn = (s : Setup) (n keys : ℕ) (given : GivenNight) (l m : Ledger) → ComesNext s n keys given l → GoOn s n keys given l m

-- ---- logs

-- the log of a legal run that shows readers what this list shows them, in which as many nights have begun
pub record IsLogOf (s : Setup) (nights : ℕ) (night_open : Bool) (ops : List Operation) (log : Log) : Type 0 where
  pub legal : IsLegalLog s log
  pub versions : AreSeenAlike (versions_of s.opening ops) (versions s log)
  pub active : is_open log ≡ night_open
  pub begun : nights_begun log ≡ nights

-- this bookmark was left by a page of these contents: it ends with the bookmark's row, and more rows follow
pub record WasLeft (contents : Contents) (mark : Bookmark) : Type 0 where
  pub view : mark.view < length contents
  pub row : Option Row
  pub limit : ℕ
  pub left : bookmark_after mark.view (page_of (table_in contents mark.view) row limit) ≡ Some mark

-- a session whose version was current once; if it has a bookmark, a page of this version has left it
pub record IsSeat (v : Versions) (of : SessionOf) : Type 0 where
  pub there : of.version ≤ number v
  pub stands : (mark : Bookmark) → of.bookmark ≡ Some mark → WasLeft (version v of.version) mark

-- the desks' sessions, none where a desk has none
abbrev pub AreSeats : Setup → List Operation → (ℕ → Option SessionOf) → Type 0
AreSeats s ops seats = (d : ℕ) (of : SessionOf) → d < s.desks → seats d ≡ Some of → IsSeat (versions_of s.opening ops) of

-- in this log each desk has its session
abbrev pub HaveSeats : Setup → Log → (ℕ → Option SessionOf) → Type 0
HaveSeats s log seats = (d : ℕ) → d < s.desks → session log d ≡ seats d

-- with one worker at least, running nights have such a log, whatever sessions the desks have, and wherever in them a reader stands
abbrev pub RunningNightsHaveALog : Type 0
RunningNightsHaveALog =
    (s : Setup) (nights : ℕ) (active : Bool) (ops : List Operation) (seats : ℕ → Option SessionOf) → IsSetup s → 1 ≤ s.workers
    → AreRunningNights s nights active ops → AreSeats s ops seats → (log : Log) × IsLogOf s nights active ops log × HaveSeats s log seats

-- ---- desks beside running nights

-- What a reader's calls of its desk have come to, and where it may go on: where a view begins, if its desk has no session or has opened one;
-- behind the page that it was given, if more rows follow; where it could before, whatever else was answered or told; and always where a view
-- begins
pub data IsServed : Sitting → Option Bookmark → Type 0 where
  comes : (t : Sitting) → t.session ≡ None → IsServed t None
  opens : (t u : Sitting) (v : ℕ) → OpensAt t u v → IsServed u None
  reads : (t u : Sitting) (mark : Option Bookmark) (view limit : ℕ) (row : Option Row) (page : Shown) → IsServed t mark → Reads t u view row limit page
      → IsServed u (bookmark_after view page)
  stays : (t u : Sitting) (mark : Option Bookmark) → IsServed t mark → Grows t u → u.session ≡ t.session → IsServed u mark
  turns_back : (t : Sitting) (mark : Option Bookmark) → IsServed t mark → IsServed t None

-- a desk that is answered from all that the writer has published: it was told of that, as `Desk::learn` does what `Writer::tell` gives, and
-- has seen no more
pub record IsDeskBeside (w : Writing) (mark : Option Bookmark) (before after : Sitting) : Type 0 where
  pub served : IsServed before mark
  pub grows : Grows before after
  pub told : IsPrefix w.ledger.list after.list
  pub had : IsHad w after

-- in the log the desk has the session that it had, which goes on where the reader does, and it is answered as the log's reply is
pub record IsAnsweredFrom (s : Setup) (log : Log) (d : ℕ) (mark : Option Bookmark) (before after : Sitting) : Type 0 where
  pub session : session log d ≡ option_map (λ v. record { version = v; bookmark = mark }) before.session
  pub answered : IsAnsweredAlike s log d before after

-- There is one such log by which all desks that see the list of running nights are answered, wherever their readers go on. So it is of each
-- page of a session, in turn: of the first one of a view, and of each that begins after the last row of one before it, up to the last
abbrev pub DesksBesideNightsAnswerAsTheMachine : Type 0
DesksBesideNightsAnswerAsTheMachine =
    (s : Setup) (nights : ℕ) (active : Bool) (w : Writing) (marks : ℕ → Option Bookmark) (before after : ℕ → Sitting) → IsSetup s → 1 ≤ s.workers
    → w.ledger.of ≡ set_up_warehouse s → AreRunningNights s nights active w.ledger.list → ((d : ℕ) → d < s.desks → IsDeskBeside w (marks d) (before d) (after d))
    → (log : Log) × IsLogOf s nights active w.ledger.list log × ((d : ℕ) → d < s.desks → IsAnsweredFrom s log d (marks d) (before d) (after d))

-- so it is of each desk of which the writer has all that it saw, which may be less than is published, and other for each: there is a log of
-- what the desk sees by which it is answered
abbrev pub DesksThatLagAnswerAsTheMachine : Type 0
DesksThatLagAnswerAsTheMachine =
    (s : Setup) (nights : ℕ) (active : Bool) (w : Writing) (d : ℕ) (mark : Option Bookmark) (before after : Sitting) → IsSetup s → 1 ≤ s.workers
    → w.ledger.of ≡ set_up_warehouse s → AreRunningNights s nights active w.ledger.list → d < s.desks → IsServed before mark → Grows before after → IsHad w after
    → (n : ℕ) × (seen_open : Bool) × (log : Log) × (n ≤ nights) × IsLogOf s n seen_open after.list log × IsAnsweredFrom s log d mark before after
