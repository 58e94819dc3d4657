-- What was done, the latest first: the accepted events, each with what it was answered. A refused event leaves nothing.
use Rattle.std.specs.Prelude.{ℕ, ◌+◌, ◌==◌, List, [], ◌∷◌, Option, Some, None, Bool, true, false, if◌then◌else◌, option_map}
use Rattle.wh_store.specs.Pages.{Shown}
use Rattle.wh_store.specs.Readers.{Bookmark, bookmark_after}
use Rattle.wh_core.specs.declared.event.Event.{Event}
use Rattle.wh_core.specs.declared.event.Event.TheVariants.{Begin, Take, Done, PageIn, Commit, GiveUp, Open, Read, Close}
use Rattle.wh_core.specs.declared.reply.Reply.{Reply}
use Rattle.wh_core.specs.declared.reply.Reply.TheVariants as reply

pub data Deed : Type 0 where
  Began : Deed
  Drew : (worker job : ℕ) → Deed
  Finished : (worker : ℕ) → Deed
  Paged_in : Deed
  Committed : Deed
  Gave_up : Deed
  Sat_down : (desk version : ℕ) → Deed
  Turned : (desk view : ℕ) → (page : Shown) → Deed
  Left : (desk : ℕ) → Deed

abbrev pub Log : Type 0
Log = List Deed

-- the log after an event and its reply
abbrev pub logged : Log → Event → Reply → Log
logged log Begin reply.Begun = Began ∷ log
logged log (Take w) (reply.Job n) = Drew w n ∷ log
logged log (Done w) reply.Done = Finished w ∷ log
logged log PageIn (reply.Paged n) = Paged_in ∷ log
logged log Commit (reply.Version v) = Committed ∷ log
logged log GiveUp (reply.Version v) = Gave_up ∷ log
logged log (Open d) (reply.Session v) = Sat_down d v ∷ log
logged log (Read d view limit) (reply.Page p) = Turned d view p ∷ log
logged log (Close d) reply.Closed = Left d ∷ log
logged log e r = log

-- how many nights have begun
abbrev pub nights_begun : Log → ℕ
nights_begun [] = 0
nights_begun (Began ∷ log) = nights_begun log + 1
nights_begun (d ∷ log) = nights_begun log

-- the number of the night that began last, from 0: so many had begun before it
abbrev pub last_begun : Log → ℕ
last_begun [] = 0
last_begun (Began ∷ log) = nights_begun log
last_begun (d ∷ log) = last_begun log

-- how many nights have ended. Each of them made a version, so this is the current version's number, and the open night's, from 0
abbrev pub nights_ended : Log → ℕ
nights_ended [] = 0
nights_ended (Committed ∷ log) = nights_ended log + 1
nights_ended (Gave_up ∷ log) = nights_ended log + 1
nights_ended (d ∷ log) = nights_ended log

-- a night has begun and has no end yet
abbrev pub is_open : Log → Bool
is_open [] = false
is_open (Began ∷ log) = true
is_open (Committed ∷ log) = false
is_open (Gave_up ∷ log) = false
is_open (d ∷ log) = is_open log

-- how many pages are put in the open night
abbrev pub pages : Log → ℕ
pages [] = 0
pages (Began ∷ log) = 0
pages (Committed ∷ log) = 0
pages (Gave_up ∷ log) = 0
pages (Paged_in ∷ log) = pages log + 1
pages (d ∷ log) = pages log

-- the job that a worker has drawn and not done; a night that ends frees all workers
abbrev pub holding : Log → ℕ → Option ℕ
holding [] w = None
holding (Began ∷ log) w = None
holding (Committed ∷ log) w = None
holding (Gave_up ∷ log) w = None
holding (Drew u n ∷ log) w = if u == w then Some n else holding log w
holding (Finished u ∷ log) w = if u == w then None else holding log w
holding (d ∷ log) w = holding log w

-- a desk's session: its version, and its bookmark, if it has one
pub record SessionOf : Type 0 where
  pub version : ℕ
  pub bookmark : Option Bookmark

-- the session of a desk
abbrev pub session : Log → ℕ → Option SessionOf
session [] d = None
session (Sat_down e v ∷ log) d = if e == d then Some (record { version = v; bookmark = None }) else session log d
session (Turned e view page ∷ log) d = if e == d then option_map (λ (s : SessionOf). record { version = s.version; bookmark = bookmark_after view page }) (session log d) else session log d
session (Left e ∷ log) d = if e == d then None else session log d
session (x ∷ log) d = session log d
