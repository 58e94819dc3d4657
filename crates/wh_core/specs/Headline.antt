-- What a list of events comes to with its replies, whatever the order of workers', readers' and the writer's steps: which contents each
-- version has, what readers see of them, and what each refusal is for.
use Rattle.std.specs.Prelude.{◌≡◌, ◌≢◌, ◌⊎◌, ℕ, zero, suc, negsuc, ◌+ℤ◌, ◌≤ℤ◌, ◌+◌, ◌^◌, ◌<◌, ◌≤◌, List, [], ◌∷◌, length, reverse, slice_get, take, Some, None, Bool, true, false}
use Rattle.std.specs.List.{flat_map}
use Rattle.wh_dag.specs.Shape.{children_of}
use Rattle.wh_strategy.specs.declared.expression.Expression.{Expression}
use Rattle.wh_strategy.specs.declared.expression.Expression.TheVariants.{Comp, Inst}
use Rattle.wh_row.specs.Row.{Row}
use Rattle.wh_row.specs.Bag.{SumFits, count, difference_of, written}
use Rattle.wh_maint.specs.Asked.{AreBags}
use Rattle.wh_maint.specs.Comp.{bag_at}
use Rattle.wh_maint.specs.Contents.{AreContents, AreContentsOf}
use Rattle.wh_maint.specs.Definition.{graph_of}
use Rattle.wh_maint.specs.Laws.{changed}
use Rattle.wh_carry.specs.NightList.{pages_of}
use Rattle.wh_store.specs.Pages.{Contents, Shown}
use Rattle.wh_store.specs.Versions.{table_in}
use Rattle.wh_store.specs.Readers.{goes_on, read_by}
use Rattle.wh_core.specs.declared.event.Event.{Event}
use Rattle.wh_core.specs.declared.event.Event.TheVariants.{Begin, Take, Done, PageIn, Commit, GiveUp, Open, Read, Close}
use Rattle.wh_core.specs.declared.reply.Cause.{Cause}
use Rattle.wh_core.specs.declared.reply.Cause.TheVariants as cause
use Rattle.wh_core.specs.declared.reply.Reply.{Reply}
use Rattle.wh_core.specs.declared.reply.Reply.TheVariants as reply
use Rattle.wh_core.specs.Log.{Log, Began, Drew, Finished, SessionOf, holding, is_open, nights_ended, pages, session}
use Rattle.wh_core.specs.Nights.{GivenNight, Setup}
use Rattle.wh_core.specs.Laws.{IsSetup, log_after, pages_read}
use Rattle.wh_core.specs.Replies.{IsLegalRun, unread_cause}

-- ---- events and replies

-- what was done before the event at this place
abbrev pub done_before : List Event → List Reply → ℕ → Log
done_before events replies place = log_after [] (take place events) (take place replies)

-- the event at this place is this one, and has this reply
abbrev pub IsAnswered : List Event → List Reply → ℕ → Event → Reply → Type 0
IsAnswered events replies place event r = (slice_get events place ≡ Some event) × (slice_get replies place ≡ Some r)

-- it is this one, or a refusal
abbrev pub IsOrRefused : Reply → Reply → Type 0
IsOrRefused said r = (r ≡ said) ⊎ ((why : Cause) × (r ≡ reply.Refused why))

-- ---- nights

-- the open night is this one of those that were given
abbrev pub IsTonight : Setup → Log → GivenNight → Type 0
IsTonight s log given = (is_open log ≡ true) × (slice_get s.nights (nights_ended log) ≡ Some given)

-- a night makes the second contents of the first: every view is its definition over the base with the night's changes
abbrev pub Makes : Setup → GivenNight → Contents → Contents → Type 0
Makes s given old new = AreContentsOf (graph_of s.catalog) (changed (bag_at old) (bag_at given.changes)) (bag_at new)

-- how many Comps a strategy has
abbrev pub comps : List Expression → ℕ
comps [] = 0
comps (Comp v ys ∷ list) = comps list + 1
comps (Inst v ∷ list) = comps list

-- what of a strategy stands before its Comp of this number, from 0
abbrev pub before_comp : ℕ → List Expression → List Expression
before_comp n [] = []
before_comp n (Inst v ∷ list) = Inst v ∷ before_comp n list
before_comp zero (Comp v ys ∷ list) = []
before_comp (suc n) (Comp v ys ∷ list) = Comp v ys ∷ before_comp n list

-- how many jobs are drawn in the open night, and how many are done
abbrev pub jobs_drawn : Log → ℕ
jobs_drawn [] = 0
jobs_drawn (Began ∷ log) = 0
jobs_drawn (Drew w n ∷ log) = jobs_drawn log + 1
jobs_drawn (d ∷ log) = jobs_drawn log

abbrev pub jobs_done : Log → ℕ
jobs_done [] = 0
jobs_done (Began ∷ log) = 0
jobs_done (Finished w ∷ log) = jobs_done log + 1
jobs_done (d ∷ log) = jobs_done log

-- how many pages of at most so many rows those rows fill that count otherwise in the new contents, in the views that these expressions install
abbrev pub pages_for : ℕ → Contents → Contents → List Expression → ℕ
pages_for keys old new [] = 0
pages_for keys old new (Comp v ys ∷ list) = pages_for keys old new list
pages_for keys old new (Inst v ∷ list) = length (pages_of keys (written (difference_of (table_in new v) (table_in old v)))) + pages_for keys old new list

-- a changed row of a view that these expressions install is not put yet: whatever contents the open night makes, they fill more pages
abbrev pub IsUnpaged : Setup → (ℕ → Contents) → Log → GivenNight → List Expression → Type 0
IsUnpaged s made log given list = (new : Contents) → Makes s given (made (nights_ended log)) new → pages log < pages_for s.keys (made (nights_ended log)) new list

-- each way to answer a Begin: it is refused in a night, where no night or no number of a version is left, for rows of base views, and for want of memory
pub data IsBegun (s : Setup) (made : ℕ → Contents) (log : Log) : Reply → Type 0 where
  has_begun : is_open log ≡ false → nights_ended log < length s.nights → IsBegun s made log reply.Begun
  in_a_night : is_open log ≡ true → IsBegun s made log (reply.Refused cause.NightOpen)
  no_night_left : is_open log ≡ false → length s.nights ≤ nights_ended log → IsBegun s made log (reply.Refused cause.NoNight)
  wants_memory : is_open log ≡ false → nights_ended log < length s.nights → IsBegun s made log (reply.Refused cause.Memory)
  last_version : is_open log ≡ false → nights_ended log + 1 ≡ 2 ^ 64 → IsBegun s made log (reply.Refused cause.LastVersion)
  lacks_a_row : is_open log ≡ false → (given : GivenNight) (b : ℕ) (row : Row) → slice_get s.nights (nights_ended log) ≡ Some given → children_of s.catalog.views.children b ≡ []
      → (count (table_in (made (nights_ended log)) b) row +ℤ count (bag_at given.changes b) row) ≤ℤ negsuc 0 → IsBegun s made log (reply.Refused cause.Absent)
  counts_too_high : is_open log ≡ false → (given : GivenNight) (b : ℕ) → slice_get s.nights (nights_ended log) ≡ Some given → children_of s.catalog.views.children b ≡ []
      → ¬ (SumFits (table_in (made (nights_ended log)) b) (bag_at given.changes b)) → IsBegun s made log (reply.Refused cause.Large)

-- Each way to answer a Take. A job is drawn where not all Comps are. In a night a worker without a job is refused one only where all Comps are drawn, where a drawn one is not done, or
-- where a row is not put yet that changes in a view whose Inst stands before the next Comp
pub data IsTaken (s : Setup) (made : ℕ → Contents) (log : Log) (worker : ℕ) : Reply → Type 0 where
  draws : (n : ℕ) (given : GivenNight) → worker < s.workers → IsTonight s log given → holding log worker ≡ None → jobs_drawn log < comps given.list → IsTaken s made log worker (reply.Job n)
  no_worker : s.workers ≤ worker → IsTaken s made log worker (reply.Refused cause.NoWorker)
  outside_nights : is_open log ≡ false → IsTaken s made log worker (reply.Refused cause.NoNight)
  has_a_job : (job : ℕ) → holding log worker ≡ Some job → IsTaken s made log worker (reply.Refused cause.Busy)
  all_drawn : (given : GivenNight) → IsTonight s log given → jobs_drawn log ≡ comps given.list → IsTaken s made log worker (reply.Refused cause.NoJob)
  one_undone : is_open log ≡ true → jobs_done log < jobs_drawn log → IsTaken s made log worker (reply.Refused cause.NoJob)
  pages_first : (given : GivenNight) → IsTonight s log given → IsUnpaged s made log given (before_comp (jobs_drawn log) given.list) → IsTaken s made log worker (reply.Refused cause.NoJob)

-- Each way to answer a Commit: it makes the next version, of the open night's changes, unless a Comp is not done, or a changed row not put
pub data IsCommitted (s : Setup) (made : ℕ → Contents) (log : Log) : Reply → Type 0 where
  makes_a_version : (given : GivenNight) → IsTonight s log given → Makes s given (made (nights_ended log)) (made (nights_ended log + 1)) → IsCommitted s made log (reply.Version (nights_ended log + 1))
  nothing_to_commit : is_open log ≡ false → IsCommitted s made log (reply.Refused cause.NoNight)
  comps_left : (given : GivenNight) → IsTonight s log given → jobs_done log < comps given.list → IsCommitted s made log (reply.Refused cause.NotReady)
  pages_left : (given : GivenNight) → IsTonight s log given → IsUnpaged s made log given given.list → IsCommitted s made log (reply.Refused cause.NotReady)

-- each way to answer a GiveUp: an open night can always be given up, which makes the next version too, with the contents of the one before it
pub data IsGivenUp (made : ℕ → Contents) (log : Log) : Reply → Type 0 where
  gives_up : is_open log ≡ true → made (nights_ended log + 1) ≡ made (nights_ended log) → IsGivenUp made log (reply.Version (nights_ended log + 1))
  nothing_to_give_up : is_open log ≡ false → IsGivenUp made log (reply.Refused cause.NoNight)

-- ---- readers

-- each way to answer an Open: no desk that is there and has no session is refused one, or waits for it, and it is of the current version
pub data IsOpened (s : Setup) (log : Log) (desk : ℕ) : Reply → Type 0 where
  gets_a_session : desk < s.desks → session log desk ≡ None → IsOpened s log desk (reply.Session (nights_ended log))
  no_desk : s.desks ≤ desk → IsOpened s log desk (reply.Refused cause.NoDesk)
  has_a_session : (of : SessionOf) → session log desk ≡ Some of → IsOpened s log desk (reply.Refused cause.SessionOpen)

-- Each way to answer a Read: by the rule for readers, in the contents of its session's version, whatever was made since. Rows may want memory
pub data IsRead (s : Setup) (made : ℕ → Contents) (log : Log) (desk view limit : ℕ) : Reply → Type 0 where
  by_the_rule : (of : SessionOf) → desk < s.desks → session log desk ≡ Some of → IsRead s made log desk view limit
      (read_by (λ why. reply.Refused (unread_cause why)) reply.Page s.versions (nights_ended log) (is_open log) (made of.version) of.version view (goes_on view of.bookmark) limit)
  rows_want_memory : (page : Shown) → IsRead s made log desk view limit (reply.Page page) → page.rows ≢ [] → IsRead s made log desk view limit (reply.Refused cause.Memory)
  not_a_desk : s.desks ≤ desk → IsRead s made log desk view limit (reply.Refused cause.NoDesk)
  no_session : desk < s.desks → session log desk ≡ None → IsRead s made log desk view limit (reply.Refused cause.NoSession)

-- ---- the whole

-- Each event has one reply, as asked or a refusal, and each version contents: version 0 the opening ones, and every version up to the current
-- one those of a base, with a table for each view. Left to a legal run is which job is drawn, how many rows a page puts, and when a Done, a PageIn or a Close is refused
pub record ComesTrue (s : Setup) (events : List Event) (replies : List Reply) : Type 0 where
  pub made : ℕ → Contents
  pub each : length replies ≡ length events
  pub opening : made 0 ≡ s.opening
  pub versions : (k : ℕ) → k ≤ nights_ended (log_after [] events replies) → AreContents (graph_of s.catalog) (bag_at (made k)) × AreBags s.catalog (made k)
  pub begins : (place : ℕ) (r : Reply) → IsAnswered events replies place Begin r → IsBegun s made (done_before events replies place) r
  pub takes : (place worker : ℕ) (r : Reply) → IsAnswered events replies place (Take worker) r → IsTaken s made (done_before events replies place) worker r
  pub commits : (place : ℕ) (r : Reply) → IsAnswered events replies place Commit r → IsCommitted s made (done_before events replies place) r
  pub give_ups : (place : ℕ) (r : Reply) → IsAnswered events replies place GiveUp r → IsGivenUp made (done_before events replies place) r
  pub opens : (place desk : ℕ) (r : Reply) → IsAnswered events replies place (Open desk) r → IsOpened s (done_before events replies place) desk r
  pub reads : (place desk view limit : ℕ) (r : Reply) → IsAnswered events replies place (Read desk view limit) r → IsRead s made (done_before events replies place) desk view limit r
  pub dones : (place worker : ℕ) (r : Reply) → IsAnswered events replies place (Done worker) r → IsOrRefused reply.Done r
  pub page_ins : (place : ℕ) (r : Reply) → IsAnswered events replies place PageIn r → (n : ℕ) × IsOrRefused (reply.Paged n) r
  pub closes : (place desk : ℕ) (r : Reply) → IsAnswered events replies place (Close desk) r → IsOrRefused reply.Closed r
  -- the pages that a session has read of a view, up to a last page, are the view's whole table in the session's version
  pub whole : (place desk view : ℕ) (of : SessionOf) (page : Shown) (pages : List Shown) → session (done_before events replies place) desk ≡ Some of
      → pages_read (done_before events replies place) desk view ≡ page ∷ pages → page.last ≡ true
      → flat_map (λ p. p.rows) (reverse (page ∷ pages)) ≡ written (table_in (made of.version) view)

-- so it is of every legal run
abbrev pub RunsComeTrue : Type 0
RunsComeTrue = (s : Setup) (events : List Event) (replies : List Reply) → IsSetup s → IsLegalRun s events replies → ComesTrue s events replies
