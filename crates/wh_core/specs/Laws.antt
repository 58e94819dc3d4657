-- What holds of every legal run over a catalogue, of nights that are correct and from contents of a base.
use Rattle.std.specs.Prelude.{◌≡◌, ◌⊎◌, ℕ, ◌+◌, ◌<◌, ◌≤◌, ◌==◌, Bool, true, false, ◌&&◌, IsTrue, if◌then◌else◌, List, [], ◌∷◌, ◌++◌, Option, Some, None, length, slice_get, reverse}
use Rattle.std.specs.List.{flat_map}
use Rattle.wh_dag.specs.Shape.{Distinct, has}
use Rattle.wh_dag.specs.Catalog.{CatalogOf, IsCatalog}
use Rattle.wh_strategy.specs.declared.expression.Expression.{Expression}
use Rattle.wh_strategy.specs.declared.expression.Expression.TheVariants.{Comp}
use Rattle.wh_strategy.specs.Expression.{At}
use Rattle.wh_strategy.specs.Rules.{IsCorrect}
use Rattle.wh_row.specs.Bag.{written}
use Rattle.wh_maint.specs.Asked.{AreBags}
use Rattle.wh_maint.specs.Comp.{bag_at}
use Rattle.wh_maint.specs.Contents.{AreContents, AreContentsOf}
use Rattle.wh_maint.specs.Definition.{graph_of}
use Rattle.wh_maint.specs.Laws.{changed}
use Rattle.wh_maint.specs.declared.fault.MaintFault.{MaintFault}
use Rattle.wh_row.specs.Weigh.{Counted}
use Rattle.wh_carry.specs.NightList.{IsBeginning}
use Rattle.wh_carry.specs.Refused.{IsBaseFault}
use Rattle.wh_store.specs.Operations.{Operation}
use Rattle.wh_store.specs.Pages.{Shown}
use Rattle.wh_store.specs.Versions.{is_well_formed, number, table_of, version, versions_of}
use Rattle.wh_carry.specs.Night.{Night, HasEnded, IsFaultAt, IsPassedAt, AreAllowed}
use Rattle.wh_carry.specs.Legs.{Turn, In_wave, At_page, Over}
use Rattle.wh_core.specs.Log.{Deed, Log, Began, Drew, Finished, Paged_in, Committed, Gave_up, Sat_down, Turned, Left, SessionOf, holding, is_open, last_begun, logged, nights_begun, nights_ended, pages, session}
use Rattle.wh_core.specs.Nights.{GivenNight, Setup, next_night, night, night_from, published, turn, versions}
use Rattle.wh_core.specs.declared.event.Event.{Event}
use Rattle.wh_core.specs.declared.event.Event.TheVariants.{Begin, Done, PageIn}
use Rattle.wh_core.specs.declared.reply.Cause.{Cause}
use Rattle.wh_core.specs.declared.reply.Cause.TheVariants as cause
use Rattle.wh_core.specs.declared.reply.Reply.{Reply}
use Rattle.wh_core.specs.declared.reply.Reply.TheVariants as reply
use Rattle.wh_core.specs.Replies.{IsLegalLog, IsMemory, IsReply, IsRunFrom, cause_of}

-- ---- what a machine is given

-- a night of this catalogue: its changes have the views' widths, and its strategy is correct
pub record IsGivenNight (catalog : CatalogOf) (given : GivenNight) : Type 0 where
  pub changes : AreBags catalog given.changes
  pub list : IsCorrect catalog.views.children given.list

-- it fits together: the opening tables are contents of a base, each night is one of the catalogue, there are 1 to 16 desks and 1 to 16
-- workers, a page has 1 to 256 rows, and the current version and the one before it are kept at least, and 4 versions at most
pub record IsSetup (s : Setup) : Type 0 where
  pub catalogue : IsCatalog s.catalog
  pub opening : AreContents (graph_of s.catalog) (bag_at s.opening)
  pub tables : AreBags s.catalog s.opening
  pub nights : (n : ℕ) (given : GivenNight) → slice_get s.nights n ≡ Some given → IsGivenNight s.catalog given
  pub some_desks : 1 ≤ s.desks
  pub few_desks : s.desks ≤ 16
  pub some_workers : 1 ≤ s.workers
  pub few_workers : s.workers ≤ 16
  pub some_keys : 1 ≤ s.keys
  pub few_keys : s.keys ≤ 256
  pub versions : 2 ≤ s.versions
  pub few_versions : s.versions ≤ 4

-- ---- the published list

-- operations that are the first nights, so many of them and in their order, each from the contents that were the newest then
pub data AreNights (s : Setup) : ℕ → List Operation → Type 0 where
  none : AreNights s 0 []
  one_more : (n : ℕ) (ops last : List Operation) → AreNights s n ops → HasEnded (night_from s (versions_of s.opening ops).newest n) last → AreNights s (n + 1) (ops ++ last)

-- the published list of a log: as many nights as have ended, and of an open night a beginning of its list, its Begin and the pages put;
-- each night that began has ended or is open, the open one is the next in order, and no more have begun than were given
pub record IsMadeOfNights (s : Setup) (log : Log) : Type 0 where
  pub ended : List Operation
  pub begun : List Operation
  pub whole : published s log ≡ ended ++ begun
  pub nights : AreNights s (nights_ended log) ended
  pub closed : is_open log ≡ false → begun ≡ []
  pub open_night : is_open log ≡ true → IsBeginning s.catalog (night s log).list (night s log).tables (night s log).changes s.keys begun × (length begun ≡ pages log + 1)
  pub none_open : is_open log ≡ false → nights_begun log ≡ nights_ended log
  pub one_open : is_open log ≡ true → (nights_begun log ≡ nights_ended log + 1) × (last_begun log ≡ nights_ended log)
  pub given : nights_begun log ≤ length s.nights

-- so it is in every legal run
abbrev pub PublishedAreNights : Type 0
PublishedAreNights = (s : Setup) (log : Log) → IsSetup s → IsLegalLog s log → IsMadeOfNights s log

-- each published operation may come where it stands: a night begins where none is open, and what else is done is done in one, each page with
-- 1 to 256 rows of a view, rising and none counted below zero
abbrev pub PublishedAreWellFormed : Type 0
PublishedAreWellFormed = (s : Setup) (log : Log) → IsSetup s → IsLegalLog s log → IsTrue (is_well_formed (length s.opening) (published s log))

-- ---- versions

-- each version is the contents of a base, in tables of the views' widths
abbrev pub VersionsAreContents : Type 0
VersionsAreContents =
    (s : Setup) (log : Log) (k : ℕ) → IsSetup s → IsLegalLog s log → k ≤ number (versions s log)
    → AreContents (graph_of s.catalog) (bag_at (version (versions s log) k)) × AreBags s.catalog (version (versions s log) k)

-- where a night has come to its end, its commit makes the contents of the base with the night's changes
abbrev pub CommitsMakeContents : Type 0
CommitsMakeContents =
    (s : Setup) (log : Log) → IsSetup s → IsLegalLog s log → is_open log ≡ true → turn s log ≡ Over
    → AreContentsOf (graph_of s.catalog) (changed (night s log).tables (night s log).changes) (bag_at (versions s (Committed ∷ log)).newest)

-- ---- jobs

-- the place of the strategy where the job of this number stands, while this is in turn
abbrev pub job_place : Turn → ℕ → ℕ
job_place (In_wave place jobs drawn) job = place + job
job_place (At_page place view rows) job = place
job_place Over job = job

-- the places of the Comps that are drawn in the open night, the latest first
abbrev pub drawn_places : Setup → Log → List ℕ
drawn_places s [] = []
drawn_places s (Began ∷ log) = []
drawn_places s (Committed ∷ log) = []
drawn_places s (Gave_up ∷ log) = []
drawn_places s (Drew w n ∷ log) = job_place (turn s log) n ∷ drawn_places s log
drawn_places s (d ∷ log) = drawn_places s log

abbrev pub held_place : Turn → Option ℕ → List ℕ
held_place t None = []
held_place t (Some job) = job_place t job ∷ []

-- the places of those that are done, the latest first: what a worker has done is what it drew last
abbrev pub done_places : Setup → Log → List ℕ
done_places s [] = []
done_places s (Began ∷ log) = []
done_places s (Committed ∷ log) = []
done_places s (Gave_up ∷ log) = []
done_places s (Finished w ∷ log) = held_place (turn s log) (holding log w) ++ done_places s log
done_places s (d ∷ log) = done_places s log

-- each stands before the one after it in the list, so none stands twice
abbrev pub falls : List ℕ → Type 0
falls [] = Unit {0}
falls (p ∷ ps) = ((q : ℕ) → has ps q ≡ true → q < p) × falls ps

-- a Comp stands at this place of the list
abbrev pub IsCompAt : List Expression → ℕ → Type 0
IsCompAt list place = (v : ℕ) × (ys : List ℕ) × At list place (Comp v ys)

-- the Comps before this place are drawn, and no others: those of the wave in turn up to the last one drawn, and all earlier ones
abbrev pub drawn_up_to : Night → Turn → ℕ
drawn_up_to n (In_wave place jobs drawn) = place + drawn
drawn_up_to n (At_page place view rows) = place
drawn_up_to n Over = length n.list

-- the Comps before this place are done: of the waves that are over
abbrev pub done_up_to : Night → Turn → ℕ
done_up_to n (In_wave place jobs drawn) = place
done_up_to n (At_page place view rows) = place
done_up_to n Over = length n.list

-- In an open night the Comps are drawn in rising order, each once, and none but those that stand before what is in turn; each is done once
-- at most, after it was drawn, and no later stage is in turn before all of a wave are done. Where nothing more is in turn, each Comp is
-- drawn once and done once
pub record AreDrawnOnce (s : Setup) (log : Log) : Type 0 where
  pub rising : falls (drawn_places s log)
  pub comps : (p : ℕ) → has (drawn_places s log) p ≡ true → IsCompAt (night s log).list p × (p < drawn_up_to (night s log) (turn s log))
  pub all_drawn : (p : ℕ) → IsCompAt (night s log).list p → p < drawn_up_to (night s log) (turn s log) → has (drawn_places s log) p ≡ true
  pub once : Distinct (done_places s log)
  pub drawn : (p : ℕ) → has (done_places s log) p ≡ true → has (drawn_places s log) p ≡ true
  pub all_done : (p : ℕ) → IsCompAt (night s log).list p → p < done_up_to (night s log) (turn s log) → has (done_places s log) p ≡ true

abbrev pub JobsAreDrawnOnce : Type 0
JobsAreDrawnOnce = (s : Setup) (log : Log) → IsLegalLog s log → is_open log ≡ true → AreDrawnOnce s log

-- what a worker did last in the open night: it drew a job, or was done with one
abbrev pub latest_of : Log → ℕ → Option Deed
latest_of [] w = None
latest_of (Began ∷ log) w = None
latest_of (Committed ∷ log) w = None
latest_of (Gave_up ∷ log) w = None
latest_of (Drew u n ∷ log) w = if u == w then Some (Drew u n) else latest_of log w
latest_of (Finished u ∷ log) w = if u == w then Some (Finished u) else latest_of log w
latest_of (d ∷ log) w = latest_of log w

-- a worker that is done with a job drew it, and did nothing since
abbrev pub WorkersDoTheirJobs : Type 0
WorkersDoTheirJobs =
    (s : Setup) (log : Log) (w : ℕ) → IsLegalLog s (Finished w ∷ log)
    → (n : ℕ) × (latest_of log w ≡ Some (Drew w n)) × (done_places s (Finished w ∷ log) ≡ job_place (turn s log) n ∷ done_places s log)

-- ---- sessions

-- the pages before this one that it goes on from: none where the last of them was the view's last page
abbrev pub goes_on_from : List Shown → List Shown
goes_on_from [] = []
goes_on_from (page ∷ earlier) = if page.last then [] else page ∷ earlier

-- of one desk: the pages that it has read of a view one after another, the latest first, since it sat down, read another view, or came to
-- the view's last page
abbrev pub pages_read : Log → ℕ → ℕ → List Shown
pages_read [] d v = []
pages_read (Sat_down e s ∷ log) d v = if e == d then [] else pages_read log d v
pages_read (Left e ∷ log) d v = if e == d then [] else pages_read log d v
pages_read (Turned e w page ∷ log) d v =
    if e == d then (if w == v then page ∷ goes_on_from (pages_read log d v) else []) else pages_read log d v
pages_read (x ∷ log) d v = pages_read log d v

-- The version of an open session is there, and the pages that it has read of a view, up to a last page, are the view's whole table in
-- this version
pub record ReadsTable (s : Setup) (log : Log) (of : SessionOf) (v : ℕ) (read : List Shown) : Type 0 where
  pub there : of.version ≤ number (versions s log)
  pub whole : (page : Shown) (pages : List Shown) → read ≡ page ∷ pages → page.last ≡ true
      → flat_map (λ p. p.rows) (reverse read) ≡ written (table_of (versions s log) of.version v)

abbrev pub SessionsReadTables : Type 0
SessionsReadTables =
    (s : Setup) (log : Log) (d v : ℕ) (of : SessionOf) → IsLegalLog s log → session log d ≡ Some of → ReadsTable s log of v (pages_read log d v)

-- ---- replies

-- they are the same, or one of them is the refusal for memory
abbrev pub AreOne : Reply → Reply → Type 0
AreOne r other = (r ≡ other) ⊎ (IsMemory r ⊎ IsMemory other)

-- after what was done an event has one reply, memory aside
abbrev pub RepliesAreOne : Type 0
RepliesAreOne = (s : Setup) (log : Log) (event : Event) (r other : Reply) → IsReply s log event r → IsReply s log event other → AreOne r other

-- ---- refusals for what a night's expressions come to

-- these are the causes: a number of rows too large, a formula without a value, a base change that takes away what is not there
abbrev pub is_of_rows : Cause → Bool
is_of_rows cause.Large = true
is_of_rows cause.Range = true
is_of_rows cause.Absent = true
is_of_rows why = false

-- a place of the list stands before what is in turn: before a wave, up to the Inst whose page it is, or anywhere where nothing more is
abbrev pub IsBefore : Night → Turn → ℕ → Type 0
IsBefore n (In_wave first jobs drawn) place = place < first
IsBefore n (At_page inst view rows) place = place ≤ inst
IsBefore n Over place = place < length n.list

-- the expression at this place is refused so, and those before that one are passed
pub record IsRefusedAfter (n : Night) (earlier place : ℕ) (fault : MaintFault) : Type 0 where
  pub passed : (p : ℕ) → p < earlier → IsPassedAt n p
  pub refused : IsFaultAt n place fault

-- Which event is refused for a fault of carrying out: a Begin for a base change, or, where all of them are allowed, for an expression that
-- stands before the first turn; a Done of a worker with a job for this job, or, as the last of its wave, for an expression behind the wave
-- and before the turn that would come; and the last PageIn of an Inst for an expression behind the Inst and before the turn that would
-- come. No other event is
pub data IsToldInTurn (s : Setup) (log : Log) (fault : MaintFault) : Event → Type 0 where
  of_base : IsBaseFault (next_night s log).catalog (next_night s log).tables (next_night s log).changes fault → IsToldInTurn s log fault Begin
  before_first : (place : ℕ) → AreAllowed (next_night s log) → IsBefore (next_night s log) (turn s (Began ∷ log)) place → IsRefusedAfter (next_night s log) place place fault
      → IsToldInTurn s log fault Begin
  of_job : (worker first jobs drawn job : ℕ) → turn s log ≡ In_wave first jobs drawn → holding log worker ≡ Some job
      → IsRefusedAfter (night s log) first (first + job) fault → IsToldInTurn s log fault (Done worker)
  after_wave : (worker first jobs drawn job place : ℕ) → turn s log ≡ In_wave first jobs drawn → holding log worker ≡ Some job → first + jobs ≤ place
      → IsBefore (night s log) (turn s (Finished worker ∷ log)) place → IsRefusedAfter (night s log) place place fault
      → IsToldInTurn s log fault (Done worker)
  after_inst : (inst view : ℕ) (rows : Counted) (place : ℕ) → turn s log ≡ At_page inst view rows → inst < place
      → IsBefore (night s log) (turn s (Paged_in ∷ log)) place → IsRefusedAfter (night s log) place place fault
      → IsToldInTurn s log fault PageIn

-- so it is of every event of a legal run that is refused for such a cause
abbrev pub RefusalsAreToldInTurn : Type 0
RefusalsAreToldInTurn =
    (s : Setup) (log : Log) (event : Event) (why : Cause) → IsLegalLog s log → IsReply s log event (reply.Refused why) → is_of_rows why ≡ true
    → (fault : MaintFault) × (cause_of fault ≡ why) × IsToldInTurn s log fault event

-- ---- runs

-- what was done after these events and replies
abbrev pub log_after : Log → List Event → List Reply → Log
log_after log (event ∷ events) (r ∷ replies) = log_after (logged log event r) events replies
log_after log [] replies = log
log_after log events [] = log

-- what is done in a run from a legal log on is a legal log again
abbrev pub RunsLeaveLegalLogs : Type 0
RunsLeaveLegalLogs =
    (s : Setup) (log : Log) (events : List Event) (replies : List Reply) → IsLegalLog s log → IsRunFrom s log events replies → IsLegalLog s (log_after log events replies)
