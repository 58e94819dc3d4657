-- The reply to an event, looked up in what was done before and in the list published so far; and legal runs.
use Rattle.std.specs.Prelude.{◌≡◌, ◌≢◌, ◌⊎◌, ℕ, ◌+◌, ◌^◌, ◌==◌, List, [], ◌∷◌, length, Option, Some, None, is_some, is_none, option_map, Bool, true, false, not, nat_le, if◌then◌else◌}
use Rattle.wh_dag.specs.Catalog.{CatalogOf}
use Rattle.wh_row.specs.Row.{Row}
use Rattle.wh_maint.specs.declared.fault.MaintFault.{MaintFault}
use Rattle.wh_maint.specs.declared.fault.MaintFault.TheVariants as fault
use Rattle.wh_carry.specs.Refused.{IsBaseFault}
use Rattle.wh_store.specs.Pages.{Shown}
use Rattle.wh_store.specs.Readers.{Is_expired, No_such_limit, No_such_view, Unread, goes_on, read_by}
use Rattle.wh_store.specs.Versions.{Versions, number, is_active, version}
use Rattle.wh_carry.specs.Night.{Night, ArePassedAt, IsFirstFaultOf, places_from, AreAllowed}
use Rattle.wh_carry.specs.Legs.{Turn, In_wave, At_page, Over, after_done, after_page, carried_up_to, is_last, legs_of, turn_of, untouched}
use Rattle.wh_core.specs.declared.event.Event.{Event}
use Rattle.wh_core.specs.declared.event.Event.TheVariants.{Begin, Take, Done, PageIn, Commit, GiveUp, Open, Read, Close}
use Rattle.wh_core.specs.declared.reply.Cause.{Cause}
use Rattle.wh_core.specs.declared.reply.Cause.TheVariants as cause
use Rattle.wh_core.specs.declared.reply.Reply.{Reply}
use Rattle.wh_core.specs.declared.reply.Reply.TheVariants as reply
use Rattle.wh_core.specs.Log.{Log, SessionOf, holding, is_open, logged, nights_begun, session}
use Rattle.wh_core.specs.Nights.{Setup, next_night, night, remaining, turn, versions}

-- How an event is answered: by this reply and no other; by this page, unless memory is refused for its rows; or the event carries out the
-- expressions of a night at these places, in this order, and is answered so where each of them is passed: a job's takes no memory, a page's
-- does, and a Begin tests the night's base changes first
pub data Ruling : Type 0 where
  Says : Reply → Ruling
  Takes : Shown → Ruling
  Carries : Night → List ℕ → Reply → Ruling
  Puts : Night → List ℕ → Reply → Ruling
  Starts : Night → List ℕ → Reply → Ruling

-- refused for this cause where that holds, else ruled so
abbrev pub unless : Bool → Cause → Ruling → Ruling
unless refused why ruling = if refused then Says (reply.Refused why) else ruling

-- ---- readers

-- the cause by which a read is refused for this reason
abbrev pub unread_cause : Unread → Cause
unread_cause (Is_expired of current active) = cause.Expired of current active
unread_cause No_such_view = cause.NoView
unread_cause No_such_limit = cause.Limit

-- a read in this session, if there is one
abbrev pub read_ruling : ℕ → Versions → ℕ → ℕ → Option SessionOf → Ruling
read_ruling kept v view limit None = Says (reply.Refused cause.NoSession)
read_ruling kept v view limit (Some s) = read_by (λ why. Says (reply.Refused (unread_cause why))) Takes kept (number v) (is_active v) (version v s.version) s.version view (goes_on view s.bookmark) limit

-- ---- workers

-- the lowest job of the wave that is not drawn
abbrev pub take_ruling : Turn → Ruling
take_ruling (In_wave place jobs drawn) = unless (nat_le jobs drawn) cause.NoJob (Says (reply.Job drawn))
take_ruling (At_page place view rows) = Says (reply.Refused cause.NoJob)
take_ruling Over = Says (reply.Refused cause.NoJob)

-- the places that a Done carries out: its job's alone, or, where it is the last of its wave, those behind the wave too, up to the next turn
abbrev pub carried_by_done : Night → ℕ → ℕ → ℕ → Bool → Turn → List ℕ
carried_by_done n place jobs job false next = (place + job) ∷ []
carried_by_done n place jobs job true next = (place + job) ∷ places_from (place + jobs) (carried_up_to n next)

abbrev pub done_ruling : Night → Turn → Bool → Turn → ℕ → Ruling
done_ruling n (In_wave place jobs drawn) last next job = Carries n (carried_by_done n place jobs job last next) reply.Done
done_ruling n (At_page place view rows) last next job = Says (reply.Refused cause.Idle)
done_ruling n Over last next job = Says (reply.Refused cause.Idle)

abbrev pub done_by : Night → Turn → Bool → Turn → Option ℕ → Ruling
done_by n now last next None = Says (reply.Refused cause.Idle)
done_by n now last next (Some job) = done_ruling n now last next job

-- ---- the writer

-- the next page, and with it the expressions behind its Inst up to the next turn: none, where that is one more page of the Inst
abbrev pub page_ruling : Night → Turn → Turn → Ruling
page_ruling n (At_page place view rows) next = Puts n (places_from (place + 1) (carried_up_to n next)) (reply.Paged (length rows))
page_ruling n (In_wave place jobs drawn) next = Says (reply.Refused cause.NotReady)
page_ruling n Over next = Says (reply.Refused cause.NotReady)

abbrev pub commit_ruling : ℕ → Turn → Ruling
commit_ruling next Over = Says (reply.Version next)
commit_ruling next (In_wave place jobs drawn) = Says (reply.Refused cause.NotReady)
commit_ruling next (At_page place view rows) = Says (reply.Refused cause.NotReady)

-- ---- events

-- how an event is answered after what was done: by the first refusal that holds, in this order
abbrev pub ruling : Setup → Log → Event → Ruling
ruling s log Begin =
    unless (is_open log) cause.NightOpen
    (unless (nat_le (length s.nights) (nights_begun log)) cause.NoNight
    (unless (number (versions s log) + 1 == 2 ^ 64) cause.LastVersion
    (Starts (next_night s log) (places_from 0 (carried_up_to (next_night s log) (turn_of (untouched (legs_of (next_night s log)))))) reply.Begun)))
ruling s log (Take w) =
    unless (nat_le s.workers w) cause.NoWorker
    (unless (not (is_open log)) cause.NoNight
    (unless (is_some (holding log w)) cause.Busy
    (take_ruling (turn s log))))
ruling s log (Done w) =
    unless (nat_le s.workers w) cause.NoWorker
    (unless (not (is_open log)) cause.NoNight
    (done_by (night s log) (turn s log) (is_last (remaining s log)) (turn_of (after_done (remaining s log))) (holding log w)))
ruling s log PageIn =
    unless (not (is_open log)) cause.NoNight
    (page_ruling (night s log) (turn s log) (turn_of (after_page (remaining s log))))
ruling s log Commit =
    unless (not (is_open log)) cause.NoNight
    (commit_ruling (number (versions s log) + 1) (turn s log))
ruling s log GiveUp =
    unless (not (is_open log)) cause.NoNight
    (Says (reply.Version (number (versions s log) + 1)))
ruling s log (Open d) =
    unless (nat_le s.desks d) cause.NoDesk
    (unless (is_some (session log d)) cause.SessionOpen
    (Says (reply.Session (number (versions s log)))))
ruling s log (Read d view limit) =
    unless (nat_le s.desks d) cause.NoDesk
    (read_ruling s.versions (versions s log) view limit (session log d))
ruling s log (Close d) =
    unless (nat_le s.desks d) cause.NoDesk
    (unless (is_none (session log d)) cause.NoSession
    (Says reply.Closed))

-- the cause that a fault of carrying out is answered by
abbrev pub cause_of : MaintFault → Cause
cause_of (fault.Large v) = cause.Large
cause_of (fault.Range v) = cause.Range
cause_of (fault.Absent v row) = cause.Absent
cause_of fault.Memory = cause.Memory

-- memory was refused
abbrev pub IsMemory : Reply → Type 0
IsMemory r = r ≡ reply.Refused cause.Memory

-- a number of rows leaves its range
abbrev pub IsLarge : MaintFault → Type 0
IsLarge f = (v : ℕ) × (f ≡ fault.Large v)

-- the expressions at these places are all passed and the reply is this one, or it is the first refusal among them
abbrev pub IsCarried : Night → List ℕ → Reply → Reply → Type 0
IsCarried n places said r = (ArePassedAt n places × (r ≡ said)) ⊎ ((f : MaintFault) × IsFirstFaultOf n places f × (r ≡ reply.Refused (cause_of f)))

-- The reply is as it is ruled. A page without rows is shown without memory. A Begin is refused for memory where the base changes are
-- allowed; where one of them is too large, since to find that out may take memory; and in place of the row that one of them lacks, since
-- to answer it takes memory
abbrev pub IsRuled : Ruling → Reply → Type 0
IsRuled (Says said) r = r ≡ said
IsRuled (Takes page) r = (r ≡ reply.Page page) ⊎ ((page.rows ≢ []) × IsMemory r)
IsRuled (Carries n places said) r = IsCarried n places said r
IsRuled (Puts n places said) r = IsCarried n places said r ⊎ IsMemory r
IsRuled (Starts n places said) r =
    (AreAllowed n × (IsCarried n places said r ⊎ IsMemory r))
    ⊎ ((f : MaintFault) × IsBaseFault n.catalog n.tables n.changes f × ((r ≡ reply.Refused (cause_of f)) ⊎ (IsLarge f × IsMemory r)))

abbrev pub IsReply : Setup → Log → Event → Reply → Type 0
IsReply s log event r = IsRuled (ruling s log event) r

-- after what was done, these events may have these replies, one after another
unfoldable pub IsRunFrom : Setup → Log → List Event → List Reply → Type 0
IsRunFrom s log [] [] = Unit {0}
IsRunFrom s log (event ∷ events) (r ∷ replies) = IsReply s log event r × IsRunFrom s (logged log event r) events replies
IsRunFrom s log [] (r ∷ replies) = ⊥
IsRunFrom s log (event ∷ events) [] = ⊥

-- a legal run
abbrev pub IsLegalRun : Setup → List Event → List Reply → Type 0
IsLegalRun s events replies = IsRunFrom s [] events replies

-- what was done in some legal run
pub data IsLegalLog (s : Setup) : Log → Type 0 where
  nothing : IsLegalLog s []
  more : (log : Log) (event : Event) (r : Reply) → IsLegalLog s log → IsReply s log event r → IsLegalLog s (logged log event r)

-- ---- a page without a bookmark

-- the session with its bookmark at this row of the view, or with none
abbrev pub placed_at : ℕ → Option Row → SessionOf → SessionOf
placed_at view after s = record { version = s.version; bookmark = option_map (λ row. record { view = view; row = row }) after }

-- How a page of a view behind this row, or from its beginning, is answered after what was done: as a read would be, if the desk's bookmark
-- stood there. It is no event: nothing is done, and the bookmark is not moved
abbrev pub page_of_view_ruling : Setup → Log → ℕ → ℕ → ℕ → Option Row → Ruling
page_of_view_ruling s log d view limit after =
    unless (nat_le s.desks d) cause.NoDesk
    (read_ruling s.versions (versions s log) view limit (option_map (placed_at view after) (session log d)))

abbrev pub IsPageReply : Setup → Log → ℕ → ℕ → ℕ → Option Row → Reply → Type 0
IsPageReply s log d view limit after r = IsRuled (page_of_view_ruling s log d view limit after) r
