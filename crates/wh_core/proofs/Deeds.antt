-- What an accepted event leaves: a deed, with what was known when it was done.
use Rattle.std.proofs.Common.{◌≡◌, refl, sym, ap, ◌∙◌, subst, ℕ, zero, suc, ◌+◌, ◌<◌, ◌≤◌, List, [], ◌∷◌, length, Bool, true, false, arith, Option, Some, None, ⊎_elim}
use Rattle.std.specs.Prelude.{◌≢◌, ◌^◌, ◌==◌, is_some, is_none, nat_le, nat_lt, not, ◌||◌}
use mathlib.Core.Logic.{◌⊎◌, inl, inr}
use Rattle.wh_store.specs.Pages.{Shown, page_of}
use Rattle.wh_store.specs.Versions.{number, is_active, is_unexpired, version, table_of}
use Rattle.wh_store.specs.Readers.{goes_on}
use Rattle.wh_carry.specs.Night.{Night, ArePassedAt, places_from, AreAllowed}
use Rattle.wh_carry.specs.Legs.{Turn, In_wave, At_page, Over, after_done, after_page, carried_up_to, is_last, legs_of, turn_of, untouched}
use Rattle.wh_row.specs.Weigh.{Counted}
use Rattle.wh_core.specs.declared.event.Event.{Event}
use Rattle.wh_core.specs.declared.event.Event.TheVariants.{Begin, Take, Done, PageIn, Commit, GiveUp, Open, Read, Close}
use Rattle.wh_core.specs.declared.reply.Cause.{Cause}
use Rattle.wh_core.specs.declared.reply.Cause.TheVariants as cause
use Rattle.wh_core.specs.declared.reply.Reply.{Reply}
use Rattle.wh_core.specs.declared.reply.Reply.TheVariants as reply
use Rattle.wh_core.specs.Log.{Deed, Log, Began, Drew, Finished, Paged_in, Committed, Gave_up, Sat_down, Turned, Left, SessionOf, logged, nights_begun, is_open, holding, session}
use Rattle.wh_core.specs.Nights.{Setup, next_night, night, remaining, turn, versions}
use Rattle.wh_core.specs.Replies.{IsCarried, IsLegalLog, IsReply, IsRuled, Ruling, Says, Takes, Puts, Starts, nothing, more, unless, carried_by_done, read_ruling, take_ruling, done_by, done_ruling, page_ruling, commit_ruling, ruling}

-- what was known when a deed was done
abbrev pub IsDeed : Setup → Log → Deed → Type 0
IsDeed s log Began =
    (is_open log ≡ false) × (nights_begun log < length s.nights) × AreAllowed (next_night s log)
    × ArePassedAt (next_night s log) (places_from 0 (carried_up_to (next_night s log) (turn_of (untouched (legs_of (next_night s log))))))
IsDeed s log (Drew w n) = (is_open log ≡ true) × (holding log w ≡ None) × (place : ℕ) × (jobs : ℕ) × (turn s log ≡ In_wave place jobs n) × (n < jobs)
IsDeed s log (Finished w) =
    (is_open log ≡ true) × (job : ℕ) × (holding log w ≡ Some job) × (place : ℕ) × (jobs : ℕ) × (drawn : ℕ) × (turn s log ≡ In_wave place jobs drawn)
    × ArePassedAt (night s log) (carried_by_done (night s log) place jobs job (is_last (remaining s log)) (turn_of (after_done (remaining s log))))
IsDeed s log Paged_in =
    (is_open log ≡ true) × (place : ℕ) × (view : ℕ) × (rows : Counted) × (turn s log ≡ At_page place view rows)
    × ArePassedAt (night s log) (places_from (place + 1) (carried_up_to (night s log) (turn_of (after_page (remaining s log)))))
IsDeed s log Committed = (is_open log ≡ true) × (turn s log ≡ Over)
IsDeed s log Gave_up = is_open log ≡ true
IsDeed s log (Sat_down d v) = (session log d ≡ None) × (v ≡ number (versions s log))
IsDeed s log (Turned d view page) =
    (of : SessionOf) × (session log d ≡ Some of) × (is_unexpired s.versions (number (versions s log)) (is_active (versions s log)) of.version ≡ true) × (limit : ℕ) × (1 ≤ limit)
    × (page ≡ page_of (table_of (versions s log) of.version view) (goes_on view of.bookmark) limit)
IsDeed s log (Left d) = (of : SessionOf) × (session log d ≡ Some of)

-- an event leaves the log as it was, or with one deed more
abbrev pub Leaves : Setup → Log → Log → Type 0
Leaves s log next = (next ≡ log) ⊎ ((d : Deed) × (next ≡ d ∷ log) × IsDeed s log d)

-- a log whose deeds were all done so
pub data AreDeeds (s : Setup) : Log → Type 0 where
  none : AreDeeds s []
  one_more : (log : Log) (d : Deed) → AreDeeds s log → IsDeed s log d → AreDeeds s (d ∷ log)

-- what is not refused was ruled by what comes after the refusal
pub through : (b : Bool) (c : Cause) (rest : Ruling) (r : Reply) → ((other : Cause) → r ≢ reply.Refused other) → IsRuled (unless b c rest) r → (b ≡ false) × IsRuled rest r
through true c rest r accepted h = absurd (accepted c h)
through false c rest r accepted h = (refl, h)

carried : (n : Night) (places : List ℕ) (said r : Reply) → ((other : Cause) → r ≢ reply.Refused other) → IsCarried n places said r → ArePassedAt n places × (r ≡ said)
carried n places said r accepted h = ⊎_elim (λ p. p) (λ f. absurd (accepted _ f.2)) h

put : (n : Night) (places : List ℕ) (said r : Reply) → ((other : Cause) → r ≢ reply.Refused other) → IsRuled (Puts n places said) r → ArePassedAt n places × (r ≡ said)
put n places said r accepted h = ⊎_elim (λ k. carried n places said r accepted k) (λ m. absurd (accepted _ m)) h

started : (n : Night) (places : List ℕ) (said r : Reply) → ((other : Cause) → r ≢ reply.Refused other) → IsRuled (Starts n places said) r → AreAllowed n × ArePassedAt n places
started n places said r accepted h =
    ⊎_elim (λ k. ⊎_elim (λ c. ⊎_elim (λ p. (k.0, p.0)) (λ f. absurd (accepted _ f.2)) c) (λ e. absurd (accepted _ e)) k.1) (λ f. ⊎_elim (λ e. absurd (accepted _ e)) (λ m. absurd (accepted _ m.1)) f.2) h

taken : (page : Shown) (r : Reply) → ((other : Cause) → r ≢ reply.Refused other) → IsRuled (Takes page) r → r ≡ reply.Page page
taken page r accepted h = ⊎_elim (λ e. e) (λ m. absurd (accepted _ m.1)) h

pub not_false : (b : Bool) → not b ≡ false → b ≡ true
not_false true e = refl
not_false false e = sym e

pub not_some : {A : Type 0} (o : Option A) → is_some o ≡ false → o ≡ None
not_some None e = refl
not_some (Some x) e = cc

pub below : (a b : ℕ) → nat_le a b ≡ false → b < a
below a b e = grind arith

begin_leaves : (s : Setup) (log : Log) (r : Reply) → IsReply s log Begin r → Leaves s log (logged log Begin r)
begin_leaves s log reply.Begun h =
    let accepted : (other : Cause) → reply.Begun ≢ reply.Refused other = λ c e. cc in
    let a = through (is_open log) _ _ reply.Begun accepted h in
    let b = through (nat_le (length s.nights) (nights_begun log)) _ _ reply.Begun accepted a.1 in
    let c = through (number (versions s log) + 1 == 2 ^ 64) _ _ reply.Begun accepted b.1 in
    let d = started _ _ _ reply.Begun accepted c.1 in
    inr (Began, refl, (a.0, below _ _ b.0, d.0, d.1))
begin_leaves s log r h = inl refl

take_turn : (t : Turn) (n : ℕ) → IsRuled (take_ruling t) (reply.Job n) → (place : ℕ) × (jobs : ℕ) × (t ≡ In_wave place jobs n) × (n < jobs)
take_turn (In_wave place jobs drawn) n h =
    let accepted : (other : Cause) → reply.Job n ≢ reply.Refused other = λ c e. cc in
    let a = through (nat_le jobs drawn) _ _ (reply.Job n) accepted h in
    let same : n ≡ drawn = cc in
    (place, jobs, ap (In_wave place jobs) (sym same), subst (λ k. k < jobs) (sym same) (below jobs drawn a.0))
take_turn (At_page place view rows) n h = cc
take_turn Over n h = cc

take_leaves : (s : Setup) (log : Log) (w : ℕ) (r : Reply) → IsReply s log (Take w) r → Leaves s log (logged log (Take w) r)
take_leaves s log w (reply.Job n) h =
    let accepted : (other : Cause) → reply.Job n ≢ reply.Refused other = λ c e. cc in
    let a = through (nat_le s.workers w) _ _ (reply.Job n) accepted h in
    let b = through (not (is_open log)) _ _ (reply.Job n) accepted a.1 in
    let c = through (is_some (holding log w)) _ _ (reply.Job n) accepted b.1 in
    let d = take_turn (turn s log) n c.1 in
    inr (Drew w n, refl, (not_false _ b.0, not_some _ c.0, d.0, d.1, d.2, d.3))
take_leaves s log w r h = inl refl

done_turn : (n : Night) (now : Turn) (last : Bool) (next : Turn) (held : Option ℕ) → IsRuled (done_by n now last next held) reply.Done
    → (job : ℕ) × (held ≡ Some job) × (place : ℕ) × (jobs : ℕ) × (drawn : ℕ) × (now ≡ In_wave place jobs drawn) × ArePassedAt n (carried_by_done n place jobs job last next)
done_turn n (In_wave place jobs drawn) last next (Some job) h =
    let a = carried n _ reply.Done reply.Done (λ c e. cc) h in (job, refl, place, jobs, drawn, refl, a.0)
done_turn n (At_page place view rows) last next (Some job) h = cc
done_turn n Over last next (Some job) h = cc
done_turn n now last next None h = cc

done_leaves : (s : Setup) (log : Log) (w : ℕ) (r : Reply) → IsReply s log (Done w) r → Leaves s log (logged log (Done w) r)
done_leaves s log w reply.Done h =
    let accepted : (other : Cause) → reply.Done ≢ reply.Refused other = λ c e. cc in
    let a = through (nat_le s.workers w) _ _ reply.Done accepted h in
    let b = through (not (is_open log)) _ _ reply.Done accepted a.1 in
    let t = done_turn (night s log) (turn s log) _ _ (holding log w) b.1 in
    inr (Finished w, refl, (not_false _ b.0, t.0, t.1, t.2, t.3, t.4, t.5, t.6))
done_leaves s log w r h = inl refl

page_turn : (n : Night) (now next : Turn) (k : ℕ) → IsRuled (page_ruling n now next) (reply.Paged k)
    → (place : ℕ) × (view : ℕ) × (rows : Counted) × (now ≡ At_page place view rows) × ArePassedAt n (places_from (place + 1) (carried_up_to n next))
page_turn n (At_page place view rows) next k h =
    let a = put n _ (reply.Paged (length rows)) (reply.Paged k) (λ c e. cc) h in (place, view, rows, refl, a.0)
page_turn n (In_wave place jobs drawn) next k h = cc
page_turn n Over next k h = cc

page_leaves : (s : Setup) (log : Log) (r : Reply) → IsReply s log PageIn r → Leaves s log (logged log PageIn r)
page_leaves s log (reply.Paged k) h =
    let b = through (not (is_open log)) _ _ (reply.Paged k) (λ c e. cc) h in
    let t = page_turn (night s log) (turn s log) _ k b.1 in
    inr (Paged_in, refl, (not_false _ b.0, t.0, t.1, t.2, t.3, t.4))
page_leaves s log r h = inl refl

commit_turn : (n k : ℕ) (t : Turn) → IsRuled (commit_ruling n t) (reply.Version k) → t ≡ Over
commit_turn n k Over h = refl
commit_turn n k (In_wave place jobs drawn) h = cc
commit_turn n k (At_page place view rows) h = cc

commit_leaves : (s : Setup) (log : Log) (r : Reply) → IsReply s log Commit r → Leaves s log (logged log Commit r)
commit_leaves s log (reply.Version k) h =
    let b = through (not (is_open log)) _ _ (reply.Version k) (λ c e. cc) h in
    inr (Committed, refl, (not_false _ b.0, commit_turn _ k (turn s log) b.1))
commit_leaves s log r h = inl refl

give_up_leaves : (s : Setup) (log : Log) (r : Reply) → IsReply s log GiveUp r → Leaves s log (logged log GiveUp r)
give_up_leaves s log (reply.Version k) h =
    let b = through (not (is_open log)) _ _ (reply.Version k) (λ c e. cc) h in
    inr (Gave_up, refl, not_false _ b.0)
give_up_leaves s log r h = inl refl

open_leaves : (s : Setup) (log : Log) (d : ℕ) (r : Reply) → IsReply s log (Open d) r → Leaves s log (logged log (Open d) r)
open_leaves s log d (reply.Session v) h =
    let accepted : (other : Cause) → reply.Session v ≢ reply.Refused other = λ c e. cc in
    let a = through (nat_le s.desks d) _ _ (reply.Session v) accepted h in
    let b = through (is_some (session log d)) _ _ (reply.Session v) accepted a.1 in
    let same : v ≡ number (versions s log) = cc in
    inr (Sat_down d v, refl, (not_some _ b.0, same))
open_leaves s log d r h = inl refl

read_turn : (s : Setup) (log : Log) (view limit : ℕ) (page : Shown) (o : Option SessionOf) → IsRuled (read_ruling s.versions (versions s log) view limit o) (reply.Page page)
    → (of : SessionOf) × (o ≡ Some of) × (is_unexpired s.versions (number (versions s log)) (is_active (versions s log)) of.version ≡ true) × (k : ℕ) × (1 ≤ k) × (page ≡ page_of (table_of (versions s log) of.version view) (goes_on view of.bookmark) k)
read_turn s log view limit page None h = cc
read_turn s log view limit page (Some of) h =
    let accepted : (other : Cause) → reply.Page page ≢ reply.Refused other = λ c e. cc in
    let a = through (not (is_unexpired s.versions (number (versions s log)) (is_active (versions s log)) of.version)) _ _ (reply.Page page) accepted h in
    let b = through (nat_le (length (version (versions s log) of.version)) view) _ _ (reply.Page page) accepted a.1 in
    let c = through ((limit == 0) || nat_lt 256 limit) _ _ (reply.Page page) accepted b.1 in
    let d = taken _ (reply.Page page) accepted c.1 in
    let same : page ≡ page_of (table_of (versions s log) of.version view) (goes_on view of.bookmark) limit = cc in
    (of, refl, not_false _ a.0, limit, some_limit limit c.0, same)
  where
    some_limit : (k : ℕ) → ((k == 0) || nat_lt 256 k) ≡ false → 1 ≤ k
    some_limit zero e = cc
    some_limit (suc k) e = omega arith

read_leaves : (s : Setup) (log : Log) (d view limit : ℕ) (r : Reply) → IsReply s log (Read d view limit) r → Leaves s log (logged log (Read d view limit) r)
read_leaves s log d view limit (reply.Page page) h =
    let a = through (nat_le s.desks d) _ _ (reply.Page page) (λ c e. cc) h in
    inr (Turned d view page, refl, read_turn s log view limit page (session log d) a.1)
read_leaves s log d view limit r h = inl refl

close_leaves : (s : Setup) (log : Log) (d : ℕ) (r : Reply) → IsReply s log (Close d) r → Leaves s log (logged log (Close d) r)
close_leaves s log d reply.Closed h =
    let accepted : (other : Cause) → reply.Closed ≢ reply.Refused other = λ c e. cc in
    let a = through (nat_le s.desks d) _ _ reply.Closed accepted h in
    let b = through (is_none (session log d)) _ _ reply.Closed accepted a.1 in
    inr (Left d, refl, some (session log d) b.0)
  where
    some : (o : Option SessionOf) → is_none o ≡ false → (of : SessionOf) × (o ≡ Some of)
    some None e = cc
    some (Some of) e = (of, refl)
close_leaves s log d r h = inl refl

pub leaves : (s : Setup) (log : Log) (event : Event) (r : Reply) → IsReply s log event r → Leaves s log (logged log event r)
leaves s log Begin r h = begin_leaves s log r h
leaves s log (Take w) r h = take_leaves s log w r h
leaves s log (Done w) r h = done_leaves s log w r h
leaves s log PageIn r h = page_leaves s log r h
leaves s log Commit r h = commit_leaves s log r h
leaves s log GiveUp r h = give_up_leaves s log r h
leaves s log (Open d) r h = open_leaves s log d r h
leaves s log (Read d view limit) r h = read_leaves s log d view limit r h
leaves s log (Close d) r h = close_leaves s log d r h

-- so the log of a legal run is made of such deeds
pub deeds_of : (s : Setup) (log : Log) → IsLegalLog s log → AreDeeds s log
deeds_of s _ nothing = none
deeds_of s _ (more log event r before h) =
    ⊎_elim (λ e. subst (AreDeeds s) (sym e) (deeds_of s log before))
    (λ d. subst (AreDeeds s) (sym d.1) (one_more log d.0 (deeds_of s log before) d.2)) (leaves s log event r h)
