-- What a legal run comes to.
use Rattle.std.proofs.Common.{◌≡◌, ◌≢◌, refl, sym, ap, ◌∙◌, subst, ℕ, zero, suc, ◌+◌, ◌-◌, ◌<◌, ◌≤◌, ◌^◌, List, [], ◌∷◌, ◌++◌, length, Bool, true, false, not, arith, Option, Some, None, ◌⊎◌, ⊎_elim, inl, inr}
use Rattle.std.specs.Prelude.{◌==◌, ◌&&◌, ◌||◌, if◌then◌else◌, is_none, is_some, nat_le, nat_lt, reverse, slice_get, slice_index_or, take}
use Rattle.std.specs.List.{All, flat_map}
use Rattle.std.proofs.lemmas.List.{append_assoc}
use Rattle.wh_row.specs.Bag.{Bag, written}
use Rattle.wh_row.specs.Weigh.{Counted}
use Rattle.wh_dag.specs.Catalog.{is_base, is_empty}
use Rattle.wh_dag.specs.Shape.{children_of}
use Rattle.wh_strategy.specs.Rules.{IsCorrect}
use Rattle.wh_maint.specs.Asked.{AreBags}
use Rattle.wh_maint.specs.Comp.{bag_at}
use Rattle.wh_maint.specs.Contents.{AreContents, AreContentsOf}
use Rattle.wh_maint.specs.Definition.{graph_of}
use Rattle.wh_maint.specs.Laws.{changed}
use Rattle.wh_maint.specs.View.{ViewGraph}
use Rattle.wh_store.specs.Laws.{PagesJoin, VersionsStay}
use Rattle.wh_store.specs.Operations.{Opens, Commits, Gives_up}
use Rattle.wh_store.specs.Pages.{Contents, Shown, page_of}
use Rattle.wh_store.specs.Versions.{Versions, is_active, is_unexpired, kept_count, number, opened, table_in, version, versions_from}
use Rattle.wh_store.specs.Readers.{goes_on, read_by}
use Rattle.wh_maint.specs.declared.fault.MaintFault.{MaintFault}
use Rattle.wh_maint.specs.declared.fault.MaintFault.TheVariants as fault
use Rattle.wh_carry.specs.Carry.{at_first}
use Rattle.wh_carry.specs.Night.{Night, ArePassedAt, IsFirstFaultOf, IsPassedAt, places_from}
use Rattle.wh_carry.specs.Refused.{IsAnswer, IsBaseFault, IsOfBaseBelow, IsRuledOut, Reason, RowIsLacking, BaseIsLarge, ChangeIsLarge, ChangeHasNoValue, CompIsLarge, CompMeetsNoValue, PendingIsLarge, TableIsLarge}
use Rattle.wh_carry.specs.Legs.{Turn, In_wave, At_page, Over, carried_up_to, legs_of, turn_of, untouched}
use Rattle.wh_core.specs.declared.event.Event.{Event}
use Rattle.wh_core.specs.declared.event.Event.TheVariants.{Begin, Take, Done, PageIn, Commit, GiveUp, Open, Read, Close}
use Rattle.wh_core.specs.declared.reply.Cause.{Cause}
use Rattle.wh_core.specs.declared.reply.Cause.TheVariants as cause
use Rattle.wh_core.specs.declared.reply.Reply.{Reply}
use Rattle.wh_core.specs.declared.reply.Reply.TheVariants as reply
use Rattle.wh_core.specs.Headline.{ComesTrue, IsAnswered, IsBegun, IsCommitted, IsGivenUp, IsOpened, IsOrRefused, IsRead, IsTaken, IsTonight, IsUnpaged, Makes, RunsComeTrue, before_comp, comps, done_before, jobs_done, jobs_drawn, pages_for}
use Rattle.wh_core.specs.Headline.{has_begun, in_a_night, no_night_left, wants_memory, last_version, lacks_a_row, counts_too_high}
use Rattle.wh_core.specs.Headline.{draws, no_worker, outside_nights, has_a_job, all_drawn, one_undone, pages_first}
use Rattle.wh_core.specs.Headline.{makes_a_version, nothing_to_commit, comps_left, pages_left, gives_up, nothing_to_give_up}
use Rattle.wh_core.specs.Headline.{gets_a_session, no_desk, has_a_session, by_the_rule, rows_want_memory, not_a_desk, no_session}
use Rattle.wh_core.specs.Laws.{IsGivenNight, IsSetup, log_after}
use Rattle.wh_core.specs.Log.{Log, Began, Drew, Finished, Paged_in, Committed, Gave_up, Sat_down, Turned, Left, SessionOf, holding, is_open, last_begun, logged, nights_begun, nights_ended, pages, session}
use Rattle.wh_core.specs.Nights.{GivenNight, Setup, next_night, night, night_from, page_in_turn, published, turn, versions}
use Rattle.wh_core.specs.Replies.{IsCarried, IsLegalLog, IsLegalRun, IsMemory, IsReply, IsRuled, IsRunFrom, Ruling, Says, Takes, Carries, Puts, Starts, cause_of, commit_ruling, done_by, more, nothing, page_ruling, read_ruling, ruling, take_ruling, unless, unread_cause}
use Rattle.wh_core.proofs.Deeds.{below, deeds_of, leaves, not_false, not_some, through}
use Rattle.wh_core.proofs.Moves.{active-open, eq_true}
use Rattle.wh_core.proofs.Runs.{leave_legal}
use Rattle.wh_core.proofs.Sessions.{read_tables, version_stays}
use Rattle.wh_core.proofs.Sound.{commits_make_contents, given_at, newest_sound, number-newest, sound, versions_are_contents}
use Rattle.wh_core.proofs.Counts.{AreDifferences}
use Rattle.wh_core.proofs.Differences.{are_differences}
use Rattle.wh_core.proofs.FirstTurn.{first_passed}
use Rattle.wh_core.proofs.Progress.{all_are_drawn, comps_are_left, comps_are_undrawn, one_is_undone, pages_before_comp, pages_in_all}
use Rattle.wh_core.proofs.Nights.{in_order, last_is}
use Rattle.wh_core.proofs.Underway.{all-head, all-tail, versions_from-append}

-- ---- what was done only grows

-- a version that is there stays as it is, whatever is done then
pub stays_later : VersionsStay → (s : Setup) (after log : Log) (k : ℕ) → k ≤ number (versions s log) → (k ≤ number (versions s (after ++ log))) × (version (versions s (after ++ log)) k ≡ version (versions s log) k)
stays_later stay s [] log k l = (l, refl)
stays_later stay s (d ∷ after) log k l =
    let sooner = stays_later stay s after log k l in
    let now = version_stays stay s d (after ++ log) k sooner.0 in
    (now.0, now.1 ∙ sooner.1)

-- ---- a run, cut at a place

abbrev cut_at : Log → List Event → List Reply → ℕ → Log
cut_at log events replies i = log_after log (take i events) (take i replies)

legal_before : (s : Setup) (log : Log) (events : List Event) (replies : List Reply) → IsLegalLog s log → IsRunFrom s log events replies → (i : ℕ) → IsLegalLog s (cut_at log events replies i)
unfolding IsRunFrom
legal_before s log events replies legal run zero = legal
legal_before s log [] [] legal run (suc i) = legal
legal_before s log (event ∷ events) (r ∷ replies) legal run (suc i) = legal_before s (logged log event r) events replies (more log event r legal run.0) run.1 i
legal_before s log [] (r ∷ replies) legal run (suc i) = absurd run
legal_before s log (event ∷ events) [] legal run (suc i) = absurd run

as_many : (s : Setup) (log : Log) (events : List Event) (replies : List Reply) → IsRunFrom s log events replies → length replies ≡ length events
unfolding IsRunFrom
as_many s log [] [] run = refl
as_many s log (event ∷ events) (r ∷ replies) run = ap suc (as_many s (logged log event r) events replies run.1)
as_many s log [] (r ∷ replies) run = absurd run
as_many s log (event ∷ events) [] run = absurd run

-- the event at a place has its reply
record IsStep (s : Setup) (log : Log) (events : List Event) (replies : List Reply) (i : ℕ) (event : Event) (r : Reply) : Type 0 where
  ruled : IsReply s (cut_at log events replies i) event r
  next : cut_at log events replies (suc i) ≡ logged (cut_at log events replies i) event r

step_at : (s : Setup) (log : Log) (events : List Event) (replies : List Reply) → IsRunFrom s log events replies → (i : ℕ) (event : Event) (r : Reply)
    → slice_get events i ≡ Some event → slice_get replies i ≡ Some r → IsStep s log events replies i event r
unfolding IsRunFrom
step_at s log [] replies run i event r there said = cc
step_at s log (e ∷ events) [] run i event r there said = absurd run
step_at s log (e ∷ events) (q ∷ replies) run zero event r there said =
    let a : e ≡ event = cc in
    let b : q ≡ r = cc in
    record { ruled = subst (λ x. IsReply s log x r) a (subst (IsReply s log e) b run.0); next = λ i. logged log (a i) (b i) }
step_at s log (e ∷ events) (q ∷ replies) run (suc i) event r there said =
    let later = step_at s (logged log e q) events replies run.1 i event r there said in
    record { ruled = later.ruled; next = later.next }

later_than : (s : Setup) (log : Log) (events : List Event) (replies : List Reply) → IsRunFrom s log events replies → (later : Log) × (log_after log events replies ≡ later ++ log)
unfolding IsRunFrom
later_than s log [] [] run = ([], refl)
later_than s log (event ∷ events) (r ∷ replies) run =
    let rest = later_than s (logged log event r) events replies run.1 in
    ⊎_elim
    (λ same. (rest.0, rest.1 ∙ ap (λ l. rest.0 ++ l) same))
    (λ done. (rest.0 ++ done.0 ∷ [], rest.1 ∙ ap (λ l. rest.0 ++ l) done.1 ∙ sym (append_assoc rest.0 (done.0 ∷ []) log)))
    (leaves s log event r run.0)
later_than s log [] (r ∷ replies) run = absurd run
later_than s log (event ∷ events) [] run = absurd run

later_at : (s : Setup) (log : Log) (events : List Event) (replies : List Reply) → IsRunFrom s log events replies → (i : ℕ)
    → (later : Log) × (log_after log events replies ≡ later ++ cut_at log events replies i)
unfolding IsRunFrom
later_at s log events replies run zero = later_than s log events replies run
later_at s log [] [] run (suc i) = ([], refl)
later_at s log (event ∷ events) (r ∷ replies) run (suc i) = later_at s (logged log event r) events replies run.1 i
later_at s log [] (r ∷ replies) run (suc i) = absurd run
later_at s log (event ∷ events) [] run (suc i) = absurd run

-- ---- nights

number_paged : (v : Versions) (t : Turn) → number (versions_from v (page_in_turn t)) ≡ number v
number_paged v (In_wave place jobs drawn) = refl
number_paged v (At_page place view rows) = refl
number_paged v Over = refl

-- each night that ended made a version
pub ended_is : (s : Setup) (log : Log) → nights_ended log ≡ number (versions s log)
unfolding published
ended_is s [] = refl
ended_is s (Began ∷ log) = ended_is s log ∙ sym (ap number (versions_from-append (opened s.opening) (published s log) (Opens ∷ [])))
ended_is s (Committed ∷ log) =
    let one : suc (number (versions s log)) ≡ number (versions s log) + 1 = omega arith in
    ap (λ k. k + 1) (ended_is s log) ∙ sym (ap number (versions_from-append (opened s.opening) (published s log) (Commits ∷ [])) ∙ one)
ended_is s (Gave_up ∷ log) =
    let one : suc (number (versions s log)) ≡ number (versions s log) + 1 = omega arith in
    ap (λ k. k + 1) (ended_is s log) ∙ sym (ap number (versions_from-append (opened s.opening) (published s log) (Gives_up ∷ [])) ∙ one)
ended_is s (Paged_in ∷ log) =
    ended_is s log ∙ sym (ap number (versions_from-append (opened s.opening) (published s log) (page_in_turn (turn s log))) ∙ number_paged (versions s log) (turn s log))
ended_is s (Drew w n ∷ log) = ended_is s log
ended_is s (Finished w ∷ log) = ended_is s log
ended_is s (Sat_down d v ∷ log) = ended_is s log
ended_is s (Turned d v page ∷ log) = ended_is s log
ended_is s (Left d ∷ log) = ended_is s log

-- ---- rulings

-- what is not refused for a reason is ruled by what comes after it
skip : (b : Bool) (c : Cause) (rest : Ruling) (r : Reply) → b ≡ false → IsRuled (unless b c rest) r → IsRuled rest r
skip b c rest r e h = subst (λ b. IsRuled (unless b c rest) r) e h

commit_so : (next k : ℕ) (t : Turn) → IsRuled (commit_ruling next t) (reply.Version k) → (t ≡ Over) × (k ≡ next)
commit_so next k Over h = (refl, (let e : k ≡ next = cc in e))
commit_so next k (In_wave place jobs drawn) h = cc
commit_so next k (At_page place view rows) h = cc

said_version : (next k : ℕ) → IsRuled (Says (reply.Version next)) (reply.Version k) → k ≡ next
said_version next k h = cc

taken_page : (next page : Shown) → IsRuled (Takes next) (reply.Page page) → page ≡ next
taken_page next page h = ⊎_elim (λ e. (let same : page ≡ next = cc in same)) (λ m. let e = m.1 in cc) h

both_true : (a b : Bool) → (a && b) ≡ true → (a ≡ true) × (b ≡ true)
both_true true b e = (refl, e)
both_true false b e = cc

le_of : (a b : ℕ) → nat_le a b ≡ true → a ≤ b
le_of a b e = grind arith

-- a version that can be read was made
made_then : (n current : ℕ) (active : Bool) (k : ℕ) → is_unexpired n current active k ≡ true → k ≤ current
made_then n current active k e = le_of k current (both_true (nat_le k current) (nat_lt current (k + kept_count n active)) e).0

-- what is refused for a reason is refused so, or ruled by what comes after it
decide : (b : Bool) (c : Cause) (rest : Ruling) (r : Reply) → IsRuled (unless b c rest) r → ((b ≡ true) × (r ≡ reply.Refused c)) ⊎ ((b ≡ false) × IsRuled rest r)
decide true c rest r h = inl (refl, h)
decide false c rest r h = inr (refl, h)

not_true : (b : Bool) → not b ≡ true → b ≡ false
not_true true e = sym e
not_true false e = refl

some_of : {A : Type 0} (o : Option A) → is_some o ≡ true → (x : A) × (o ≡ Some x)
some_of None e = cc
some_of (Some x) e = (x, refl)

no_base : (us : List ℕ) → is_empty us ≡ true → us ≡ []
no_base [] e = refl
no_base (u ∷ us) e = cc

-- one of these places
at_split : (P : ℕ → Type 0) (earlier : List ℕ) (x : ℕ) (later : List ℕ) → All P (earlier ++ x ∷ later) → P x
at_split P [] x later all = all-head P x later all
at_split P (y ∷ earlier) x later all = at_split P earlier x later (all-tail P y (earlier ++ x ∷ later) all)

-- where all places are passed, none is refused
none_refused : (n : Night) (places : List ℕ) (f : MaintFault) → ArePassedAt n places → IsFirstFaultOf n places f → ⊥
none_refused n places f passed first =
    let here : IsPassedAt n first.place = at_split (IsPassedAt n) first.earlier first.place first.later (subst (All (IsPassedAt n)) first.split passed) in
    first.refused.refused.first.stands (here first.refused.expression first.refused.there first.refused.refused.reason first.refused.refused.first.asked)

-- what the rule for readers says of a read, in these contents
abbrev told : ℕ → ℕ → Bool → Contents → SessionOf → ℕ → ℕ → Reply
told kept current active contents of view limit = read_by (λ why. reply.Refused (unread_cause why)) reply.Page kept current active contents of.version view (goes_on view of.bookmark) limit

-- so it says where the version can be read
abbrev told_there : SessionOf → ℕ → ℕ → Contents → Reply
told_there of view limit contents =
    if nat_le (length contents) view then reply.Refused cause.NoView
    else if (limit == 0) || nat_lt 256 limit then reply.Refused cause.Limit
    else reply.Page (page_of (table_in contents view) (goes_on view of.bookmark) limit)

-- contents matter only there
same_told : (unexpired : Bool) (late one other : Reply) → (unexpired ≡ true → one ≡ other) → (if not unexpired then late else one) ≡ (if not unexpired then late else other)
same_told true late one other same = same refl
same_told false late one other same = refl

-- the first of these refusals, or else the page
abbrev first_of : Bool → Bool → Bool → Cause → Cause → Cause → Shown → Reply
first_of late missing outside a b c page = if late then reply.Refused a else if missing then reply.Refused b else if outside then reply.Refused c else reply.Page page

-- what is ruled so is answered so, unless memory is refused for the rows of the page
ruled_by : (late missing outside : Bool) (a b c : Cause) (page : Shown) (r : Reply)
    → IsRuled (if late then Says (reply.Refused a) else if missing then Says (reply.Refused b) else if outside then Says (reply.Refused c) else Takes page) r
    → (r ≡ first_of late missing outside a b c page) ⊎ ((first_of late missing outside a b c page ≡ reply.Page page) × (page.rows ≢ []) × IsMemory r)
ruled_by true missing outside a b c page r h = inl h
ruled_by false true outside a b c page r h = inl h
ruled_by false false true a b c page r h = inl h
ruled_by false false false a b c page r h = ⊎_elim inl (λ m. inr (refl, m.0, m.1)) h

-- night n, from 0, carries version n over to version n + 1
abbrev CarriesOver : Setup → (ℕ → Contents) → ℕ → Type 0
CarriesOver s made n = (given : GivenNight) × (slice_get s.nights n ≡ Some given) × Makes s given (made n) (made (n + 1))

-- a refusal has this, and so has what a ruling says
abbrev AllSay : (Reply → Type 0) → Ruling → Type 0
AllSay P (Says said) = P said
AllSay P (Takes page) = P (reply.Page page)
AllSay P (Carries n places said) = P said
AllSay P (Puts n places said) = P said
AllSay P (Starts n places said) = P said

module _ (P : Reply → Type 0) (refused : (c : Cause) → P (reply.Refused c)) where
  carried_say : (n : Night) (places : List ℕ) (said r : Reply) → P said → IsCarried n places said r ⊎ IsMemory r → P r
  carried_say n places said r p h =
      ⊎_elim
      (λ c. ⊎_elim (λ d. subst P (sym d.1) p) (λ f. subst P (sym f.2) (refused (cause_of f.0))) c)
      (λ m. subst P (sym m) (refused cause.Memory))
      h

  ruled_say : (ruling : Ruling) (r : Reply) → AllSay P ruling → IsRuled ruling r → P r
  ruled_say (Says said) r p h = subst P (sym h) p
  ruled_say (Takes page) r p h = ⊎_elim (λ e. subst P (sym e) p) (λ m. subst P (sym m.1) (refused cause.Memory)) h
  ruled_say (Carries n places said) r p h = carried_say n places said r p (inl h)
  ruled_say (Puts n places said) r p h = carried_say n places said r p h
  ruled_say (Starts n places said) r p h =
      ⊎_elim
      (λ k. carried_say n places said r p k.1)
      (λ f. ⊎_elim (λ e. subst P (sym e) (refused (cause_of f.0))) (λ m. subst P (sym m.1) (refused cause.Memory)) f.2)
      h

  unless_say : (b : Bool) (c : Cause) (rest : Ruling) → AllSay P rest → AllSay P (unless b c rest)
  unless_say true c rest p = refused c
  unless_say false c rest p = p

-- the reply is a refusal, or one that answers such an event
abbrev is_reply_to : Event → Reply → Bool
is_reply_to event (reply.Refused why) = true
is_reply_to Begin reply.Begun = true
is_reply_to (Take worker) (reply.Job n) = true
is_reply_to (Done worker) reply.Done = true
is_reply_to PageIn (reply.Paged n) = true
is_reply_to Commit (reply.Version v) = true
is_reply_to GiveUp (reply.Version v) = true
is_reply_to (Open desk) (reply.Session v) = true
is_reply_to (Read desk view limit) (reply.Page page) = true
is_reply_to (Close desk) reply.Closed = true
is_reply_to event r = false

-- what an event is ruled to be answered is its own reply, or a refusal
abbrev Owns : Event → Reply → Type 0
Owns event r = is_reply_to event r ≡ true

take_own : (w : ℕ) (t : Turn) → AllSay (Owns (Take w)) (take_ruling t)
take_own w (In_wave place jobs drawn) = unless_say (Owns (Take w)) (λ c. refl) (nat_le jobs drawn) cause.NoJob _ refl
take_own w (At_page place view rows) = refl
take_own w Over = refl

done_own : (w : ℕ) (n : Night) (now : Turn) (last : Bool) (next : Turn) (held : Option ℕ) → AllSay (Owns (Done w)) (done_by n now last next held)
done_own w n now last next None = refl
done_own w n (In_wave place jobs drawn) last next (Some job) = refl
done_own w n (At_page place view rows) last next (Some job) = refl
done_own w n Over last next (Some job) = refl

page_own : (n : Night) (now next : Turn) → AllSay (Owns PageIn) (page_ruling n now next)
page_own n (In_wave place jobs drawn) next = refl
page_own n (At_page place view rows) next = refl
page_own n Over next = refl

commit_own : (next : ℕ) (t : Turn) → AllSay (Owns Commit) (commit_ruling next t)
commit_own next (In_wave place jobs drawn) = refl
commit_own next (At_page place view rows) = refl
commit_own next Over = refl

read_own : (d view limit kept : ℕ) (v : Versions) (o : Option SessionOf) → AllSay (Owns (Read d view limit)) (read_ruling kept v view limit o)
read_own d view limit kept v None = refl
read_own d view limit kept v (Some of) =
    let P : Reply → Type 0 = Owns (Read d view limit) in
    unless_say P (λ c. refl) (not (is_unexpired kept (number v) (is_active v) of.version)) _ _
    (unless_say P (λ c. refl) (nat_le (length (version v of.version)) view) _ _
    (unless_say P (λ c. refl) ((limit == 0) || nat_lt 256 limit) _ _ refl))

rulings_own : (s : Setup) (log : Log) (event : Event) → AllSay (Owns event) (ruling s log event)
rulings_own s log Begin =
    unless_say (Owns Begin) (λ c. refl) (is_open log) _ _
    (unless_say (Owns Begin) (λ c. refl) (nat_le (length s.nights) (nights_begun log)) _ _
    (unless_say (Owns Begin) (λ c. refl) (number (versions s log) + 1 == 2 ^ 64) _ _ refl))
rulings_own s log (Take w) =
    unless_say (Owns (Take w)) (λ c. refl) (nat_le s.workers w) _ _
    (unless_say (Owns (Take w)) (λ c. refl) (not (is_open log)) _ _
    (unless_say (Owns (Take w)) (λ c. refl) (is_some (holding log w)) _ _ (take_own w (turn s log))))
rulings_own s log (Done w) =
    unless_say (Owns (Done w)) (λ c. refl) (nat_le s.workers w) _ _
    (unless_say (Owns (Done w)) (λ c. refl) (not (is_open log)) _ _ (done_own w (night s log) (turn s log) _ _ (holding log w)))
rulings_own s log PageIn = unless_say (Owns PageIn) (λ c. refl) (not (is_open log)) _ _ (page_own (night s log) (turn s log) _)
rulings_own s log Commit = unless_say (Owns Commit) (λ c. refl) (not (is_open log)) _ _ (commit_own (number (versions s log) + 1) (turn s log))
rulings_own s log GiveUp = unless_say (Owns GiveUp) (λ c. refl) (not (is_open log)) _ _ refl
rulings_own s log (Open d) =
    unless_say (Owns (Open d)) (λ c. refl) (nat_le s.desks d) _ _
    (unless_say (Owns (Open d)) (λ c. refl) (is_some (session log d)) _ _ refl)
rulings_own s log (Read d view limit) =
    unless_say (Owns (Read d view limit)) (λ c. refl) (nat_le s.desks d) _ _ (read_own d view limit s.versions (versions s log) (session log d))
rulings_own s log (Close d) =
    unless_say (Owns (Close d)) (λ c. refl) (nat_le s.desks d) _ _
    (unless_say (Owns (Close d)) (λ c. refl) (is_none (session log d)) _ _ refl)

refused_own : (event : Event) (c : Cause) → Owns event (reply.Refused c)
refused_own Begin c = refl
refused_own (Take w) c = refl
refused_own (Done w) c = refl
refused_own PageIn c = refl
refused_own Commit c = refl
refused_own GiveUp c = refl
refused_own (Open d) c = refl
refused_own (Read d view limit) c = refl
refused_own (Close d) c = refl

own_reply : (s : Setup) (log : Log) (event : Event) (r : Reply) → IsReply s log event r → is_reply_to event r ≡ true
own_reply s log event r h = ruled_say (Owns event) (refused_own event) (ruling s log event) r (rulings_own s log event) h

done_or : (w : ℕ) (r : Reply) → is_reply_to (Done w) r ≡ true → IsOrRefused reply.Done r
done_or w (reply.Refused why) e = inr (why, refl)
done_or w reply.Done e = inl refl
done_or w reply.Begun e = cc
done_or w (reply.Job n) e = cc
done_or w (reply.Paged n) e = cc
done_or w (reply.Version v) e = cc
done_or w (reply.Session v) e = cc
done_or w (reply.Page page) e = cc
done_or w reply.Closed e = cc

paged_or : (r : Reply) → is_reply_to PageIn r ≡ true → (n : ℕ) × IsOrRefused (reply.Paged n) r
paged_or (reply.Refused why) e = (0, inr (why, refl))
paged_or (reply.Paged n) e = (n, inl refl)
paged_or reply.Done e = cc
paged_or reply.Begun e = cc
paged_or (reply.Job n) e = cc
paged_or (reply.Version v) e = cc
paged_or (reply.Session v) e = cc
paged_or (reply.Page page) e = cc
paged_or reply.Closed e = cc

closed_or : (d : ℕ) (r : Reply) → is_reply_to (Close d) r ≡ true → IsOrRefused reply.Closed r
closed_or d (reply.Refused why) e = inr (why, refl)
closed_or d reply.Closed e = inl refl
closed_or d reply.Done e = cc
closed_or d reply.Begun e = cc
closed_or d (reply.Job n) e = cc
closed_or d (reply.Paged n) e = cc
closed_or d (reply.Version v) e = cc
closed_or d (reply.Session v) e = cc
closed_or d (reply.Page page) e = cc

-- ---- a legal run

contents_moved : (g : ViewGraph) (a b : Contents) (c d : List Bag) (x y : Contents) → a ≡ b → c ≡ d → x ≡ y
    → AreContentsOf g (changed (bag_at a) (bag_at c)) (bag_at x) → AreContentsOf g (changed (bag_at b) (bag_at d)) (bag_at y)
contents_moved g a b c d x y p q r are =
    subst (λ m. AreContentsOf g (changed (bag_at m) (bag_at d)) (bag_at y)) p
    (subst (λ m. AreContentsOf g (changed (bag_at a) (bag_at m)) (bag_at y)) q
    (subst (λ m. AreContentsOf g (changed (bag_at a) (bag_at c)) (bag_at m)) r are))

module _ (join : PagesJoin) (stay : VersionsStay) (s : Setup) (events : List Event) (replies : List Reply) (is : IsSetup s) (run : IsLegalRun s events replies) where
  abbrev at : ℕ → Log
  at i = done_before events replies i

  abbrev end : Log
  end = log_after [] events replies

  abbrev made : ℕ → Contents
  made k = version (versions s end) k

  legal : (i : ℕ) → IsLegalLog s (at i)
  legal i = legal_before s [] events replies nothing run i

  made_is : (i k : ℕ) → k ≤ number (versions s (at i)) → made k ≡ version (versions s (at i)) k
  made_is i k l =
      let later = later_at s [] events replies run i in
      ap (λ log. version (versions s log) k) later.1 ∙ (stays_later stay s later.0 (at i) k l).1

  newest_made : (i : ℕ) → made (nights_ended (at i)) ≡ (versions s (at i)).newest
  newest_made i = ap (λ k. version (versions s end) k) (ended_is s (at i)) ∙ made_is i (number (versions s (at i))) (omega arith) ∙ number-newest (versions s (at i))

  readable_version : (i k : ℕ) → k ≤ nights_ended (at i) → version (versions s (at i)) k ≡ made k
  readable_version i k l = sym (made_is i k (subst (λ n. k ≤ n) (ended_is s (at i)) l))

  opening_made : made 0 ≡ s.opening
  unfolding published
  opening_made = made_is 0 0 (omega arith)

  versions_made : (k : ℕ) → k ≤ nights_ended end → AreContents (graph_of s.catalog) (bag_at (made k)) × AreBags s.catalog (made k)
  versions_made k l = versions_are_contents stay s end k is (leave_legal s [] events replies nothing run) (subst (λ n. k ≤ n) (ended_is s end) l)

  -- the nights that have begun are those that have ended, where none is open
  begun_is : (i : ℕ) → is_open (at i) ≡ false → nights_begun (at i) ≡ nights_ended (at i)
  begun_is i closed = (in_order s (at i) (deeds_of s (at i) (legal i))).outside closed

  -- the night that a Begin takes
  first_night : (i : ℕ) → is_open (at i) ≡ false → nights_ended (at i) < length s.nights → (given : GivenNight) × (slice_get s.nights (nights_ended (at i)) ≡ Some given)
      × (next_night s (at i) ≡ record { catalog = s.catalog; list = given.list; tables = bag_at (made (nights_ended (at i))); changes = bag_at given.changes; keys = s.keys })
  first_night i closed left =
      let nobody : GivenNight = record { changes = []; list = [] } in
      let k : ℕ = nights_ended (at i) in (
        slice_index_or s.nights k nobody,
        given_at s.nights k nobody left,
        (λ j. night_from s (sym (newest_made i) j) (begun_is i closed j)),
      )

  module _ (i : ℕ) (closed : is_open (at i) ≡ false) (left : nights_ended (at i) < length s.nights) where
    abbrev given : GivenNight
    given = (first_night i closed left).0

    abbrev tonight : Night
    tonight = record { catalog = s.catalog; list = given.list; tables = bag_at (made (nights_ended (at i))); changes = bag_at given.changes; keys = s.keys }

    base_refused : (f : MaintFault) → IsBaseFault s.catalog (bag_at (made (nights_ended (at i)))) (bag_at given.changes) f → IsBegun s made (at i) (reply.Refused (cause_of f))
    base_refused f why = by why.reason f why.first.asked why.first.stands why.answer
      where
        base : (b : ℕ) → is_base s.catalog b ≡ true → children_of s.catalog.views.children b ≡ []
        base b e = no_base (children_of s.catalog.views.children b) e

        by : (reason : Reason) (f : MaintFault) → IsOfBaseBelow s.catalog (length s.catalog.views.children) reason
            → ¬ (IsRuledOut s.catalog (bag_at given.changes) (at_first (bag_at (made (nights_ended (at i))))) reason)
            → IsAnswer (bag_at (made (nights_ended (at i)))) (bag_at given.changes) reason f → IsBegun s made (at i) (reply.Refused (cause_of f))
        by (RowIsLacking b) (fault.Absent v row) asked stands answer = lacks_a_row closed given b row (first_night i closed left).1 (base b asked.1) answer.1.absent
        by (RowIsLacking b) (fault.Large v) asked stands answer = cc
        by (RowIsLacking b) (fault.Range v) asked stands answer = cc
        by (RowIsLacking b) fault.Memory asked stands answer = wants_memory closed left
        by (BaseIsLarge b) f asked stands answer =
            subst (λ f. IsBegun s made (at i) (reply.Refused (cause_of f))) (sym answer) (counts_too_high closed given b (first_night i closed left).1 (base b asked.1) stands)
        by (ChangeIsLarge v) f asked stands answer = absurd asked
        by (ChangeHasNoValue v) f asked stands answer = absurd asked
        by (CompIsLarge v ys) f asked stands answer = absurd asked
        by (CompMeetsNoValue v ys) f asked stands answer = absurd asked
        by (PendingIsLarge v ys) f asked stands answer = absurd asked
        by (TableIsLarge v) f asked stands answer = absurd asked

    started : (n : Night) → n ≡ tonight → (r : Reply) → IsRuled (Starts n (places_from 0 (carried_up_to n (turn_of (untouched (legs_of n))))) reply.Begun) r → IsBegun s made (at i) r
    started n same r h =
        let P : Reply → Type 0 = IsBegun s made (at i) in
        let fits : IsGivenNight s.catalog given = is.nights (nights_ended (at i)) given (first_night i closed left).1 in
        ⊎_elim
        (λ k. ⊎_elim
        (λ c. ⊎_elim
        (λ p. subst P (sym p.1) (has_begun closed left))
        (λ f. absurd (none_refused n (places_from 0 (carried_up_to n (turn_of (untouched (legs_of n))))) f.0
        (first_passed n (subst (λ (m : Night). IsCorrect m.catalog.views.children m.list) (sym same) fits.list) k.0) f.1)) c)
        (λ m. subst P (sym m) (wants_memory closed left))
        k.1)
        (λ f. ⊎_elim
        (λ e. subst P (sym e) (base_refused f.0 (subst (λ (m : Night). IsBaseFault m.catalog m.tables m.changes f.0) same f.1)))
        (λ m. subst P (sym m.1) (wants_memory closed left))
        f.2)
        h

  is_begun : (i : ℕ) (r : Reply) → IsAnswered events replies i Begin r → IsBegun s made (at i) r
  is_begun i r there =
      let P : Reply → Type 0 = IsBegun s made (at i) in
      let step = step_at s [] events replies run i Begin r there.0 there.1 in
      ⊎_elim
      (λ t. subst P (sym t.1) (in_a_night t.0))
      (λ a. ⊎_elim
      (λ t. subst P (sym t.1) (no_night_left a.0 (subst (λ n. length s.nights ≤ n) (begun_is i a.0) (le_of (length s.nights) (nights_begun (at i)) t.0))))
      (λ b.
      let left : nights_ended (at i) < length s.nights = subst (λ n. n < length s.nights) (begun_is i a.0) (below (length s.nights) (nights_begun (at i)) b.0) in
      ⊎_elim
      (λ t. subst P (sym t.1) (last_version a.0 (ap (λ n. n + 1) (ended_is s (at i)) ∙ eq_true (number (versions s (at i)) + 1) (2 ^ 64) t.0)))
      (λ c. started i a.0 left (next_night s (at i)) (first_night i a.0 left).2 r c.1)
      (decide (number (versions s (at i)) + 1 == 2 ^ 64) cause.LastVersion _ r b.1))
      (decide (nat_le (length s.nights) (nights_begun (at i))) cause.NoNight _ r a.1))
      (decide (is_open (at i)) cause.NightOpen _ r step.ruled)

  -- the open night, as it was given, and over the contents that it began from
  tonight_is : (i : ℕ) → is_open (at i) ≡ true → (given : GivenNight) × IsTonight s (at i) given
      × (night s (at i) ≡ record { catalog = s.catalog; list = given.list; tables = bag_at (made (nights_ended (at i))); changes = bag_at given.changes; keys = s.keys })
  tonight_is i opened =
      let deeds = deeds_of s (at i) (legal i) in
      let begun : nights_begun (at i) ≡ nights_ended (at i) + 1 = (in_order s (at i) deeds).within opened in
      let few = (sound stay s is (at i) deeds).begun in
      let own = last_is s (at i) deeds opened in
      let last : last_begun (at i) ≡ nights_ended (at i) = omega (arith, own, begun) in
      let nobody : GivenNight = record { changes = []; list = [] } in (
        slice_index_or s.nights (nights_ended (at i)) nobody,
        (opened, given_at s.nights (nights_ended (at i)) nobody (omega (arith, begun, few))),
        (λ j. night_from s (sym (newest_made i) j) (last j)),
      )

  module _ (i : ℕ) (opened : is_open (at i) ≡ true) where
    abbrev given_tonight : GivenNight
    given_tonight = (tonight_is i opened).0

    fits_tonight : IsGivenNight s.catalog given_tonight
    fits_tonight = is.nights (nights_ended (at i)) given_tonight (tonight_is i opened).1.1

    list_is : (night s (at i)).list ≡ given_tonight.list
    list_is = ap (λ (n : Night). n.list) (tonight_is i opened).2

    -- each of its Insts installs what the new contents have otherwise
    differ : (new : Contents) → Makes s given_tonight (made (nights_ended (at i))) new → (n : Night) → n ≡ night s (at i)
        → AreDifferences (graph_of n.catalog) n.changes (made (nights_ended (at i))) new n.list (at_first n.tables)
    differ new makes n same =
        subst (λ (n : Night). AreDifferences (graph_of n.catalog) n.changes (made (nights_ended (at i))) new n.list (at_first n.tables)) (sym (same ∙ (tonight_is i opened).2))
        (are_differences s.catalog given_tonight.list (made (nights_ended (at i))) new (bag_at given_tonight.changes) is.catalogue fits_tonight.list (there_before) makes)
      where
        there_before : AreContents (graph_of s.catalog) (bag_at (made (nights_ended (at i))))
        there_before = subst (λ c. AreContents (graph_of s.catalog) (bag_at c)) (sym (newest_made i)) (newest_sound stay s is (at i) (sound stay s is (at i) (deeds_of s (at i) (legal i)))).0

    unpaged_before : (place view : ℕ) (rows : Counted) → turn s (at i) ≡ At_page place view rows → IsUnpaged s made (at i) given_tonight (before_comp (jobs_drawn (at i)) given_tonight.list)
    unpaged_before place view rows now new makes =
        subst (λ l. pages (at i) < pages_for s.keys (made (nights_ended (at i))) new (before_comp (jobs_drawn (at i)) l)) list_is
        (pages_before_comp s (at i) (deeds_of s (at i) (legal i)) opened place view rows now (made (nights_ended (at i))) new (differ new makes (night s (at i)) refl))

    unpaged_in_all : (place view : ℕ) (rows : Counted) → turn s (at i) ≡ At_page place view rows → IsUnpaged s made (at i) given_tonight given_tonight.list
    unpaged_in_all place view rows now new makes =
        subst (λ l. pages (at i) < pages_for s.keys (made (nights_ended (at i))) new l) list_is
        (pages_in_all s (at i) (deeds_of s (at i) (legal i)) opened place view rows now (made (nights_ended (at i))) new (differ new makes (night s (at i)) refl))

    take_at : (w : ℕ) (r : Reply) → w < s.workers → holding (at i) w ≡ None → (t : Turn) → turn s (at i) ≡ t → IsRuled (take_ruling t) r → IsTaken s made (at i) w r
    take_at w r there free (In_wave place jobs drawn) now h =
        ⊎_elim
        (λ t. subst (IsTaken s made (at i) w) (sym t.1) (one_undone opened (one_is_undone s (at i) (deeds_of s (at i) (legal i)) opened place jobs drawn now (le_of jobs drawn t.0))))
        (λ a. subst (IsTaken s made (at i) w) (sym a.1) (draws drawn given_tonight there (tonight_is i opened).1 free (subst (λ l. jobs_drawn (at i) < comps l) list_is (comps_are_undrawn s (at i) (deeds_of s (at i) (legal i)) opened place jobs drawn now (below jobs drawn a.0)))))
        (decide (nat_le jobs drawn) cause.NoJob (Says (reply.Job drawn)) r h)
    take_at w r there free (At_page place view rows) now h =
        subst (IsTaken s made (at i) w) (sym h) (pages_first given_tonight (tonight_is i opened).1 (unpaged_before place view rows now))
    take_at w r there free Over now h =
        subst (IsTaken s made (at i) w) (sym h)
        (all_drawn given_tonight (tonight_is i opened).1 (all_are_drawn s (at i) (deeds_of s (at i) (legal i)) opened now ∙ ap comps list_is))

    commit_at : (k : ℕ) (r : Reply) → k ≡ nights_ended (at i) + 1 → (t : Turn) → turn s (at i) ≡ t → (t ≡ Over → r ≡ reply.Version k → CarriesOver s made (nights_ended (at i)))
        → IsRuled (commit_ruling k t) r → IsCommitted s made (at i) r
    commit_at k r same Over now over h = subst (IsCommitted s made (at i)) (sym (h ∙ ap reply.Version same)) (let c : CarriesOver s made (nights_ended (at i)) = over refl h in makes_a_version c.0 (opened, c.1) c.2)
    commit_at k r same (In_wave place jobs drawn) now over h =
        subst (IsCommitted s made (at i)) (sym h)
        (comps_left given_tonight (tonight_is i opened).1 (subst (λ l. jobs_done (at i) < comps l) list_is (comps_are_left s (at i) (deeds_of s (at i) (legal i)) opened place jobs drawn now)))
    commit_at k r same (At_page place view rows) now over h =
        subst (IsCommitted s made (at i)) (sym h) (pages_left given_tonight (tonight_is i opened).1 (unpaged_in_all place view rows now))

  is_taken : (i w : ℕ) (r : Reply) → IsAnswered events replies i (Take w) r → IsTaken s made (at i) w r
  is_taken i w r there =
      let P : Reply → Type 0 = IsTaken s made (at i) w in
      let step = step_at s [] events replies run i (Take w) r there.0 there.1 in
      ⊎_elim
      (λ t. subst P (sym t.1) (no_worker (le_of s.workers w t.0)))
      (λ a. ⊎_elim
      (λ t. subst P (sym t.1) (outside_nights (not_true (is_open (at i)) t.0)))
      (λ b. ⊎_elim
      (λ t. let held = some_of (holding (at i) w) t.0 in subst P (sym t.1) (has_a_job held.0 held.1))
      (λ c. take_at i (not_false (is_open (at i)) b.0) w r (below s.workers w a.0) (not_some (holding (at i) w) c.0) (turn s (at i)) refl c.1)
      (decide (is_some (holding (at i) w)) cause.Busy _ r b.1))
      (decide (not (is_open (at i))) cause.NoNight _ r a.1))
      (decide (nat_le s.workers w) cause.NoWorker _ r step.ruled)

  commit_made : (i k : ℕ) → IsAnswered events replies i Commit (reply.Version k) → (is_open (at i) ≡ true) × (k ≡ nights_ended (at i) + 1) × CarriesOver s made (nights_ended (at i))
  commit_made i k there =
      let step = step_at s [] events replies run i Commit (reply.Version k) there.0 there.1 in
      let open_night = through (not (is_open (at i))) cause.NoNight _ (reply.Version k) (λ c e. cc) step.ruled in
      let opened : is_open (at i) ≡ true = not_false _ open_night.0 in
      let over = commit_so (number (versions s (at i)) + 1) k (turn s (at i)) open_night.1 in
      let deeds = deeds_of s (at i) (legal i) in
      let n : ℕ = nights_ended (at i) in
      let begun : nights_begun (at i) ≡ n + 1 = (in_order s (at i) deeds).within opened in
      let few = (sound stay s is (at i) deeds).begun in
      let own = last_is s (at i) deeds opened in
      let last : last_begun (at i) ≡ n = omega (arith, own, begun) in
      let nobody : GivenNight = record { changes = []; list = [] } in
      let new : made (n + 1) ≡ (versions s (Committed ∷ at i)).newest = subst (λ l. made (nights_ended l) ≡ (versions s l).newest) step.next (newest_made (suc i)) in (
        opened,
        over.1 ∙ ap (λ m. m + 1) (sym (ended_is s (at i))),
        (
          slice_index_or s.nights n nobody,
          given_at s.nights n nobody (omega (arith, begun, few)),
          contents_moved (graph_of s.catalog) (versions s (at i)).newest (made n)
              (slice_index_or s.nights (last_begun (at i)) nobody).changes (slice_index_or s.nights n nobody).changes
              (versions s (Committed ∷ at i)).newest (made (n + 1)) (sym (newest_made i)) (ap (λ m. (slice_index_or s.nights m nobody).changes) last) (sym new)
              (commits_make_contents stay s (at i) is (legal i) opened over.0),
        ),
      )

  is_committed : (i : ℕ) (r : Reply) → IsAnswered events replies i Commit r → IsCommitted s made (at i) r
  is_committed i r there =
      let step = step_at s [] events replies run i Commit r there.0 there.1 in
      let next : number (versions s (at i)) + 1 ≡ nights_ended (at i) + 1 = ap (λ n. n + 1) (sym (ended_is s (at i))) in
      ⊎_elim
      (λ t. subst (IsCommitted s made (at i)) (sym t.1) (nothing_to_commit (not_true (is_open (at i)) t.0)))
      (λ a. commit_at i (not_false (is_open (at i)) a.0) (number (versions s (at i)) + 1) r next (turn s (at i)) refl
      (λ over said. (commit_made i (number (versions s (at i)) + 1) (there.0, there.1 ∙ ap Some said)).2) a.1)
      (decide (not (is_open (at i))) cause.NoNight _ r step.ruled)

  same_contents : (i : ℕ) → IsAnswered events replies i GiveUp (reply.Version (nights_ended (at i) + 1)) → made (nights_ended (at i) + 1) ≡ made (nights_ended (at i))
  unfolding published
  same_contents i there =
      let step = step_at s [] events replies run i GiveUp (reply.Version (nights_ended (at i) + 1)) there.0 there.1 in
      let new : made (nights_ended (at i) + 1) ≡ (versions s (Gave_up ∷ at i)).newest = subst (λ l. made (nights_ended l) ≡ (versions s l).newest) step.next (newest_made (suc i)) in
      let same : (versions s (Gave_up ∷ at i)).newest ≡ (versions s (at i)).newest =
      ap (λ (v : Versions). v.newest) (versions_from-append (opened s.opening) (published s (at i)) (Gives_up ∷ [])) in
      new ∙ same ∙ sym (newest_made i)

  is_given_up : (i : ℕ) (r : Reply) → IsAnswered events replies i GiveUp r → IsGivenUp made (at i) r
  is_given_up i r there =
      let step = step_at s [] events replies run i GiveUp r there.0 there.1 in
      ⊎_elim
      (λ t. subst (IsGivenUp made (at i)) (sym t.1) (nothing_to_give_up (not_true (is_open (at i)) t.0)))
      (λ a.
      let said : r ≡ reply.Version (nights_ended (at i) + 1) = a.1 ∙ ap (λ k. reply.Version (k + 1)) (sym (ended_is s (at i))) in
      subst (IsGivenUp made (at i)) (sym said) (gives_up (not_false (is_open (at i)) a.0) (same_contents i (there.0, there.1 ∙ ap Some said))))
      (decide (not (is_open (at i))) cause.NoNight _ r step.ruled)

  is_opened : (i desk : ℕ) (r : Reply) → IsAnswered events replies i (Open desk) r → IsOpened s (at i) desk r
  is_opened i desk r there =
      let P : Reply → Type 0 = IsOpened s (at i) desk in
      let step = step_at s [] events replies run i (Open desk) r there.0 there.1 in
      ⊎_elim
      (λ t. subst P (sym t.1) (no_desk (le_of s.desks desk t.0)))
      (λ a. ⊎_elim
      (λ t. let sits = some_of (session (at i) desk) t.0 in subst P (sym t.1) (has_a_session sits.0 sits.1))
      (λ b. subst P (sym (b.1 ∙ ap reply.Session (sym (ended_is s (at i))))) (gets_a_session (below s.desks desk a.0) (not_some (session (at i) desk) b.0)))
      (decide (is_some (session (at i) desk)) cause.SessionOpen _ r a.1))
      (decide (nat_le s.desks desk) cause.NoDesk _ r step.ruled)

  -- the rule says the same of the versions that were published and of those that were made
  told_made : (i : ℕ) (of : SessionOf) (view limit : ℕ)
      → told s.versions (number (versions s (at i))) (is_active (versions s (at i))) (version (versions s (at i)) of.version) of view limit
      ≡ told s.versions (nights_ended (at i)) (is_open (at i)) (made of.version) of view limit
  told_made i of view limit =
      (λ j. told s.versions (sym (ended_is s (at i)) j) (active-open s (at i) j) (version (versions s (at i)) of.version) of view limit)
      ∙ same_told (is_unexpired s.versions (nights_ended (at i)) (is_open (at i)) of.version) _ _ _
      (λ kept. ap (told_there of view limit) (readable_version i of.version (made_then s.versions (nights_ended (at i)) (is_open (at i)) of.version kept)))

  read_at : (i desk view limit : ℕ) (r : Reply) → desk < s.desks → (o : Option SessionOf) → session (at i) desk ≡ o → IsRuled (read_ruling s.versions (versions s (at i)) view limit o) r
      → IsRead s made (at i) desk view limit r
  read_at i desk view limit r inside None sits h = subst (IsRead s made (at i) desk view limit) (sym h) (no_session inside sits)
  read_at i desk view limit r inside (Some of) sits h =
      let P : Reply → Type 0 = IsRead s made (at i) desk view limit in
      let v : Versions = versions s (at i) in
      let page : Shown = page_of (table_in (version v of.version) view) (goes_on view of.bookmark) limit in
      let ruled : P (told s.versions (nights_ended (at i)) (is_open (at i)) (made of.version) of view limit) = by_the_rule of inside sits in
      let moved = told_made i of view limit in
      ⊎_elim
      (λ e. subst P (sym (e ∙ moved)) ruled)
      (λ m. subst P (sym m.2) (rows_want_memory page (subst P (sym moved ∙ m.0) ruled) m.1))
      (ruled_by (not (is_unexpired s.versions (number v) (is_active v) of.version)) (nat_le (length (version v of.version)) view) ((limit == 0) || nat_lt 256 limit)
      (cause.Expired of.version (number v) (is_active v)) cause.NoView cause.Limit page r h)

  is_read : (i desk view limit : ℕ) (r : Reply) → IsAnswered events replies i (Read desk view limit) r → IsRead s made (at i) desk view limit r
  is_read i desk view limit r there =
      let step = step_at s [] events replies run i (Read desk view limit) r there.0 there.1 in
      ⊎_elim
      (λ t. subst (IsRead s made (at i) desk view limit) (sym t.1) (not_a_desk (le_of s.desks desk t.0)))
      (λ a. read_at i desk view limit r (below s.desks desk a.0) (session (at i) desk) refl a.1)
      (decide (nat_le s.desks desk) cause.NoDesk _ r step.ruled)

  pub comes_true : ComesTrue s events replies
  comes_true = record {
    made = made;
    each = as_many s [] events replies run;
    opening = opening_made;
    versions = versions_made;
    begins = is_begun;
    takes = is_taken;
    commits = is_committed;
    give_ups = is_given_up;
    opens = is_opened;
    reads = is_read;
    dones = λ i w r there. done_or w r (own_reply s (at i) (Done w) r (step_at s [] events replies run i (Done w) r there.0 there.1).ruled);
    page_ins = λ i r there. paged_or r (own_reply s (at i) PageIn r (step_at s [] events replies run i PageIn r there.0 there.1).ruled);
    closes = λ i d r there. closed_or d r (own_reply s (at i) (Close d) r (step_at s [] events replies run i (Close d) r there.0 there.1).ruled);
    whole = λ i desk view of page pages sits read last.
        let all = read_tables join stay s (at i) desk view of (legal i) sits in
        sym (ap (λ ps. flat_map (λ p. p.rows) (reverse ps)) read) ∙ all.whole page pages read last
        ∙ ap (λ contents. written (table_in contents view)) (sym (made_is i of.version all.there));
  }

pub runs_come_true : PagesJoin → VersionsStay → RunsComeTrue
runs_come_true join stay s events replies is run = comes_true join stay s events replies is run
