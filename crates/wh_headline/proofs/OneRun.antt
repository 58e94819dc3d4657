-- One legal run for running nights and the calls of all readers: up to each length of what is published come the nights' events, and then the
-- calls that saw just so much.
use Rattle.std.proofs.Common.{◌≡◌, ◌≢◌, refl, sym, ap, ◌∙◌, subst, ℕ, zero, suc, ◌+◌, ◌-◌, ◌<◌, ◌≤◌, List, [], ◌∷◌, ◌++◌, length, take, drop, Bool, true, false, arith, cond, Option, None, ⊎_elim}
use Rattle.std.specs.Prelude.{option_map}
use Rattle.std.proofs.lemmas.Bool.{cases_lt, eq-eqb, ne_eqb}
use Rattle.std.proofs.lemmas.List.{append-nil, append_assoc, length-append, take-append-drop}
use Rattle.std.proofs.Math.Seq.{take-append_seam}
use mathlib.Core.List.{IsPrefix}
use Rattle.wh_store.specs.Operations.{Operation}
use Rattle.wh_desk.specs.Desks.{Grows, Sitting}
use Rattle.wh_store.specs.Readers.{Bookmark}
use Rattle.wh_desk.specs.Reading.{AreCalls, Call, IsCall, call_more, no_call}
use Rattle.wh_desk.specs.Writers.{Writing}
use Rattle.wh_desk.specs.declared.asks.Ask.{Ask}
use Rattle.wh_desk.specs.declared.asks.Answer.{Answer}
use Rattle.wh_desk.specs.declared.asks.Answer.TheVariants as answer
use Rattle.wh_desk.specs.declared.chair.DeskFault.TheVariants.{Away}
use Rattle.wh_desk.proofs.Telling.{grows_on}
use Rattle.wh_desk.proofs.Turns.{call_grows}
use Rattle.wh_core.specs.declared.event.Event.{Event}
use Rattle.wh_core.specs.declared.reply.Reply.{Reply}
use Rattle.wh_core.specs.Laws.{IsSetup, log_after}
use Rattle.wh_core.specs.Log.{Log, logged, session}
use Rattle.wh_core.specs.Nights.{Setup}
use Rattle.wh_headline.specs.Growing.{AreAskedAs, GoesOnBy, IsCalledAs, IsEventOf, asked_at, asked_more, away, is_of_desk, is_open, is_read, is_close, none_asked, seat_of}
use Rattle.wh_headline.specs.OneLog.{AllInOneRun, BeginsAs, GoesOnFrom, HasAnswered, IsOneRun, IsReaderOf, OneRunGoesOn}
use Rattle.wh_headline.specs.OneLog as has
use Rattle.wh_headline.specs.RunningNights.{AreRunningNights, IsLogOf, set_up_warehouse}
use Rattle.wh_headline.proofs.Beginnings.{beginnings}
use Rattle.wh_headline.proofs.Calls.{away_or_not, away_stays, calls_are_events}
use Rattle.wh_headline.proofs.Going.{asked_join, goes_by_one, goes_nowhere, goes_then}
use Rattle.wh_headline.proofs.Growing.{logs_grow, nothing_done}
use Rattle.wh_headline.proofs.Logs.{had_list, had_of}

-- ---- what a reader saw grows

grows_self : (t : Sitting) → Grows t t
grows_self t = (refl, refl, ([], append-nil t.list))

shorter_list : (xs ys : List Operation) → IsPrefix xs ys → length xs ≤ length ys
shorter_list xs ys p = let a : length (xs ++ p.0) ≡ length ys = ap length p.1 in let b = length-append xs p.0 in omega (arith, a, b)

-- a beginning is what its length takes
as_taken : (xs ys : List Operation) → IsPrefix xs ys → xs ≡ take (length xs) ys
as_taken xs ys p = sym (take-append_seam xs p.0) ∙ ap (take (length xs)) p.1

-- a session that stays has its seat
seat_same : (t u : Sitting) (at : Option Bookmark) → u.session ≡ t.session → seat_of t at ≡ seat_of u at
seat_same t u at e = ap (option_map (λ v. record { version = v; bookmark = at })) (sym e)

-- ---- a desk's events

own_event : (d : ℕ) (a : Ask) (e : Event) → IsEventOf d a e → is_of_desk d e ≡ true
own_event d _ _ is_open = eq-eqb d d refl
own_event d _ _ (is_read view limit) = eq-eqb d d refl
own_event d _ _ is_close = eq-eqb d d refl

other_event : (d k : ℕ) (a : Ask) (e : Event) → d ≢ k → IsEventOf d a e → is_of_desk k e ≡ false
other_event d k _ _ apart is_open = ne_eqb d k apart
other_event d k _ _ apart (is_read view limit) = ne_eqb d k apart
other_event d k _ _ apart is_close = ne_eqb d k apart

asked_then : (d : ℕ) (a b : List Call) (x y : List (Event × Reply)) → AreAskedAs d a x → AreAskedAs d b y → AreAskedAs d (a ++ b) (x ++ y)
asked_then d _ b _ y none_asked by = by
asked_then d _ b _ y (asked_more call said a x one ax) by = asked_more call said (a ++ b) (x ++ y) one (asked_then d a b x y ax by)
asked_then d _ b _ y (away asks a x ax) by = away asks (a ++ b) (x ++ y) (asked_then d a b x y ax by)

-- ---- what a desk has answered, call by call

-- the same with single calls
data ByCalls : Sitting → Option Bookmark → List Call → Sitting → Option Bookmark → Type 0 where
  by_none : (t : Sitting) (at : Option Bookmark) → ByCalls t at [] t at
  by_telling : (t u w : Sitting) (at end : Option Bookmark) (calls : List Call) → Grows t u → u.session ≡ t.session → ByCalls u at calls w end → ByCalls t at calls w end
  by_call : (t u w : Sitting) (at later end : Option Bookmark) (a : Ask) (said : Answer) (calls : List Call) → IsCall t at a said u later → ByCalls u later calls w end
      → ByCalls t at ((a, said) ∷ calls) w end

by_calls_then : (t u w : Sitting) (at later end : Option Bookmark) (calls more : List Call) → AreCalls t at calls u later → ByCalls u later more w end → ByCalls t at (calls ++ more) w end
by_calls_then _ _ w _ _ end _ more (no_call t at) rest = rest
by_calls_then _ _ w _ _ end _ more (call_more t u x at next later a said calls one are) rest =
    by_call t u w at next end a said (calls ++ more) one (by_calls_then u x w next later end calls more are rest)

by_calls : (t w : Sitting) (at end : Option Bookmark) (calls : List Call) → HasAnswered t at calls w end → ByCalls t at calls w end
by_calls _ _ _ _ _ (has.no_more t at) = by_none t at
by_calls _ _ _ _ _ (has.was_told t u w at end calls grows same rest) = by_telling t u w at end calls grows same (by_calls u w at end calls rest)
by_calls _ _ _ _ _ (has.then_asked t u w at later end calls more are rest) = by_calls_then t u w at later end calls more are (by_calls u w later end more rest)

steps_grow : (t w : Sitting) (at end : Option Bookmark) (calls : List Call) → ByCalls t at calls w end → Grows t w
steps_grow _ _ _ _ _ (by_none t at) = grows_self t
steps_grow _ _ _ _ _ (by_telling t u w at end calls grows same rest) = grows_on t u w grows (steps_grow u w at end calls rest)
steps_grow _ _ _ _ _ (by_call t u w at later end a said calls one rest) = grows_on t u w (call_grows t u at later a said one) (steps_grow u w later end calls rest)

-- ---- calls that saw a list of this length

-- the first of these calls, if there is one, saw as many operations at least
Least : (k : ℕ) (t w : Sitting) (at end : Option Bookmark) (calls : List Call) → ByCalls t at calls w end → Type 0
Least k _ _ _ _ _ (by_none t at) = Unit {0}
Least k _ _ _ _ _ (by_telling t u w at end calls grows same rest) = Least k u w at end calls rest
Least k _ _ _ _ _ (by_call t u w at later end a said calls one rest) = k ≤ length u.list

-- each call saw no less than what was seen before it
least_from : (k : ℕ) (t w : Sitting) (at end : Option Bookmark) (calls : List Call) (are : ByCalls t at calls w end) → k ≤ length t.list → Least k t w at end calls are
unfolding Least
least_from k _ _ _ _ _ (by_none t at) l = tt
least_from k _ _ _ _ _ (by_telling t u w at end calls grows same rest) l =
    let m = shorter_list t.list u.list grows.2 in least_from k u w at end calls rest (omega (arith, l, m))
least_from k _ _ _ _ _ (by_call t u w at later end a said calls one rest) l =
    let m = shorter_list t.list u.list (call_grows t u at later a said one).2 in omega (arith, l, m)

-- from this log the desk has made these calls, and no other desk any; the log stays one of the list
record HasMade (s : Setup) (n : ℕ) (active : Bool) (ops : List Operation) (log : Log) (d : ℕ) (made : List Call) (u : Sitting) (at : Option Bookmark) : Type 0 where
  events : List Event
  replies : List Reply
  later : Log
  on : GoesOnBy s log events replies later
  is : IsLogOf s n active ops later
  asked : AreAskedAs d made (asked_at d events replies)
  sits : session later d ≡ seat_of u at
  no_other : (e : ℕ) → d ≢ e → asked_at e events replies ≡ []
  others : (e : ℕ) → d ≢ e → session later e ≡ session log e

-- of these calls the first ones are made, and of what is left the first saw as many operations at least
record IsCut (s : Setup) (n : ℕ) (active : Bool) (ops : List Operation) (log : Log) (d k : ℕ) (calls : List Call) (w : Sitting) (end : Option Bookmark) : Type 0 where
  made : List Call
  left : List Call
  here : Sitting
  at : Option Bookmark
  split : calls ≡ made ++ left
  are : ByCalls here at left w end
  least : Least k here w at end left are
  have : HasMade s n active ops log d made here at

module _ (s : Setup) (n : ℕ) (active : Bool) (list : List Operation) (k d : ℕ) (inside : d < s.desks) where
  abbrev ops : List Operation
  ops = take k list

  none_made : (log : Log) (t : Sitting) (at : Option Bookmark) → IsLogOf s n active ops log → session log d ≡ seat_of t at → HasMade s n active ops log d [] t at
  none_made log t at is sat = record {
    events = [];
    replies = [];
    later = log;
    on = goes_nowhere s log;
    is = is;
    asked = none_asked;
    sits = sat;
    no_other = λ e apart. refl;
    others = λ e apart. refl;
  }

  one_made : (log : Log) (a : Ask) (said : Answer) (made : List Call) (u w : Sitting) (later at : Option Bookmark) (one : IsCalledAs s n active ops log d (a, said) u later)
      → HasMade s n active ops (logged log one.event one.r) d made w at → HasMade s n active ops log d ((a, said) ∷ made) w at
  one_made log a said made u w later at one rest = record {
    events = one.event ∷ rest.events;
    replies = one.r ∷ rest.replies;
    later = rest.later;
    on = goes_then s log (logged log one.event one.r) rest.later (one.event ∷ []) rest.events (one.r ∷ []) rest.replies (goes_by_one s log one.event one.r one.is_reply) rest.on;
    is = rest.is;
    asked = subst (AreAskedAs d ((a, said) ∷ made)) (sym (ap (λ b. cond b ((one.event, one.r) ∷ asked_at d rest.events rest.replies) (asked_at d rest.events rest.replies)) (own_event d a one.event one.asked.0))) (asked_more (a, said) (one.event, one.r) made (asked_at d rest.events rest.replies) one.asked rest.asked);
    sits = rest.sits;
    no_other = λ e apart.
        ap (λ b. cond b ((one.event, one.r) ∷ asked_at e rest.events rest.replies) (asked_at e rest.events rest.replies)) (other_event d e a one.event apart one.asked.0)
        ∙ rest.no_other e apart;
    others = λ e apart. rest.others e apart ∙ one.others e apart;
  }

  -- a call that was answered Away is made, and there is no event
  away_made : (log : Log) (a : Ask) (said : Answer) (made : List Call) (w : Sitting) (at : Option Bookmark) → said ≡ answer.Refused Away → HasMade s n active ops log d made w at
      → HasMade s n active ops log d ((a, said) ∷ made) w at
  away_made log a said made w at is rest = record {
    events = rest.events;
    replies = rest.replies;
    later = rest.later;
    on = rest.on;
    is = rest.is;
    asked = subst (λ (x : Answer). AreAskedAs d ((a, x) ∷ made) (asked_at d rest.events rest.replies)) (sym is) (away a made (asked_at d rest.events rest.replies) rest.asked);
    sits = rest.sits;
    no_other = rest.no_other;
    others = rest.others;
  }

  -- of the calls those are made that saw so many operations, and no more
  cut : (t w : Sitting) (at end : Option Bookmark) (calls : List Call) (are : ByCalls t at calls w end) → Least k t w at end calls are → IsPrefix w.list list → w.of ≡ set_up_warehouse s
      → (log : Log) → IsLogOf s n active ops log → session log d ≡ seat_of t at → IsCut s n active ops log d (suc k) calls w end
  unfolding Least
  cut _ _ _ _ _ (by_none t at) least p of log is sat = record {
    made = [];
    left = [];
    here = t;
    at = at;
    split = refl;
    are = by_none t at;
    least = tt;
    have = none_made log t at is sat;
  }
  cut _ _ _ _ _ (by_telling t u w at end calls grows same rest) least p of log is sat =
      cut u w at end calls rest least p of log is (sat ∙ seat_same t u at same)
  cut _ _ _ _ _ (by_call t u w at later end a said calls one rest) least p of log is sat =
      ⊎_elim
      (λ more. record {
        made = [];
        left = (a, said) ∷ calls;
        here = t;
        at = at;
        split = refl;
        are = by_call t u w at later end a said calls one rest;
        least = omega (arith, more);
        have = none_made log t at is sat;
      })
      (λ most.
      let grows : Grows u w = steps_grow u w later end calls rest in
      let here : length u.list ≡ k = omega (arith, most, least) in
      let seen : IsPrefix u.list list = (grows.2.0 ++ p.0, sym (append_assoc u.list grows.2.0 p.0) ∙ ap (λ l. l ++ p.0) grows.2.1 ∙ p.1) in
      let on : Least k u w later end calls rest = least_from k u w later end calls rest (omega (arith, here)) in
      ⊎_elim
      (λ gone.
      let stays = away_stays t u at later a said one gone in
      let same : seat_of t at ≡ seat_of u later = (λ i. seat_of (sym stays.0 i) (sym stays.1 i)) in
      let after = cut u w later end calls rest on p of log is (sat ∙ same) in
      record {
        made = (a, said) ∷ after.made;
        left = after.left;
        here = after.here;
        at = after.at;
        split = ap (λ (l : List Call). (a, said) ∷ l) after.split;
        are = after.are;
        least = after.least;
        have = away_made log a said after.made after.here after.at gone after.have;
      })
      (λ apart.
      let now : IsCalledAs s n active ops log d (a, said) u later =
      calls_are_events s n active ops log d t u at later a said is sat
      (record { desk = inside; of = sym grows.1 ∙ of; list = as_taken u.list list seen ∙ ap (λ j. take j list) here }) one apart in
      let after = cut u w later end calls rest on p of (logged log now.event now.r) now.stays now.own in
      record {
        made = (a, said) ∷ after.made;
        left = after.left;
        here = after.here;
        at = after.at;
        split = ap (λ (l : List Call). (a, said) ∷ l) after.split;
        are = after.are;
        least = after.least;
        have = one_made log a said after.made u after.here later after.at now after.have;
      })
      (away_or_not said))
      (cases_lt k (length u.list))

-- ---- all desks

-- a legal run up to this log, by which a desk has made the first of its calls, and of the calls that are left the first saw as many operations at least
record IsOnTheWay (s : Setup) (d k : ℕ) (calls : List Call) (w : Sitting) (end : Option Bookmark) (events : List Event) (replies : List Reply) (log : Log) : Type 0 where
  made : List Call
  left : List Call
  here : Sitting
  at : Option Bookmark
  split : calls ≡ made ++ left
  are : ByCalls here at left w end
  least : Least k here w at end left are
  asked : AreAskedAs d made (asked_at d events replies)
  sits : session log d ≡ seat_of here at

-- the run of the first so many operations, with the calls that saw fewer than that many; of the desks below one, also those that saw as many
record IsRunTo (s : Setup) (list : List Operation) (calls : ℕ → List Call) (here : ℕ → Sitting) (ends : ℕ → Option Bookmark) (k m : ℕ) (first : List Event) (replied : List Reply) : Type 0 where
  events : List Event
  replies : List Reply
  log : Log
  begins : BeginsAs first replied events replies
  on : GoesOnBy s [] events replies log
  nights : ℕ
  active : Bool
  is : IsLogOf s nights active (take k list) log
  served : (d : ℕ) → d < s.desks → d < m → IsOnTheWay s d (suc k) (calls d) (here d) (ends d) events replies log
  waiting : (d : ℕ) → d < s.desks → m ≤ d → IsOnTheWay s d k (calls d) (here d) (ends d) events replies log
  no_others : (d : ℕ) → s.desks ≤ d → asked_at d events replies ≡ []

begins_on : (a b c : List Event) (p q r : List Reply) → BeginsAs a p b q → BeginsAs a p (b ++ c) (q ++ r)
begins_on a b c p q r is = record {
  events = (is.events.0 ++ c, sym (append_assoc a is.events.0 c) ∙ ap (λ l. l ++ c) is.events.1);
  replies = (is.replies.0 ++ r, sym (append_assoc p is.replies.0 r) ∙ ap (λ l. l ++ r) is.replies.1);
}

-- where nothing of a desk is added, it is on its way as before
on_as_before : (s : Setup) (d k : ℕ) (calls : List Call) (w : Sitting) (end : Option Bookmark) (events more : List Event) (replies said : List Reply) (log later : Log)
    → GoesOnBy s [] events replies log → asked_at d more said ≡ [] → session later d ≡ session log d
    → IsOnTheWay s d k calls w end events replies log → IsOnTheWay s d k calls w end (events ++ more) (replies ++ said) later
on_as_before s d k calls w end events more replies said log later on none same way = record {
  made = way.made;
  left = way.left;
  here = way.here;
  at = way.at;
  split = way.split;
  are = way.are;
  least = way.least;
  asked = subst (AreAskedAs d way.made) (sym (asked_join s [] d events more replies said on.run ∙ ap (λ l. asked_at d events replies ++ l) none ∙ append-nil (asked_at d events replies))) way.asked;
  sits = same ∙ way.sits;
}

module _ (s : Setup) (setup : IsSetup s) (nights : ℕ) (active : Bool) (list : List Operation) (calls : ℕ → List Call) (here : ℕ → Sitting) (ends : ℕ → Option Bookmark)
    (running : AreRunningNights s nights active list) (seen : (d : ℕ) → d < s.desks → IsPrefix (here d).list list) (of : (d : ℕ) → d < s.desks → (here d).of ≡ set_up_warehouse s)
    (first : List Event) (replied : List Reply) where
  abbrev RunTo : ℕ → ℕ → Type 0
  RunTo k m = IsRunTo s list calls here ends k m first replied

  -- one desk more has made its calls
  one_more_desk : (k m : ℕ) → m < s.desks → RunTo k m → RunTo k (suc m)
  one_more_desk k m inside r =
      let way = r.waiting m inside (omega arith) in
      let c = cut s r.nights r.active list k m inside way.here (here m) way.at (ends m) way.left way.are way.least (seen m inside) (of m inside) r.log r.is way.sits in
      let more : List Event = c.have.events in
      let said : List Reply = c.have.replies in
      let joined : asked_at m (r.events ++ more) (r.replies ++ said) ≡ asked_at m r.events r.replies ++ asked_at m more said = asked_join s [] m r.events more r.replies said r.on.run in
      let own : IsOnTheWay s m (suc k) (calls m) (here m) (ends m) (r.events ++ more) (r.replies ++ said) c.have.later = record {
        made = way.made ++ c.made;
        left = c.left;
        here = c.here;
        at = c.at;
        split = way.split ∙ ap (λ l. way.made ++ l) c.split ∙ sym (append_assoc way.made c.made c.left);
        are = c.are;
        least = c.least;
        asked = subst (AreAskedAs m (way.made ++ c.made)) (sym joined) (asked_then m way.made c.made (asked_at m r.events r.replies) (asked_at m more said) way.asked c.have.asked);
        sits = c.have.sits;
      } in
      record {
        events = r.events ++ more;
        replies = r.replies ++ said;
        log = c.have.later;
        begins = begins_on first r.events more replied r.replies said r.begins;
        on = goes_then s [] r.log c.have.later r.events more r.replies said r.on c.have.on;
        nights = r.nights;
        active = r.active;
        is = c.have.is;
        served = λ d l below.
            ⊎_elim
            (λ less. on_as_before s d (suc k) (calls d) (here d) (ends d) r.events more r.replies said r.log c.have.later r.on
            (c.have.no_other d (λ e. omega (arith, e, less))) (c.have.others d (λ e. omega (arith, e, less))) (r.served d l less))
            (λ not_less.
            let same : m ≡ d = omega (arith, not_less, below) in
            subst (λ x. IsOnTheWay s x (suc k) (calls x) (here x) (ends x) (r.events ++ more) (r.replies ++ said) c.have.later) same own)
            (cases_lt d m);
        waiting = λ d l above.
            on_as_before s d k (calls d) (here d) (ends d) r.events more r.replies said r.log c.have.later r.on
            (c.have.no_other d (λ e. omega (arith, e, above))) (c.have.others d (λ e. omega (arith, e, above))) (r.waiting d l (omega (arith, above)));
        no_others = λ d outside.
            asked_join s [] d r.events more r.replies said r.on.run
            ∙ (λ i. r.no_others d outside i ++ c.have.no_other d (λ e. omega (arith, e, outside, inside)) i);
      }

  desks_below : (k m : ℕ) → m ≤ s.desks → RunTo k 0 → RunTo k m
  desks_below k zero l r = r
  desks_below k (suc m) l r = one_more_desk k m (omega (arith, l)) (desks_below k m (omega (arith, l)) r)

  -- one operation more is published
  one_more_operation : (k : ℕ) → suc k ≤ length list → RunTo k s.desks → RunTo (suc k) 0
  one_more_operation k l r =
      let longer : List Operation = take (suc k) list in
      let here_on : IsPrefix longer list = (drop (suc k) list, take-append-drop (suc k) list) in
      let are = beginnings s nights active list longer running here_on in
      let g = logs_grow s r.nights are.0 r.active are.1 (take k list) longer r.log setup are.3 (takes_more k list) r.is in
      let alone = g.2 in
      record {
        events = r.events ++ alone.events;
        replies = r.replies ++ alone.replies;
        log = g.0;
        begins = begins_on first r.events alone.events replied r.replies alone.replies r.begins;
        on = goes_then s [] r.log g.0 r.events alone.events r.replies alone.replies r.on alone.on;
        nights = are.0;
        active = are.1;
        is = g.1;
        served = λ d l below. absurd (omega (arith, below));
        waiting = λ d l above.
            on_as_before s d (suc k) (calls d) (here d) (ends d) r.events alone.events r.replies alone.replies r.log g.0 r.on (alone.no_desk d) (alone.sessions d) (r.served d l l);
        no_others = λ d outside.
            asked_join s [] d r.events alone.events r.replies alone.replies r.on.run
            ∙ (λ i. r.no_others d outside i ++ alone.no_desk d i);
      }
    where
      takes_more : (j : ℕ) (xs : List Operation) → IsPrefix (take j xs) (take (suc j) xs)
      takes_more zero xs = (take 1 xs, refl)
      takes_more (suc j) [] = ([], refl)
      takes_more (suc j) (x ∷ xs) = (let t = takes_more j xs in (t.0, ap (λ (l : List Operation). x ∷ l) t.1))

  -- from so many operations on
  up_to : (from k : ℕ) → from + k ≤ length list → RunTo from 0 → RunTo (from + k) s.desks
  up_to from zero l start = let same : from ≡ from + 0 = omega arith in subst (λ j. RunTo j s.desks) same (desks_below from s.desks (omega arith) start)
  up_to from (suc k) l start =
      let next : suc (from + k) ≡ from + suc k = omega arith in
      subst (λ j. RunTo j s.desks) next (desks_below (suc (from + k)) s.desks (omega arith) (one_more_operation (from + k) (omega (arith, l)) (up_to from k (omega (arith, l)) start)))

-- ---- the whole

-- a desk that has seen no more has made all its calls
all_made : (k : ℕ) (t w : Sitting) (at end : Option Bookmark) (calls : List Call) (are : ByCalls t at calls w end) → Least (suc k) t w at end calls are → length w.list ≤ k
    → (calls ≡ []) × (seat_of t at ≡ seat_of w end)
unfolding Least
all_made k _ _ _ _ _ (by_none t at) least most = (refl, refl)
all_made k _ _ _ _ _ (by_telling t u w at end calls grows same rest) least most =
    let r = all_made k u w at end calls rest least most in (r.0, seat_same t u at same ∙ r.1)
all_made k _ _ _ _ _ (by_call t u w at later end a said calls one rest) least most =
    let m = shorter_list u.list w.list (steps_grow u w later end calls rest).2 in absurd (omega (arith, least, most, m))

-- the run of the whole list, with all calls
whole_run : (s : Setup) (nights : ℕ) (active : Bool) (w : Writing) (calls : ℕ → List Call) (here : ℕ → Sitting) (ends : ℕ → Option Bookmark) (first : List Event) (replied : List Reply)
    → IsSetup s → AreRunningNights s nights active w.ledger.list → ((d : ℕ) → d < s.desks → IsPrefix (here d).list w.ledger.list)
    → IsRunTo s w.ledger.list calls here ends (length w.ledger.list) s.desks first replied
    → (later : IsOneRun s nights active w calls here ends) × BeginsAs first replied later.events later.replies
whole_run s nights active w calls here ends first replied setup running seen r =
    let list : List Operation = w.ledger.list in
    let all : take (length list) list ≡ list = sym (as_taken list list ([], append-nil list)) in
    let are : IsLogOf s r.nights r.active list r.log = subst (λ ops. IsLogOf s r.nights r.active ops r.log) all r.is in
    let g = logs_grow s r.nights nights r.active active list list r.log setup running ([], append-nil list) are in
    let alone = g.2 in
    let last : log_after [] (r.events ++ alone.events) (r.replies ++ alone.replies) ≡ g.0 = (goes_then s [] r.log g.0 r.events alone.events r.replies alone.replies r.on alone.on).leaves in
    let done : (d : ℕ) → d < s.desks → IsOnTheWay s d (suc (length list)) (calls d) (here d) (ends d) (r.events ++ alone.events) (r.replies ++ alone.replies) g.0 =
    λ d l. on_as_before s d (suc (length list)) (calls d) (here d) (ends d) r.events alone.events r.replies alone.replies r.log g.0 r.on (alone.no_desk d) (alone.sessions d) (r.served d l l) in
    let ended : (d : ℕ) (l : d < s.desks) → ((done d l).left ≡ []) × (seat_of (done d l).here (done d l).at ≡ seat_of (here d) (ends d)) =
    λ d l. all_made (length list) (done d l).here (here d) (done d l).at (ends d) (done d l).left (done d l).are (done d l).least (shorter_list (here d).list list (seen d l)) in (
      record {
        events = r.events ++ alone.events;
        replies = r.replies ++ alone.replies;
        legal = (goes_then s [] r.log g.0 r.events alone.events r.replies alone.replies r.on alone.on).run;
        log_of = subst (IsLogOf s nights active list) (sym last) g.1;
        asked = λ d l.
            subst (λ cs. AreAskedAs d cs (asked_at d (r.events ++ alone.events) (r.replies ++ alone.replies)))
            (sym ((done d l).split ∙ ap (λ c. (done d l).made ++ c) (ended d l).0 ∙ append-nil (done d l).made)) (done d l).asked;
        sits = λ d l. ap (λ log. session log d) last ∙ (done d l).sits ∙ (ended d l).1;
        no_others = λ d outside.
            asked_join s [] d r.events alone.events r.replies alone.replies r.on.run
            ∙ (λ i. r.no_others d outside i ++ alone.no_desk d i);
      },
      begins_on first r.events alone.events replied r.replies alone.replies r.begins,
    )

-- from the beginning
pub one_run : AllInOneRun
one_run s nights active w calls here ends setup of running readers =
    let list : List Operation = w.ledger.list in
    let seen : (d : ℕ) → d < s.desks → IsPrefix (here d).list list = λ d l. had_list w (here d) (readers d l).had in
    let start : IsRunTo s list calls here ends 0 0 [] [] = record {
      events = [];
      replies = [];
      log = [];
      begins = record { events = ([], refl); replies = ([], refl) };
      on = goes_nowhere s [];
      nights = 0;
      active = false;
      is = nothing_done s;
      served = λ d l below. absurd (omega (arith, below));
      waiting = λ d l above. (
          let r = readers d l in
          let are : ByCalls r.first None (calls d) (here d) (ends d) = by_calls r.first (here d) None (ends d) (calls d) r.answered in
          record {
            made = [];
            left = calls d;
            here = r.first;
            at = None;
            split = refl;
            are = are;
            least = least_from 0 r.first (here d) None (ends d) (calls d) are (omega arith);
            asked = none_asked;
            sits = sym (ap (option_map (λ v. record { version = v; bookmark = None })) r.comes);
          });
      no_others = λ d outside. refl;
    } in
    let r = up_to s setup nights active list calls here ends running seen (λ d l. had_of s w (here d) of (readers d l).had) [] [] 0 (length list) (omega arith) start in
    let same : 0 + length list ≡ length list = omega arith in
    (whole_run s nights active w calls here ends [] [] setup running seen (subst (λ j. IsRunTo s list calls here ends j s.desks [] []) same r)).0

-- from a run on
pub run_goes_on : OneRunGoesOn
run_goes_on s n nights seen_open active v w calls more before here at ends setup of running longer run readers =
    let list : List Operation = w.ledger.list in
    let short : List Operation = v.ledger.list in
    let all : ℕ → List Call = λ d. calls d ++ more d in
    let seen : (d : ℕ) → d < s.desks → IsPrefix (here d).list list = λ d l. had_list w (here d) (readers d l).had in
    let start : IsRunTo s list all here ends (length short) 0 run.events run.replies = record {
      events = run.events;
      replies = run.replies;
      log = log_after [] run.events run.replies;
      begins = record { events = ([], append-nil run.events); replies = ([], append-nil run.replies) };
      on = record { run = run.legal; leaves = refl };
      nights = n;
      active = seen_open;
      is = subst (λ ops. IsLogOf s n seen_open ops (log_after [] run.events run.replies)) (as_taken short list longer) run.log_of;
      served = λ d l below. absurd (omega (arith, below));
      waiting = λ d l above. (
          let r = readers d l in
          let are : ByCalls r.told (at d) (more d) (here d) (ends d) = by_calls r.told (here d) (at d) (ends d) (more d) r.answered in
          record {
            made = calls d;
            left = more d;
            here = r.told;
            at = at d;
            split = refl;
            are = are;
            least = least_from (length short) r.told (here d) (at d) (ends d) (more d) are (shorter_list short r.told.list r.list);
            asked = run.asked d l;
            sits = run.sits d l ∙ seat_same (before d) r.told (at d) r.session;
          });
      no_others = run.no_others;
    } in
    let most : length short ≤ length list = shorter_list short list longer in
    let r = up_to s setup nights active list all here ends running seen (λ d l. had_of s w (here d) of (readers d l).had) run.events run.replies (length short) (length list - length short) (omega (arith, most)) start in
    let same : length short + (length list - length short) ≡ length list = omega (arith, most) in
    whole_run s nights active w all here ends run.events run.replies setup running seen (subst (λ j. IsRunTo s list all here ends j s.desks run.events run.replies) same r)
