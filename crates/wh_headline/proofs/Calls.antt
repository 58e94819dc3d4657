-- That a desk's calls are events of a log of what it sees.
use Rattle.std.proofs.Common.{◌≡◌, ◌≢◌, ◌⊎◌, inl, inr, refl, sym, ap, ◌∙◌, subst, ℕ, ◌<◌, List, Bool, true, false, cond, Option, Some, None}
use Rattle.std.specs.Prelude.{is_none, is_some, nat_le, option_map}
use Rattle.std.proofs.lemmas.Bool.{eq-eqb, ne_eqb}
use Rattle.wh_store.specs.Operations.{Operation}
use Rattle.wh_store.specs.Ledgers.{Warehouse}
use Rattle.wh_store.specs.Pages.{Shown}
use Rattle.wh_store.specs.Versions.{versions_of}
use Rattle.wh_desk.specs.Desks.{NotOpened, NotRead, OpensAt, Reads, Sitting, versions_seen}
use Rattle.wh_store.specs.Readers.{Bookmark, bookmark_after, goes_on}
use Rattle.wh_desk.specs.Reading.{IsCall, IsLimit, closed_before, closes, opens, opens_none, shows, shows_none}
use Rattle.wh_desk.specs.declared.asks.Ask.{Ask}
use Rattle.wh_desk.specs.declared.asks.Ask.TheVariants as ask
use Rattle.wh_desk.specs.declared.asks.Answer.{Answer}
use Rattle.wh_desk.specs.declared.asks.Answer.TheVariants as answer
use Rattle.wh_desk.specs.declared.chair.DeskFault.{DeskFault}
use Rattle.wh_desk.specs.declared.chair.DeskFault.TheVariants.{NoSession, SessionOpen, Expired, NoView, Memory, Away}
use Rattle.wh_core.specs.declared.event.Event.{Event}
use Rattle.wh_core.specs.declared.event.Event.TheVariants as event
use Rattle.wh_core.specs.declared.reply.Cause.{Cause}
use Rattle.wh_core.specs.declared.reply.Cause.TheVariants as cause
use Rattle.wh_core.specs.declared.reply.Reply.TheVariants as reply
use Rattle.wh_core.specs.Log.{Log, SessionOf, logged, session}
use Rattle.wh_core.specs.Nights.{Setup, versions}
use Rattle.wh_core.specs.Replies.{IsReply, more}
use Rattle.wh_core.proofs.Steps.{le_false, onward, refuse}
use Rattle.wh_headline.specs.Alike.{AreAlike, IsAnsweredAlike, row_read}
use Rattle.wh_headline.specs.Growing.{CallsAreEvents, IsCalledAs, IsEventOf, IsReplyOf, SeesHere, is_open, is_read, is_close, of_session, of_page, of_closed, of_no_session, of_session_open, of_expired, of_no_view, of_memory, seat_of}
use Rattle.wh_headline.specs.RunningNights.{IsLogOf}
use Rattle.wh_headline.proofs.Answered.{answered, memory}
use Rattle.wh_headline.proofs.SeenAlike.{alike_then, same_alike}

-- ---- where readers stand

-- a session of this version, where its reader stands here
abbrev seat_at : ℕ → Option Bookmark → SessionOf
seat_at v at = record { version = v; bookmark = at }

seat_in : (t : Sitting) (at : Option Bookmark) (o : Option ℕ) → t.session ≡ o → seat_of t at ≡ option_map (λ v. seat_at v at) o
seat_in t at o e = ap (option_map (λ v. seat_at v at)) e

-- the version of a desk's session is that of its seat
seat_version : (at : Option Bookmark) (o : Option ℕ) → o ≡ option_map (λ (of : SessionOf). of.version) (option_map (λ v. seat_at v at) o)
seat_version at None = refl
seat_version at (Some v) = refl

is_seated : (at : Option Bookmark) (o : Option ℕ) → o ≢ None → is_none (option_map (λ v. seat_at v at) o) ≡ false
is_seated at None some = absurd (some refl)
is_seated at (Some v) some = refl

not_none : (o : Option SessionOf) → is_none o ≡ false → is_some o ≡ true
not_none None e = cc
not_none (Some x) e = refl

-- ---- one call

module _ (s : Setup) (n : ℕ) (active : Bool) (ops : List Operation) (log : Log) (d : ℕ) (t : Sitting) (at : Option Bookmark) (is : IsLogOf s n active ops log) (sat : session log d ≡ seat_of t at) where
  -- a desk that sees the log's list as it is answered
  module _ (u : Sitting) (sees : SeesHere s d ops u) where
    alike_here : AreAlike s log d t u
    alike_here = record {
      desk = sees.desk;
      session = seat_version at t.session ∙ ap (option_map (λ (of : SessionOf). of.version)) (sym sat);
      kept = ap (λ (of : Warehouse). of.limit) sees.of;
      versions = alike_then (versions_seen u) (versions_of s.opening ops) (versions s log)
          (same_alike (versions_seen u) (versions_of s.opening ops) (λ i. versions_of (sees.of i).opening (sees.list i))) is.versions;
    }

    said : IsAnsweredAlike s log d t u
    said = answered s log d t u alike_here

    sits_so : (o : Option ℕ) → t.session ≡ o → session log d ≡ option_map (λ v. seat_at v at) o
    sits_so o e = sat ∙ seat_in t at o e

    row_same : (view v : ℕ) → t.session ≡ Some v → goes_on view at ≡ row_read view (session log d)
    row_same view v e = ap (row_read view) (sym (sits_so (Some v) e))

    -- a refused event leaves the log
    stays_refused : (a : Ask) (f : DeskFault) (e : Event) (why : Cause) (at_end : Option Bookmark) → IsEventOf d a e → IsReplyOf (answer.Refused f) (reply.Refused why) → logged log e (reply.Refused why) ≡ log
        → IsReply s log e (reply.Refused why) → seat_of t at ≡ seat_of u at_end → IsCalledAs s n active ops log d (a, answer.Refused f) u at_end
    stays_refused a f e why at_end asked told same ruled seat = record {
      event = e;
      r = reply.Refused why;
      asked = (asked, told);
      is_reply = ruled;
      stays = subst (IsLogOf s n active ops) (sym same) is;
      own = ap (λ l. session l d) same ∙ sat ∙ seat;
      others = λ k apart. ap (λ l. session l k) same;
    }

    seat_stays : (v : ℕ) → t.session ≡ Some v → u.session ≡ Some v → seat_of t at ≡ seat_of u at
    seat_stays v a b = seat_in t at (Some v) a ∙ sym (seat_in u at (Some v) b)

    sits_down : (v : ℕ) → OpensAt t u v → IsCalledAs s n active ops log d (ask.Open, answer.Session v) u None
    unfolding Rattle.wh_core.specs.Nights.published
    sits_down v o = record {
      event = event.Open d;
      r = reply.Session v;
      asked = (is_open, of_session v);
      is_reply = said.opens v o;
      stays = record {
        legal = more log (event.Open d) (reply.Session v) is.legal (said.opens v o);
        versions = is.versions;
        active = is.active;
        begun = is.begun;
      };
      own = ap (λ b. cond b (Some (seat_at v None)) (session log d)) (eq-eqb d d refl) ∙ sym (seat_in u None (Some v) o.2);
      others = λ e apart. ap (λ b. cond b (Some (seat_at v None)) (session log e)) (ne_eqb d e apart);
    }

    turns : (view limit : ℕ) (page : Shown) → IsLimit limit → Reads t u view (goes_on view at) limit page → IsCalledAs s n active ops log d (ask.Page view limit, answer.Page page) u (bookmark_after view page)
    unfolding Rattle.wh_core.specs.Nights.published
    turns view limit page few reads =
        let v : ℕ = reads.0 in
        let turned : SessionOf → SessionOf = λ o. record { version = o.version; bookmark = bookmark_after view page } in
        let ruled : IsReply s log (event.Read d view limit) (reply.Page page) = said.reads view limit page few.0 few.1 (subst (λ row. Reads t u view row limit page) (row_same view v reads.1.1) reads) in
        record {
          event = event.Read d view limit;
          r = reply.Page page;
          asked = (is_read view limit, of_page page);
          is_reply = ruled;
          stays = record {
            legal = more log (event.Read d view limit) (reply.Page page) is.legal ruled;
            versions = is.versions;
            active = is.active;
            begun = is.begun;
          };
          own =
              ap (λ b. cond b (option_map turned (session log d)) (session log d)) (eq-eqb d d refl)
              ∙ ap (option_map turned) (sits_so (Some v) reads.1.1)
              ∙ sym (seat_in u (bookmark_after view page) (Some v) reads.1.2);
          others = λ e apart. ap (λ b. cond b (option_map turned (session log e)) (session log e)) (ne_eqb d e apart);
        }

    -- no page
    turns_not : (view limit : ℕ) (f : DeskFault) → IsLimit limit → NotRead t u view (goes_on view at) limit f → answer.Refused f ≢ answer.Refused Away
        → IsCalledAs s n active ops log d (ask.Page view limit, answer.Refused f) u at
    turns_not view limit NoSession few not apart =
        stays_refused (ask.Page view limit) NoSession (event.Read d view limit) cause.NoSession at (is_read view limit) of_no_session refl (said.no_session view limit not) (ap (λ w. seat_of w at) (sym not.0))
    turns_not view limit SessionOpen few not apart = absurd not
    turns_not view limit (Expired v current b) few not apart =
        stays_refused (ask.Page view limit) (Expired v current b) (event.Read d view limit) (cause.Expired v current b) at (is_read view limit) (of_expired v current b) refl
        (said.expired view limit v current b (subst (λ row. NotRead t u view row limit (Expired v current b)) (row_same view not.0 not.1.1) not)) (seat_stays not.0 not.1.1 not.1.2)
    turns_not view limit NoView few not apart =
        stays_refused (ask.Page view limit) NoView (event.Read d view limit) cause.NoView at (is_read view limit) of_no_view refl
        (said.no_view view limit (subst (λ row. NotRead t u view row limit NoView) (row_same view not.0 not.1.1) not)) (seat_stays not.0 not.1.1 not.1.2)
    turns_not view limit Memory few not apart =
        stays_refused (ask.Page view limit) Memory (event.Read d view limit) cause.Memory at (is_read view limit) of_memory refl
        (memory s log d t u alike_here view limit (subst (λ row. NotRead t u view row limit Memory) (row_same view not.0 not.1.1) not)) (seat_stays not.0 not.1.1 not.1.2)
    turns_not view limit Away few not apart = absurd (apart refl)

  -- a desk that does not look
  opened_so : d < s.desks → t.session ≢ None → IsCalledAs s n active ops log d (ask.Open, answer.Refused SessionOpen) t at
  opened_so inside some = record {
    event = event.Open d;
    r = reply.Refused cause.SessionOpen;
    asked = (is_open, of_session_open);
    is_reply =
        onward (nat_le s.desks d) cause.NoDesk _ (reply.Refused cause.SessionOpen) (le_false s.desks d inside)
        (refuse (is_some (session log d)) cause.SessionOpen _ (not_none (session log d) (ap is_none sat ∙ is_seated at t.session some)));
    stays = is;
    own = sat;
    others = λ e apart. refl;
  }

  opened_not : d < s.desks → (u : Sitting) (f : DeskFault) → NotOpened t u f → answer.Refused f ≢ answer.Refused Away → IsCalledAs s n active ops log d (ask.Open, answer.Refused f) u at
  opened_not inside u SessionOpen not apart = subst (λ w. IsCalledAs s n active ops log d (ask.Open, answer.Refused SessionOpen) w at) (sym not.0) (opened_so inside not.1)
  opened_not inside u Away not apart = absurd (apart refl)
  opened_not inside u NoSession not apart = absurd not
  opened_not inside u (Expired v current b) not apart = absurd not
  opened_not inside u NoView not apart = absurd not
  opened_not inside u Memory not apart = absurd not

  leaves : d < s.desks → t.session ≢ None → IsCalledAs s n active ops log d (ask.Close, answer.Closed) (record t { session = None }) None
  unfolding Rattle.wh_core.specs.Nights.published
  leaves inside some =
      let ruled : IsReply s log (event.Close d) reply.Closed =
      onward (nat_le s.desks d) cause.NoDesk _ reply.Closed (le_false s.desks d inside)
      (onward (is_none (session log d)) cause.NoSession _ reply.Closed (ap is_none sat ∙ is_seated at t.session some) refl) in
      record {
        event = event.Close d;
        r = reply.Closed;
        asked = (is_close, of_closed);
        is_reply = ruled;
        stays = record {
          legal = more log (event.Close d) reply.Closed is.legal ruled;
          versions = is.versions;
          active = is.active;
          begun = is.begun;
        };
        own = ap (λ b. cond b None (session log d)) (eq-eqb d d refl);
        others = λ e apart. ap (λ b. cond b None (session log e)) (ne_eqb d e apart);
      }

  closed_so : d < s.desks → t.session ≡ None → IsCalledAs s n active ops log d (ask.Close, answer.Refused NoSession) t at
  closed_so inside none = record {
    event = event.Close d;
    r = reply.Refused cause.NoSession;
    asked = (is_close, of_no_session);
    is_reply =
        onward (nat_le s.desks d) cause.NoDesk _ (reply.Refused cause.NoSession) (le_false s.desks d inside)
        (refuse (is_none (session log d)) cause.NoSession _ (ap is_none (sat ∙ seat_in t at None none)));
    stays = is;
    own = sat;
    others = λ e apart. refl;
  }

pub calls_are_events : CallsAreEvents
calls_are_events s n active ops log d t _ at _ _ _ is sat sees (opens u v o) apart = sits_down s n active ops log d t at is sat u sees v o
calls_are_events s n active ops log d t _ at _ _ _ is sat sees (opens_none u f not) apart = opened_not s n active ops log d t at is sat sees.desk u f not apart
calls_are_events s n active ops log d t _ at _ _ _ is sat sees (shows u view limit page few reads) apart = turns s n active ops log d t at is sat u sees view limit page few reads
calls_are_events s n active ops log d t _ at _ _ _ is sat sees (shows_none u view limit f few not) apart = turns_not s n active ops log d t at is sat u sees view limit f few not apart
calls_are_events s n active ops log d t _ at _ _ _ is sat sees (closes some) apart = leaves s n active ops log d t at is sat sees.desk some
calls_are_events s n active ops log d t _ at _ _ _ is sat sees (closed_before none) apart = closed_so s n active ops log d t at is sat sees.desk none

-- ---- calls that are answered Away

pub away_or_not : (said : Answer) → (said ≡ answer.Refused Away) ⊎ (said ≢ answer.Refused Away)
away_or_not (answer.Session v) = inr (λ e. cc)
away_or_not (answer.Page page) = inr (λ e. cc)
away_or_not (answer.Rows rows) = inr (λ e. cc)
away_or_not answer.Closed = inr (λ e. cc)
away_or_not (answer.Refused NoSession) = inr (λ e. cc)
away_or_not (answer.Refused SessionOpen) = inr (λ e. cc)
away_or_not (answer.Refused (Expired v current b)) = inr (λ e. cc)
away_or_not (answer.Refused NoView) = inr (λ e. cc)
away_or_not (answer.Refused Memory) = inr (λ e. cc)
away_or_not (answer.Refused Away) = inl refl

-- they leave the desk and its reader as they were
pub away_stays : (t u : Sitting) (at later : Option Bookmark) (a : Ask) (said : Answer) → IsCall t at a said u later → said ≡ answer.Refused Away → (u ≡ t) × (later ≡ at)
away_stays t _ at _ _ _ (opens u v o) e = absurd (let f = e in cc)
away_stays t _ at _ _ _ (opens_none u fault not) e = let is : fault ≡ Away = (let f = e in cc) in ((subst (NotOpened t u) is not).0, refl)
away_stays t _ at _ _ _ (shows u view limit page few reads) e = absurd (let f = e in cc)
away_stays t _ at _ _ _ (shows_none u view limit fault few not) e =
    let is : fault ≡ Away = (let f = e in cc) in ((subst (NotRead t u view (goes_on view at) limit) is not).0, refl)
away_stays t _ at _ _ _ (closes some) e = absurd (let f = e in cc)
away_stays t _ at _ _ _ (closed_before none) e = absurd (let f = e in cc)
