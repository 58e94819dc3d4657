-- That a running desk is answered as a desk of the machine over events.
use Rattle.std.proofs.Common.{◌≡◌, ◌≢◌, ℕ, ◌<◌, ◌≤◌, Bool, true, false, Option, Some, None, Result, Ok, Err, [], ◌∷◌, ◌-◌, refl, sym, ap, subst, ◌∙◌}
use mathlib.Core.Logic.{inl, inr}
use Rattle.std.specs.Prelude.{is_some, length, nat_le, option_map, slice_index_or}
use Rattle.wh_row.specs.Row.{Row}
use Rattle.std.proofs.lemmas.Bool.{lt-leb}
use Rattle.std.proofs.lemmas.Option.{same_Some}
use Rattle.wh_store.specs.Pages.{Shown, page_of}
use Rattle.wh_store.specs.Versions.{Versions, is_active, is_unexpired, number, table_of, version}
use Rattle.wh_store.specs.Readers.{Is_expired, No_such_view, Unread, goes_on, read_by}
use Rattle.wh_store.proofs.Answers.{shows, told, told_by}
use Rattle.wh_desk.specs.Desks.{Sitting, NotRead, answer_in, versions_seen}
use Rattle.wh_desk.specs.declared.chair.DeskFault.TheVariants.{Memory}
use Rattle.wh_core.specs.declared.event.Event.TheVariants.{Read}
use Rattle.wh_core.specs.declared.reply.Cause.{Cause}
use Rattle.wh_core.specs.declared.reply.Cause.TheVariants as cause
use Rattle.wh_core.specs.declared.reply.Reply.{Reply}
use Rattle.wh_core.specs.declared.reply.Reply.TheVariants as reply
use Rattle.wh_core.specs.Log.{Log, SessionOf, session}
use Rattle.wh_core.specs.Nights.{Setup, versions}
use Rattle.wh_core.specs.Replies.{IsReply, IsRuled, Ruling, Says, Takes, read_ruling, unless, unread_cause}
use Rattle.wh_headline.specs.Alike.{AreAlike, DesksAnswerAsTheMachine, IsAnsweredAlike, row_read}

passed : (b : Bool) (why : Cause) (then : Ruling) (r : Reply) → b ≡ false → IsRuled then r → IsRuled (unless b why then) r
passed true why then r e is = cc
passed false why then r e is = is

refused : (b : Bool) (why : Cause) (then : Ruling) → b ≡ true → IsRuled (unless b why then) (reply.Refused why)
refused true why then e = refl
refused false why then e = cc

no_session : (o : Option SessionOf) → None ≡ option_map (λ x. x.version) o → o ≡ None
no_session None e = refl
no_session (Some x) e = cc

some_session : (o : Option SessionOf) (v : ℕ) → Some v ≡ option_map (λ x. x.version) o → is_some o ≡ true
some_session None v e = cc
some_session (Some x) v e = refl

any_session : (o : Option ℕ) (of : Option SessionOf) → o ≡ option_map (λ x. x.version) of → o ≢ None → is_some of ≡ true
any_session o None e not = absurd (not e)
any_session o (Some x) e not = refl

-- the ruling of a read that is refused for this reason
abbrev unread : Unread → Ruling
unread why = Says (reply.Refused (unread_cause why))

-- the ruling of a read that comes to this
abbrev read_as : Result Shown Unread → Ruling
read_as = told_by unread Takes

-- a read in a session of this version comes to what the ruling says
ruled : (kept : ℕ) (vs : Versions) (view limit v : ℕ) (of : Option SessionOf) (said : Result Shown Unread) → Some v ≡ option_map (λ x. x.version) of
    → read_by Err Ok kept (number vs) (is_active vs) (version vs v) v view (row_read view of) limit ≡ said → read_ruling kept vs view limit of ≡ read_as said
ruled kept vs view limit v None said e is = cc
ruled kept vs view limit v (Some x) said e is =
    told kept (number vs) (is_active vs) (version vs x.version) x.version view (goes_on view x.bookmark) limit unread Takes
    ∙ ap read_as (subst (λ n. read_by Err Ok kept (number vs) (is_active vs) (version vs n) n view (goes_on view x.bookmark) limit ≡ said) (same_Some v x.version e) is)

pub pages : (kept : ℕ) (vs : Versions) (view limit v : ℕ) (of : Option SessionOf) (page : Shown) → 1 ≤ limit → limit ≤ 256 → Some v ≡ option_map (λ x. x.version) of
    → is_unexpired kept (number vs) (is_active vs) v ≡ true → view < length (version vs v) → page ≡ page_of (table_of vs v view) (row_read view of) limit
    → IsRuled (read_ruling kept vs view limit of) (reply.Page page)
pages kept vs view limit v of page some few e readable there is =
    let shown : Result Shown Unread = Ok (page_of (table_of vs v view) (row_read view of) limit) in
    subst (λ (x : Ruling). IsRuled x (reply.Page page))
    (sym (ruled kept vs view limit v of shown e (shows kept (number vs) (is_active vs) (version vs v) v view (row_read view of) limit readable there some few)))
    (inl (ap reply.Page is))

module _ (s : Setup) (log : Log) (d : ℕ) (before after : Sitting) (are : AreAlike s log d before after) where
  abbrev of : Option SessionOf
  of = session log d

  desk : nat_le s.desks d ≡ false
  desk = lt-leb s.desks d are.desk

  same_session : (o : Option ℕ) → before.session ≡ o → o ≡ option_map (λ x. x.version) of
  same_session o e = sym e ∙ are.session

  abbrev seen : Versions
  seen = versions_seen after

  abbrev now : Versions
  now = versions s log

  same_number : number seen ≡ number now
  same_number = ap length are.versions.older

  same_version : (v : ℕ) → version seen v ≡ version now v
  same_version v = λ i. slice_index_or (are.versions.newest i ∷ are.versions.older i) (length (are.versions.older i) - v) []

  -- it reads what the log's versions have
  same_answer : (v view limit : ℕ) (row : Option Row) → answer_in after v view row limit ≡ read_by Err Ok s.versions (number now) (is_active now) (version now v) v view row limit
  unfolding answer_in
  same_answer v view limit row = λ i. read_by Err Ok (are.kept i) (same_number i) (are.versions.active i) (same_version v i) v view row limit

  replied : (v view limit : ℕ) (said : Result Shown Unread) (r : Reply) → before.session ≡ Some v → answer_in after v view (row_read view of) limit ≡ said → IsRuled (read_as said) r
      → IsReply s log (Read d view limit) r
  replied v view limit said r sits is h =
      passed (nat_le s.desks d) cause.NoDesk _ r desk
      (subst (λ (x : Ruling). IsRuled x r)
      (sym (ruled s.versions now view limit v of said (same_session (Some v) sits) (sym (same_answer v view limit (row_read view of)) ∙ is)))
      h)

  pub memory : (view limit : ℕ) → NotRead before after view (row_read view of) limit Memory → IsReply s log (Read d view limit) (reply.Refused cause.Memory)
  memory view limit r = replied r.0 view limit (Ok r.2.0) (reply.Refused cause.Memory) r.1.1 r.2.1 (inr (r.2.2, refl))

  pub alike : IsAnsweredAlike s log d before after
  alike = record {
    opens = λ v o.
        (let none = no_session of (same_session None o.1) in
        passed (nat_le s.desks d) cause.NoDesk _ (reply.Session v) desk
        (passed (is_some of) cause.SessionOpen (Says (reply.Session (number (versions s log)))) (reply.Session v) (ap is_some none)
        (ap reply.Session (o.3 ∙ same_number))));
    open_already = λ o.
        passed (nat_le s.desks d) cause.NoDesk _ (reply.Refused cause.SessionOpen) desk
        (refused (is_some of) cause.SessionOpen _ (any_session before.session of are.session o.1));
    reads = λ view limit page some few r. replied r.0 view limit (Ok page) (reply.Page page) r.1.1 r.2 (inl refl);
    expired = λ view limit v current active r. replied r.0 view limit (Err (Is_expired v current active)) (reply.Refused (cause.Expired v current active)) r.1.1 r.2 refl;
    no_view = λ view limit r. replied r.0 view limit (Err No_such_view) (reply.Refused cause.NoView) r.1.1 r.2 refl;
    no_session = λ view limit r.
        passed (nat_le s.desks d) cause.NoDesk _ (reply.Refused cause.NoSession) desk
        (subst (λ o. IsRuled (read_ruling s.versions (versions s log) view limit o) (reply.Refused cause.NoSession)) (sym (no_session of (same_session None r.1))) refl);
  }

pub answered : DesksAnswerAsTheMachine
answered s log d before after are = alike s log d before after are
