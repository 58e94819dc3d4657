-- That the lists of running nights have logs of the machine, with desks that sat down when their versions were current.
use Rattle.std.proofs.Common.{◌≡◌, ◌≢◌, refl, sym, ap, ◌∙◌, subst, ℕ, ◌+◌, ◌-◌, ◌<◌, ◌≤◌, ◌^◌, List, [], ◌∷◌, ◌++◌, length, Bool, true, false, arith, cond, Option, Some, None, ◌⊎◌, ⊎_elim, inl, inr}
use Rattle.std.specs.Prelude.{nat_le, nat_lt, option_map, slice_index_or}
use Rattle.std.proofs.lemmas.Bool.{and_parts, cases_lt, le-leb, leb-true}
use Rattle.std.proofs.lemmas.Option.{same_Some}
use Rattle.wh_carry.specs.NightList.{IsCutNight}
use Rattle.wh_carry.specs.Refused.{ArePassedBelow}
use Rattle.wh_store.specs.Laws.{VersionsStay}
use Rattle.wh_store.specs.Operations.{Operation, Opens, Gives_up}
use Rattle.wh_store.specs.Pages.{Contents, page_of}
use Rattle.wh_store.specs.Versions.{Versions, is_active, kept_count, number, opened, table_in, version, versions_from, versions_of}
use Rattle.wh_carry.specs.Night.{AreAllowed, HasEnded, IsWhole, Night}
use mathlib.Core.List.{IsPrefix}
use Rattle.wh_desk.specs.Askers.{IsHad}
use Rattle.wh_desk.specs.Desks.{Grows, SeenVersionsStay, Sitting, versions_seen}
use Rattle.wh_desk.specs.Inner.Desks.{IsPage}
use Rattle.wh_desk.proofs.Answering.{by_parts}
use Rattle.wh_desk.specs.Writers.{Writing}
use Rattle.wh_desk.proofs.Telling.{grows_on}
use Rattle.wh_store.specs.Ledgers.{Warehouse}
use Rattle.wh_store.specs.Readers.{Bookmark, bookmark_after}
use Rattle.wh_night.specs.Tonight.{Begin_it}
use Rattle.wh_core.specs.Laws.{IsSetup}
use Rattle.wh_core.specs.Log.{Log, SessionOf, Began, Gave_up, nights_begun, session}
use Rattle.wh_core.specs.Nights.{Setup, next_night, night_from, versions}
use Rattle.wh_core.specs.Replies.{nothing}
use Rattle.wh_core.proofs.NightLogs.{IsOneMore, cut_night, night_ops, open_night, whole_night}
use Rattle.wh_core.proofs.Underway.{versions_from-append}
use Rattle.wh_headline.specs.Alike.{AreAlike, AreSeenAlike}
use Rattle.wh_headline.specs.RunningNights.{AreEndedNights, AreRunningNights, AreSeats, CanBegin, DesksBesideNightsAnswerAsTheMachine, DesksThatLagAnswerAsTheMachine, HaveSeats, IsAnsweredFrom, IsLogOf, IsSeat, RunningNightsHaveALog, WasLeft, all_ended, night_after, none as no_nights, one_more as one_night_more, one_open, set_up_warehouse}
use Rattle.wh_headline.proofs.Answered.{answered}
use Rattle.wh_headline.proofs.Beginnings.{beginnings}
use Rattle.wh_headline.proofs.PageSizes.{any_pages}
use Rattle.wh_headline.proofs.Readers.{IsReader, is_reader}
use Rattle.wh_headline.proofs.SeenAlike.{alike_then, beginning_alike, cut_alike, cut_number, number_alike, same_alike, whole_alike, whole_number, whole_ops}
use Rattle.wh_headline.proofs.Served.{SitsNow, all_served}

-- ---- seats

-- of a session of a later version none
up_to : ℕ → Option SessionOf → Option SessionOf
up_to n None = None
up_to n (Some of) = cond (nat_le of.version n) (Some of) None

up_to_is : (n : ℕ) (o : Option SessionOf) (of : SessionOf) → up_to n o ≡ Some of → (o ≡ Some of) × (of.version ≤ n)
unfolding up_to
up_to_is n None of e = cc
up_to_is n (Some x) of e = elim (nat_le x.version n) as (λ b. nat_le x.version n ≡ b → cond b (Some x) None ≡ Some of → (Some x ≡ Some of) × (of.version ≤ n)) [
  | true ↦ λ t f. (f, subst (λ (y : SessionOf). y.version ≤ n) (same_Some x of f) (leb-true x.version n t))
  | false ↦ λ t f. cc
] refl e

-- a session that is none of those up to the version before is of this version
sits_now : (n now : ℕ) (v : Versions) (o : Option SessionOf) → now ≡ n + 1 → now ≡ number v → ((of : SessionOf) → o ≡ Some of → IsSeat v of) → (up_to n o ≡ o) ⊎ ((up_to n o ≡ None) × SitsNow v o)
unfolding up_to
sits_now n now v None e same are = inl refl
sits_now n now v (Some of) e same are = elim (nat_le of.version n) as (λ b. nat_le of.version n ≡ b → (cond b (Some of) None ≡ Some of) ⊎ ((cond b (Some of) None ≡ None) × SitsNow v (Some of))) [
  | true ↦ λ t. inl refl
  | false ↦ λ t.
      let is : IsSeat v of = are of refl in
      let most : of.version ≤ number v = is.there in
      let current : of.version ≡ number v =
      ⊎_elim (λ k. omega (arith, e, same, k, most)) (λ k. absurd (false_true (sym t ∙ le-leb of.version n k))) (cases_lt n of.version) in
      inr (refl, record { of = of; should = refl; current = current; is = is })
] refl
  where
    false_true : false ≡ true → ⊥
    false_true e = cc

-- versions that readers see alike have the same contents
same_version : (v w : Versions) → AreSeenAlike v w → (k : ℕ) → version v k ≡ version w k
same_version v w a k = λ i. slice_index_or (a.newest i ∷ a.older i) (length (a.older i) - k) []

-- so a session of one is one of the other
seat_alike : (v w : Versions) (of : SessionOf) → AreSeenAlike v w → IsSeat v of → IsSeat w of
seat_alike v w of a is = record {
  there = subst (λ n. of.version ≤ n) (number_alike v w a) is.there;
  stands = λ mark e. subst (λ contents. WasLeft contents mark) (same_version v w a of.version) (is.stands mark e);
}

-- a session of a version of a longer list is one of the list, where the version is there
seat_before : VersionsStay → (opening : Contents) (ops rest : List Operation) (of : SessionOf) → of.version ≤ number (versions_of opening ops) → IsSeat (versions_of opening (ops ++ rest)) of
    → IsSeat (versions_of opening ops) of
seat_before stay opening ops rest of least is = record {
  there = least;
  stands = λ mark e. subst (λ contents. WasLeft contents mark) (stay opening ops rest of.version least).1 (is.stands mark e);
}

-- ---- logs

abbrev AllPassed : Night → Type 0
AllPassed n = ArePassedBelow n.catalog n.list n.tables n.changes (length n.list)

-- a log of these operations in which the desks have these sessions
abbrev HasLog : Setup → ℕ → Bool → List Operation → (ℕ → Option SessionOf) → Type 0
HasLog s nights active ops seats = (log : Log) × IsLogOf s nights active ops log × HaveSeats s log seats

may_sit : (s : Setup) (log : Log) (d : ℕ) (early o : Option SessionOf) → session log d ≡ early → (early ≡ o) ⊎ ((early ≡ None) × SitsNow (versions s log) o)
    → (session log d ≡ o) ⊎ ((session log d ≡ None) × SitsNow (versions s log) o)
may_sit s log d early o seat h = ⊎_elim (λ e. inl (seat ∙ e)) (λ e. inr (seat ∙ e.0, e.1)) h

module _ (stay : VersionsStay) (s : Setup) (setup : IsSetup s) (some : 1 ≤ s.workers) where
  -- desks sit down whose sessions are of the version that is current, and read up to where their readers stand
  seat_all : (nights : ℕ) (ops : List Operation) (early seats : ℕ → Option SessionOf) (log : Log) → IsLogOf s nights false ops log → HaveSeats s log early
      → ((d : ℕ) → d < s.desks → (early d ≡ seats d) ⊎ ((early d ≡ None) × SitsNow (versions s log) (seats d))) → HasLog s nights false ops seats
  seat_all nights ops early seats log is sat may =
      let r = all_served s setup log seats is.legal (λ d l. may_sit s log d (early d) (seats d) (sat d l) (may d l)) in (
        r.0,
        record {
          legal = r.1.legal;
          versions = alike_then (versions_of s.opening ops) (versions s log) (versions s r.0) is.versions (same_alike (versions s log) (versions s r.0) (ap (versions_of s.opening) (sym r.1.published)));
          active = r.1.active ∙ is.active;
          begun = r.1.begun ∙ is.begun;
        },
        λ d l. r.1.seated d l,
      )

  module _ (n keys : ℕ) (ops : List Operation) (can : CanBegin s ops n keys) (log : Log) (is : IsLogOf s n false ops log) where
    abbrev given_night : Night
    given_night = night_after s ops n keys

    -- the machine's next night is this one, by pages of the machine's size
    same_night : next_night s log ≡ record given_night { keys = s.keys }
    same_night = λ i. night_from s (sym is.versions.newest i) (is.begun i)

    given : nights_begun log < length s.nights
    given = subst (λ k. k < length s.nights) (sym is.begun) can.given

    numbered : number (versions s log) + 1 ≢ 2 ^ 64
    numbered = subst (λ k. k + 1 ≢ 2 ^ 64) (number_alike (versions_of s.opening ops) (versions s log) is.versions) can.numbered

    allowed : AreAllowed (next_night s log)
    allowed = subst AreAllowed (sym same_night) can.allowed

    -- with one night more the log is one of these operations, where readers see alike what both publish
    one_more_log : (active : Bool) (last others : List Operation) (later : Log) → IsOneMore s log others active later
        → AreSeenAlike (versions_from (versions_of s.opening ops) last) (versions_from (versions s log) others) → IsLogOf s (n + 1) active (ops ++ last) later
    one_more_log active last others later more alike = record {
      legal = more.legal;
      versions =
          let v : Versions = versions_from (versions_of s.opening ops) last in
          let w : Versions = versions_from (versions s log) others in
          alike_then (versions_of s.opening (ops ++ last)) v (versions s later) (same_alike (versions_of s.opening (ops ++ last)) v (versions_from-append (opened s.opening) ops last))
          (alike_then v w (versions s later) alike (same_alike w (versions s later) (sym more.versions)));
      active = more.active;
      begun = more.begun ∙ ap (λ k. k + 1) is.begun;
    }

    opened_log : (seats : ℕ → Option SessionOf) (puts : List Operation) → HaveSeats s log seats → Begin_it given_night (Opens ∷ puts) → HasLog s (n + 1) true (ops ++ Opens ∷ puts) seats
    opened_log seats puts sat begins =
        let more = open_night s setup log is.legal is.active given numbered allowed in
        (Began ∷ log, one_more_log true (Opens ∷ puts) (Opens ∷ []) (Began ∷ log) more (beginning_alike given_night (versions_of s.opening ops) (versions s log) puts is.versions begins), λ d l. more.sessions d ∙ sat d l)

    -- a night that ended makes one version more
    pub record IsEndedLog (seats : ℕ → Option SessionOf) (last : List Operation) (later : Log) : Type 0 where
      pub is_log : IsLogOf s (n + 1) false (ops ++ last) later
      pub number : number (versions s later) ≡ number (versions s log) + 1
      pub sat : HaveSeats s later seats

    cut_log : (seats : ℕ → Option SessionOf) (last : List Operation) → HaveSeats s log seats → IsCutNight given_night.catalog given_night.list given_night.tables given_night.changes given_night.keys last
        → (later : Log) × IsEndedLog seats last later
    cut_log seats last sat cut =
        let more = cut_night s setup log is.legal is.active given numbered allowed in (
          Gave_up ∷ Began ∷ log,
          record {
            is_log = one_more_log false last (Opens ∷ Gives_up ∷ []) (Gave_up ∷ Began ∷ log) more (cut_alike given_night (versions_of s.opening ops) (versions s log) last is.versions cut);
            number = ap number more.versions ∙ cut_number (versions s log);
            sat = λ d l. more.sessions d ∙ sat d l;
          },
        )

    whole_log : (seats : ℕ → Option SessionOf) (last : List Operation) → HaveSeats s log seats → AllPassed given_night → IsWhole given_night last → (later : Log) × IsEndedLog seats last later
    whole_log seats last sat passed is_whole =
        let other : Night = record given_night { keys = s.keys } in
        let made = whole_night s setup log is.legal is.active given numbered allowed some (subst AllPassed (sym same_night) passed) in
        let v : Versions = versions_of s.opening ops in
        let w : Versions = versions s log in
        let these : versions_from v last ≡ versions_from v (night_ops other) =
        ap (versions_from v) (whole_ops given_night last passed is_whole.night_list) ∙ any_pages given_night s.keys v can.some_keys setup.some_keys in
        let others : night_ops other ≡ night_ops (next_night s log) = ap night_ops (sym same_night) in
        let alike : AreSeenAlike (versions_from v last) (versions_from w (night_ops (next_night s log))) =
        alike_then (versions_from v last) (versions_from v (night_ops other)) (versions_from w (night_ops (next_night s log)))
        (same_alike (versions_from v last) (versions_from v (night_ops other)) these)
        (alike_then (versions_from v (night_ops other)) (versions_from w (night_ops other)) (versions_from w (night_ops (next_night s log))) (whole_alike other v w is.versions)
        (same_alike (versions_from w (night_ops other)) (versions_from w (night_ops (next_night s log))) (ap (versions_from w) others))) in (
          made.0,
          record {
            is_log = one_more_log false last (night_ops (next_night s log)) made.0 made.1 alike;
            number = ap number made.1.versions ∙ whole_number (next_night s log) (versions s log);
            sat = λ d l. made.1.sessions d ∙ sat d l;
          },
        )

    ended_log : (seats : ℕ → Option SessionOf) (last : List Operation) → HaveSeats s log seats → HasEnded given_night last → (later : Log) × IsEndedLog seats last later
    ended_log seats last sat ended = ⊎_elim (λ whole. whole_log seats last sat whole.0 whole.1) (λ cut. cut_log seats last sat cut) ended

  pub ended_nights : (n : ℕ) (ops : List Operation) → AreEndedNights s n ops → (seats : ℕ → Option SessionOf) → AreSeats s ops seats → HasLog s n false ops seats
  unfolding Rattle.wh_core.specs.Nights.published
  ended_nights _ _ no_nights seats are =
      seat_all 0 [] (λ d. None) seats [] (record { legal = nothing; versions = same_alike (opened s.opening) (opened s.opening) refl; active = refl; begun = refl }) (λ d l. refl)
      (λ d l. from_opening (seats d) (λ of e. are d of l e))
    where
      from_opening : (o : Option SessionOf) → ((of : SessionOf) → o ≡ Some of → IsSeat (opened s.opening) of) → (None ≡ o) ⊎ ((◌≡◌ {A = Option SessionOf} None None) × SitsNow (opened s.opening) o)
      from_opening None most = inl refl
      from_opening (Some of) most = inr (refl, (let is = most of refl in let l : of.version ≤ 0 = is.there in let e : of.version ≡ 0 = omega (arith, l) in record { of = of; should = refl; current = e; is = is }))
  ended_nights _ _ (one_night_more n keys ops last before can ended) seats are =
      let v0 : Versions = versions_of s.opening ops in
      let v1 : Versions = versions_of s.opening (ops ++ last) in
      let early : ℕ → Option SessionOf = λ d. up_to (number v0) (seats d) in
      let r = ended_nights n ops before early
      (λ d of l e. let o = up_to_is (number v0) (seats d) of e in seat_before stay s.opening ops last of o.1 (are d of l o.0)) in
      let more = ended_log n keys ops can r.0 r.1 early last r.2 ended in
      let alike : AreSeenAlike v1 (versions s more.0) = more.1.is_log.versions in
      let now : number (versions s more.0) ≡ number v0 + 1 = more.1.number ∙ ap (λ k. k + 1) (sym (number_alike v0 (versions s r.0) r.1.versions)) in
      seat_all (n + 1) (ops ++ last) early seats more.0 more.1.is_log more.1.sat
      (λ d l. sits_now (number v0) (number (versions s more.0)) (versions s more.0) (seats d) now refl (λ of e. seat_alike v1 (versions s more.0) of alike (are d of l e)))

  pub running_nights : (nights : ℕ) (active : Bool) (ops : List Operation) → AreRunningNights s nights active ops → (seats : ℕ → Option SessionOf) → AreSeats s ops seats → HasLog s nights active ops seats
  running_nights _ _ _ (all_ended n ops ended) seats are = ended_nights n ops ended seats are
  running_nights _ _ _ (one_open n keys ops puts ended can begins) seats are =
      let v : Versions = versions_of s.opening ops in
      let same : number (versions_of s.opening (ops ++ Opens ∷ puts)) ≡ number v =
      ap number (versions_from-append (opened s.opening) ops (Opens ∷ puts))
      ∙ number_alike (versions_from v (Opens ∷ puts)) (versions_from v (Opens ∷ [])) (beginning_alike (night_after s ops n keys) v v puts (same_alike v v refl) begins) in
      let r = ended_nights n ops ended seats
      (λ d of l e. let is = are d of l e in seat_before stay s.opening ops (Opens ∷ puts) of (subst (λ m. of.version ≤ m) same is.there) is) in
      opened_log n keys ops can r.0 r.1 seats puts r.2 begins

pub have_a_log : VersionsStay → RunningNightsHaveALog
have_a_log stay s nights active ops seats setup some are seated = running_nights stay s setup some nights active ops are seats seated

-- ---- desks beside running nights

-- the session that a desk has, with the bookmark where its reader goes on
abbrev seat_of : Option Bookmark → Option ℕ → Option SessionOf
seat_of mark o = option_map (λ v. record { version = v; bookmark = mark }) o

seat_is : (mark : Option Bookmark) (o : Option ℕ) (of : SessionOf) → seat_of mark o ≡ Some of → (o ≡ Some of.version) × (of.bookmark ≡ mark)
seat_is mark None of e = cc
seat_is mark (Some v) of e =
    let same : record { version = v; bookmark = mark } ≡ of = same_Some (record { version = v; bookmark = mark }) of e in
    (ap (λ (x : SessionOf). Some x.version) same, sym (ap (λ (x : SessionOf). x.bookmark) same))

same_session : (mark : Option Bookmark) (of : Option SessionOf) (o : Option ℕ) → of ≡ seat_of mark o → o ≡ option_map (λ x. x.version) of
same_session mark of None e = ap (option_map (λ (x : SessionOf). x.version)) (sym e)
same_session mark of (Some v) e = ap (option_map (λ (x : SessionOf). x.version)) (sym e)

-- a desk of this warehouse that sees this list as it is answered
record SeesList (s : Setup) (ops : List Operation) (mark : Option Bookmark) (before after : Sitting) : Type 0 where
  warehouse : after.of ≡ set_up_warehouse s
  list : after.list ≡ ops
  reader : IsReader mark before
  grows : Grows before after

module _ (stay : SeenVersionsStay) (s : Setup) (ops : List Operation) (mark : Option Bookmark) (before after : Sitting) (is : SeesList s ops mark before after) where
  -- what the desk sees
  seen : versions_seen after ≡ versions_of s.opening ops
  seen = λ i. versions_of (is.warehouse i).opening (is.list i)

  opened_version : (v : ℕ) → before.session ≡ Some v → v ≤ number (versions_of s.opening ops)
  opened_version v e =
      let r = is.reader.opened v e in
      let current : v ≡ number (versions_seen r.1) = r.2.3 in
      let still : v ≤ number (versions_seen after) = (stay r.1 after v (grows_on r.1 before after r.3 is.grows) (omega (arith, current))).0 in
      subst (λ k. v ≤ k) (ap number seen) still

  left_in : (v : ℕ) (at : Bookmark) → before.session ≡ Some v → mark ≡ Some at → WasLeft (version (versions_of s.opening ops) v) at
  left_in v at sits stands =
      let g = is.reader.stands at stands in
      let same : g.reads.0 ≡ v = same_Some g.reads.0 v (sym g.reads.1.2 ∙ sym g.same_version ∙ sits) in
      let page : IsPage g.given v at.view g.row g.limit g.page = subst (λ k. IsPage g.given k at.view g.row g.limit g.page) same (by_parts g.given g.reads.0 at.view g.row g.limit g.page g.reads.2) in
      let current : ℕ = number (versions_seen g.given) in
      let there : v ≤ current = leb-true v current (and_parts (nat_le v current) (nat_lt current (v + kept_count g.given.of.limit (is_active (versions_seen g.given)))) page.0).0 in
      let on = grows_on g.given before after g.grows is.grows in
      let now : version (versions_seen g.given) v ≡ version (versions_of s.opening ops) v = sym (stay g.given after v on there).1 ∙ ap (λ w. version w v) seen in
      record {
        view = subst (λ (c : Contents). at.view < length c) now page.1;
        row = g.row;
        limit = g.limit;
        left = ap (λ (c : Contents). bookmark_after at.view (page_of (table_in c at.view) g.row g.limit)) (sym now) ∙ ap (bookmark_after at.view) (sym page.2) ∙ g.left;
      }

  -- so its session can be one of a log
  seat : (of : SessionOf) → seat_of mark before.session ≡ Some of → IsSeat (versions_of s.opening ops) of
  seat of e =
      let at = seat_is mark before.session of e in
      record {
        there = opened_version of.version at.0;
        stands = λ left stands. left_in of.version left at.0 (sym at.1 ∙ stands);
      }

-- desks that see one list
abbrev SeeOneList : Setup → List Operation → (ℕ → Option Bookmark) → (ℕ → Sitting) → (ℕ → Sitting) → Type 0
SeeOneList s ops marks before after = (d : ℕ) → d < s.desks → SeesList s ops (marks d) (before d) (after d)

-- one log has their sessions, and answers them
desks_at : VersionsStay → SeenVersionsStay → (s : Setup) (nights : ℕ) (active : Bool) (ops : List Operation) (marks : ℕ → Option Bookmark) (before after : ℕ → Sitting) → IsSetup s → 1 ≤ s.workers
    → AreRunningNights s nights active ops → SeeOneList s ops marks before after
    → (log : Log) × IsLogOf s nights active ops log × ((d : ℕ) → d < s.desks → IsAnsweredFrom s log d (marks d) (before d) (after d))
desks_at stay seen_stay s nights active ops marks before after setup some are desks =
    let r = have_a_log stay s nights active ops (λ d. seat_of (marks d) (before d).session) setup some are
    (λ d of l e. seat seen_stay s ops (marks d) (before d) (after d) (desks d l) of e) in (
      r.0,
      r.1,
      λ d l. (
          let is = desks d l in
          let alike : AreAlike s r.0 d (before d) (after d) = record {
            desk = l;
            session = same_session (marks d) (session r.0 d) (before d).session (r.2 d l);
            kept = ap (λ (of : Warehouse). of.limit) is.warehouse;
            versions = alike_then (versions_seen (after d)) (versions_of s.opening ops) (versions s r.0)
                (same_alike (versions_seen (after d)) (versions_of s.opening ops) (seen seen_stay s ops (marks d) (before d) (after d) is)) r.1.versions;
          } in
          record { session = r.2 d l; answered = answered s r.0 d (before d) (after d) alike }),
    )

-- ---- desks of a writer

-- of two lists that begin one another each is the whole of the other
same_list : (xs ys : List Operation) → IsPrefix xs ys → IsPrefix ys xs → xs ≡ ys
same_list [] [] p q = refl
same_list [] (y ∷ ys) p q = absurd (cc q.1)
same_list (x ∷ xs) [] p q = absurd (cc p.1)
same_list (x ∷ xs) (y ∷ ys) p q =
    let rest : xs ≡ ys = same_list xs ys (p.0, cc p.1) (q.0, cc q.1) in
    cc (p.1, rest)

-- what a desk saw begins what the writer has
pub had_list : (w : Writing) (here : Sitting) → IsHad w here → IsPrefix here.list w.ledger.list
had_list w here is = is.2

pub had_of : (s : Setup) (w : Writing) (here : Sitting) → w.ledger.of ≡ set_up_warehouse s → IsHad w here → here.of ≡ set_up_warehouse s
had_of s w here of is = is.1 ∙ of

pub desks_beside : VersionsStay → SeenVersionsStay → DesksBesideNightsAnswerAsTheMachine
desks_beside stay seen_stay s nights active w marks before after setup some of are desks =
    desks_at stay seen_stay s nights active w.ledger.list marks before after setup some are
    (λ d l. (
    let is = desks d l in
    record {
      warehouse = had_of s w (after d) of is.had;
      list = same_list (after d).list w.ledger.list (had_list w (after d) is.had) is.told;
      reader = is_reader (before d) (marks d) is.served;
      grows = is.grows;
    }))

-- a desk that lags, as if all desks were as it is
pub desks_that_lag : VersionsStay → SeenVersionsStay → DesksThatLagAnswerAsTheMachine
desks_that_lag stay seen_stay s nights active w d mark before after setup some of are l served grows had =
    let seen = beginnings s nights active w.ledger.list after.list are (had_list w after had) in
    let r = desks_at stay seen_stay s seen.0 seen.1 after.list (λ k. mark) (λ k. before) (λ k. after) setup some seen.3
    (λ k below. record { warehouse = had_of s w after of had; list = refl; reader = is_reader before mark served; grows = grows }) in
    (seen.0, seen.1, r.0, seen.2, r.1, r.2 d l)
