-- Legal logs with desks that sit down, and read up to where their readers stand.
use Rattle.std.proofs.Common.{◌≡◌, ◌≢◌, refl, sym, ap, ◌∙◌, subst, ℕ, ℤ, zero, suc, ◌+◌, ◌<◌, ◌≤◌, List, [], ◌∷◌, ◌++◌, length, Bool, true, false, arith, cond, Option, Some, None, ◌⊎◌, ⊎_elim}
use Rattle.std.specs.Prelude.{is_some, nat_le, option_map, ◌&&◌}
use Rattle.std.proofs.lemmas.Bool.{cases_lt, eq-eqb, ne_eqb}
use Rattle.std.proofs.lemmas.List.{append_assoc}
use Rattle.wh_row.specs.Bag.{Bag, written}
use Rattle.wh_row.specs.Row.{Row}
use Rattle.wh_row.specs.Weigh.{Counted}
use Rattle.wh_store.specs.Operations.{Operation}
use Rattle.wh_store.specs.Pages.{Contents, Shown, page_of, rows_after}
use Rattle.wh_store.specs.Versions.{Versions, is_active, is_unexpired, kept_count, number, table_in, version, versions_of}
use Rattle.wh_store.specs.Readers.{Bookmark, bookmark_after, goes_on}
use Rattle.wh_core.specs.declared.event.Event.TheVariants as event
use Rattle.wh_core.specs.declared.reply.Cause.TheVariants as cause
use Rattle.wh_core.specs.declared.reply.Reply.TheVariants as reply
use Rattle.wh_core.specs.Laws.{IsSetup}
use Rattle.wh_core.specs.Log.{Log, SessionOf, Sat_down, Turned, is_open, nights_begun, session}
use Rattle.wh_core.specs.Nights.{Setup, published, versions}
use Rattle.wh_core.specs.Replies.{IsLegalLog, IsReply, more}
use Rattle.wh_core.proofs.Steps.{le_false, le_true, lt_true, onward}
use Rattle.wh_headline.specs.Alike.{row_read}
use Rattle.wh_headline.specs.RunningNights.{IsSeat}
use Rattle.wh_headline.proofs.Answered.{pages}
use Rattle.wh_headline.proofs.Rows.{all_after_none, behind_row, left_amid, one_row}

-- a legal log behind this one, in which nothing more is published, the desk has this session, and the others have theirs
record Serves (s : Setup) (log : Log) (d : ℕ) (seat : Option SessionOf) (later : Log) : Type 0 where
  legal : IsLegalLog s later
  published : published s later ≡ published s log
  active : is_open later ≡ is_open log
  begun : nights_begun later ≡ nights_begun log
  own : session later d ≡ seat
  others : (e : ℕ) → d ≢ e → session later e ≡ session log e

serves_then : (s : Setup) (log : Log) (d : ℕ) (seat next : Option SessionOf) (later last : Log) → Serves s log d seat later → Serves s later d next last → Serves s log d next last
serves_then s log d seat next later last a b = record {
  legal = b.legal;
  published = b.published ∙ a.published;
  active = b.active ∙ a.active;
  begun = b.begun ∙ a.begun;
  own = b.own;
  others = λ e apart. b.others e apart ∙ a.others e apart;
}

-- the version that is current can be read
readable : (k : ℕ) (v : Versions) → 2 ≤ k → is_unexpired k (number v) (is_active v) (number v) ≡ true
readable k v two =
    λ i. le_true (number v) (number v) (omega arith) i && lt_true (number v) (number v + kept_count k (is_active v)) (one_more (kept_count k (is_active v)) (one_kept (is_active v))) i
  where
    one_kept : (active : Bool) → 1 ≤ kept_count k active
    one_kept true = omega (arith, two)
    one_kept false = omega (arith, two)

    one_more : (c : ℕ) → 1 ≤ c → number v < number v + c
    one_more c l = omega (arith, l)

abbrev session_at : ℕ → Option Bookmark → SessionOf
session_at v mark = record { version = v; bookmark = mark }

-- there is a row at least
some_rows : (before rest : Counted) (e : Row × ℤ) → 0 < length (before ++ e ∷ rest)
some_rows [] rest e = omega arith
some_rows (x ∷ before) rest e = omega arith

module _ (s : Setup) (setup : IsSetup s) (d : ℕ) (inside : d < s.desks) where
  -- the desk sits down
  sits : (log : Log) → IsLegalLog s log → session log d ≡ None → Serves s log d (Some (session_at (number (versions s log)) None)) (Sat_down d (number (versions s log)) ∷ log)
  unfolding Rattle.wh_core.specs.Nights.published
  sits log legal free =
      let v : ℕ = number (versions s log) in
      let said : IsReply s log (event.Open d) (reply.Session v) =
      onward (nat_le s.desks d) cause.NoDesk _ (reply.Session v) (le_false s.desks d inside)
      (onward (is_some (session log d)) cause.SessionOpen _ (reply.Session v) (ap is_some free) refl) in
      record {
        legal = more log (event.Open d) (reply.Session v) legal said;
        published = refl;
        active = refl;
        begun = refl;
        own = ap (λ b. cond b (Some (session_at v None)) (session log d)) (eq-eqb d d refl);
        others = λ e apart. ap (λ b. cond b (Some (session_at v None)) (session log e)) (ne_eqb d e apart);
      }

  -- this version is current in this list, and has these contents
  record IsNow (v : ℕ) (contents : Contents) (ops : List Operation) : Type 0 where
    current : v ≡ number (versions_of s.opening ops)
    are : version (versions_of s.opening ops) v ≡ contents

  module _ (v view : ℕ) (contents : Contents) (there : view < length contents) where
    abbrev table : Bag
    table = table_in contents view

    abbrev next_row : Option Bookmark → Shown
    next_row mark = page_of table (goes_on view mark) 1

    -- it reads a page of one row
    turns : (log : Log) (mark : Option Bookmark) → IsLegalLog s log → IsNow v contents (published s log) → session log d ≡ Some (session_at v mark)
        → Serves s log d (Some (session_at v (bookmark_after view (next_row mark)))) (Turned d view (next_row mark) ∷ log)
    unfolding Rattle.wh_core.specs.Nights.published
    turns log mark legal now sat =
        let page : Shown = next_row mark in
        let turned : SessionOf → SessionOf = λ o. record { version = o.version; bookmark = bookmark_after view page } in
        let said : IsReply s log (event.Read d view 1) (reply.Page page) =
        onward (nat_le s.desks d) cause.NoDesk _ (reply.Page page) (le_false s.desks d inside)
        (pages s.versions (versions s log) view 1 v (session log d) page (omega arith) (omega arith) (sym (ap (option_map (λ (o : SessionOf). o.version)) sat))
        (subst (λ k. is_unexpired s.versions (number (versions s log)) (is_active (versions s log)) k ≡ true) (sym now.current) (readable s.versions (versions s log) setup.versions))
        (subst (λ (c : Contents). view < length c) (sym now.are) there)
        (λ i. page_of (table_in (sym now.are i) view) (row_read view (sym sat i)) 1)) in
        record {
          legal = more log (event.Read d view 1) (reply.Page page) legal said;
          published = refl;
          active = refl;
          begun = refl;
          own = ap (λ b. cond b (option_map turned (session log d)) (session log d)) (eq-eqb d d refl) ∙ ap (option_map turned) sat;
          others = λ e apart. ap (λ b. cond b (option_map turned (session log e)) (session log e)) (ne_eqb d e apart);
        }

    marked : (mark : Option Bookmark) (e : Row × ℤ) (rest : Counted) → rows_after table (goes_on view mark) ≡ e ∷ rest → 0 < length rest
        → bookmark_after view (next_row mark) ≡ Some (record { view = view; row = e.0 })
    marked mark e rest left some = one_row table view (goes_on view mark) e rest left some

    -- row by row it comes to each row that is not the last
    reads_to : (before done : Counted) (end next : Row × ℤ) (rest : Counted) (log : Log) (mark : Option Bookmark) → IsLegalLog s log → IsNow v contents (published s log)
        → session log d ≡ Some (session_at v mark) → written table ≡ done ++ (before ++ end ∷ next ∷ rest) → rows_after table (goes_on view mark) ≡ before ++ end ∷ next ∷ rest
        → (later : Log) × Serves s log d (Some (session_at v (Some (record { view = view; row = end.0 })))) later
    reads_to [] done end next rest log mark legal now sat whole left = (
      Turned d view (next_row mark) ∷ log,
      subst (λ m. Serves s log d (Some (session_at v m)) (Turned d view (next_row mark) ∷ log)) (marked mark end (next ∷ rest) left (omega arith)) (turns log mark legal now sat),
    )
    reads_to (e ∷ before) done end next rest log mark legal now sat whole left =
        let follow : Counted = before ++ end ∷ next ∷ rest in
        let here : Bookmark = record { view = view; row = e.0 } in
        let one = turns log mark legal now sat in
        let at : bookmark_after view (next_row mark) ≡ Some here = marked mark e follow left (some_rows before (next ∷ rest) end) in
        let moved : done ++ e ∷ follow ≡ (done ++ e ∷ []) ++ follow = sym (append_assoc done (e ∷ []) follow) in
        let going : goes_on view (Some here) ≡ Some e.0 = ap (λ b. cond b (Some e.0) None) (eq-eqb view view refl) in
        let last = reads_to before (done ++ e ∷ []) end next rest (Turned d view (next_row mark) ∷ log) (Some here) one.legal
        (subst (IsNow v contents) (sym one.published) now)
        (one.own ∙ ap (λ m. Some (session_at v m)) at)
        (whole ∙ moved)
        (ap (rows_after table) going ∙ behind_row table done follow e whole) in
        (last.0, serves_then s log d _ _ (Turned d view (next_row mark) ∷ log) last.0 one last.1)

  -- it sits down, and reads up to where its reader stands
  serve : (log : Log) (of : SessionOf) → IsLegalLog s log → session log d ≡ None → of.version ≡ number (versions s log) → IsSeat (versions s log) of → (later : Log) × Serves s log d (Some of) later
  serve log of legal free current seat = up_to of.bookmark refl
    where
      sat : Serves s log d (Some (session_at (number (versions s log)) None)) (Sat_down d (number (versions s log)) ∷ log)
      sat = sits log legal free

      up_to : (mark : Option Bookmark) → of.bookmark ≡ mark → (later : Log) × Serves s log d (Some of) later
      up_to None none =
          (Sat_down d (number (versions s log)) ∷ log, subst (λ o. Serves s log d (Some o) (Sat_down d (number (versions s log)) ∷ log)) (λ i. session_at (sym current i) (sym none i)) sat)
      up_to (Some mark) some =
          let left = seat.stands mark some in
          let contents : Contents = version (versions s log) of.version in
          let amid = left_amid (table_in contents mark.view) mark.view left.row left.limit mark left.left in
          let here : IsNow of.version contents (published s log) = record { current = current; are = refl } in
          let read = reads_to of.version mark.view contents left.view amid.before [] amid.end amid.next amid.rest (Sat_down d (number (versions s log)) ∷ log) None sat.legal
          (subst (IsNow of.version contents) (sym sat.published) here)
          (sat.own ∙ (λ i. Some (session_at (sym current i) None)))
          amid.split
          (all_after_none (written (table_in contents mark.view)) ∙ amid.split) in
          let same : session_at of.version (Some (record { view = mark.view; row = amid.end.0 })) ≡ of = λ i. session_at of.version ((ap (λ (row : Row). Some (record { view = mark.view; row = row })) amid.same ∙ sym some) i) in
          (read.0, serves_then s log d _ _ (Sat_down d (number (versions s log)) ∷ log) read.0 sat (subst (λ o. Serves s (Sat_down d (number (versions s log)) ∷ log) d (Some o) read.0) same read.1))

-- ---- all desks

-- a legal log behind which the desks below m sit as they should, and the others as before
pub record IsSeatedBelow (s : Setup) (log : Log) (seats : ℕ → Option SessionOf) (m : ℕ) (later : Log) : Type 0 where
  pub legal : IsLegalLog s later
  pub published : published s later ≡ published s log
  pub active : is_open later ≡ is_open log
  pub begun : nights_begun later ≡ nights_begun log
  pub seated : (d : ℕ) → d < m → session later d ≡ seats d
  pub waiting : (d : ℕ) → m ≤ d → session later d ≡ session log d

-- the desk should have a session of the version that is current now
pub record SitsNow (v : Versions) (seat : Option SessionOf) : Type 0 where
  pub of : SessionOf
  pub should : seat ≡ Some of
  pub current : of.version ≡ number v
  pub is : IsSeat v of

-- the desk's session is as it should be, or it has none and should have one of the version that is current
abbrev pub MaySit : Setup → Log → (ℕ → Option SessionOf) → ℕ → Type 0
MaySit s log seats d = (session log d ≡ seats d) ⊎ ((session log d ≡ None) × SitsNow (versions s log) (seats d))

module _ (s : Setup) (setup : IsSetup s) (log : Log) (seats : ℕ → Option SessionOf) where
  -- one desk more
  one_served : (m : ℕ) (later last : Log) → IsSeatedBelow s log seats m later → Serves s later m (seats m) last → IsSeatedBelow s log seats (suc m) last
  one_served m later last r one = record {
    legal = one.legal;
    published = one.published ∙ r.published;
    active = one.active ∙ r.active;
    begun = one.begun ∙ r.begun;
    seated = λ d l. ⊎_elim (λ k. one.others d (λ e. omega (arith, e, k)) ∙ r.seated d k) (λ k. let e : m ≡ d = omega (arith, k, l) in subst (λ x. session last x ≡ seats x) e one.own) (cases_lt d m);
    waiting = λ d l. one.others d (λ e. omega (arith, e, l)) ∙ r.waiting d (omega (arith, l));
  }

  served_one : (m : ℕ) (later : Log) → m < s.desks → IsSeatedBelow s log seats m later → MaySit s log seats m → (last : Log) × Serves s later m (seats m) last
  served_one m later inside r may =
      let here : session later m ≡ session log m = r.waiting m (omega arith) in
      let same : versions s log ≡ versions s later = ap (versions_of s.opening) (sym r.published) in
      ⊎_elim
      (λ so. (later, record { legal = r.legal; published = refl; active = refl; begun = refl; own = here ∙ so; others = λ e apart. refl }))
      (λ now.
      let sat = serve s setup m inside later now.1.of r.legal (here ∙ now.0) (now.1.current ∙ ap number same) (subst (λ v. IsSeat v now.1.of) same now.1.is) in
      (sat.0, subst (λ o. Serves s later m o sat.0) (sym now.1.should) sat.1))
      may

  served_below : IsLegalLog s log → ((d : ℕ) → d < s.desks → MaySit s log seats d) → (m : ℕ) → m ≤ s.desks → (later : Log) × IsSeatedBelow s log seats m later
  served_below legal may zero l = (
    log,
    record {
      legal = legal;
      published = refl;
      active = refl;
      begun = refl;
      seated = λ d k. absurd (omega (arith, k));
      waiting = λ d k. refl;
    },
  )
  served_below legal may (suc m) l =
      let inside : m < s.desks = omega (arith, l) in
      let r = served_below legal may m (omega (arith, l)) in
      let one = served_one m r.0 inside r.1 (may m inside) in
      (one.0, one_served m r.0 one.0 r.1 one.1)

  pub all_served : IsLegalLog s log → ((d : ℕ) → d < s.desks → MaySit s log seats d) → (later : Log) × IsSeatedBelow s log seats s.desks later
  all_served legal may = served_below legal may s.desks (omega arith)
