-- That what a night publishes goes on with a list of running nights.
use Rattle.std.proofs.Common.{◌≡◌, ◌≢◌, refl, sym, ap, ◌∙◌, subst, ℕ, ◌+◌, ◌^◌, List, [], ◌∷◌, ◌++◌, Bool, true, false, cond, Some, None, ◌⊎◌, ⊎_elim, inl, inr}
use Rattle.std.specs.Prelude.{IsTrue, Option, is_some, option_map, slice_index_or, ◌==◌, ◌||◌}
use Rattle.std.proofs.lemmas.Bool.{eq-eqb, false≢true}
use Rattle.std.proofs.lemmas.List.{append-nil, append_assoc}
use Rattle.std.proofs.lemmas.Option.{get_or_from_slice_get, slice_get_within}
use Rattle.wh_maint.specs.Comp.{bag_at}
use Rattle.wh_store.specs.Operations.{Operation, Opens, Commits, Gives_up}
use Rattle.wh_store.specs.Versions.{Versions, after, is_active, number, opened, versions_of}
use Rattle.wh_store.specs.Faults.{EndsLater, fault_of}
use Rattle.wh_store.specs.declared.fault.StoreFault.TheVariants.{NightOpen, LastVersion}
use Rattle.wh_store.specs.declared.publish_fault.PublishFault.TheVariants.{Held}
use Rattle.wh_store.specs.Ledgers.{Ledger, Warehouse, closed, gone_out, is_busy, ledger, stays_open, versions_in}
use Rattle.wh_carry.specs.Night.{AreAllowed, HasEnded, Night}
use Rattle.wh_carry.proofs.NewValues.{passed_have_values}
use Rattle.wh_night.specs.Tonight.{Begin_it, HasStopped, IsNext, IsOpen, Leaves, goes_out, newest_in, out_below, tonight, nothing, put, commit, give_up}
use Rattle.wh_night.specs.declared.cause.NightCause.{NightCause}
use Rattle.wh_night.specs.declared.left.Aftermath.{Aftermath}
use Rattle.wh_night.specs.declared.left.Aftermath.TheVariants.{Untouched, GivenUp, StillOpen}
use Rattle.wh_core.proofs.Underway.{versions_from-append}
use Rattle.wh_core.specs.Nights.{GivenNight, Setup}
use Rattle.wh_headline.specs.RunningNights.{AreEndedNights, GoesOnAs, AreRunningNights, CanBegin, ComesNext, GoOn, NightsGoOn, night_after, one_more}
use Rattle.wh_headline.proofs.Beginnings.{begun_behind, headed}
use Rattle.wh_headline.proofs.SeenAlike.{beginning_alike, same_alike}

-- a Begin that is not refused makes a version whose number is not 2^64
not_last : (held active last : Bool) → cond held (Some Held) (option_map fault_of (cond active (Some NightOpen) (cond last (Some LastVersion) None))) ≡ None → last ≡ false
not_last true active last e = cc
not_last false true last e = cc
not_last false false true e = cc
not_last false false false e = refl

-- nor is a night open then
none_open : (held active last : Bool) → cond held (Some Held) (option_map fault_of (cond active (Some NightOpen) (cond last (Some LastVersion) None))) ≡ None → active ≡ false
none_open true active last e = cc
none_open false true last e = cc
none_open false false last e = refl

either : (held active : Bool) → IsTrue active → IsTrue (held || active)
either true active h = refl
either false active h = h

not_empty : (ops : List Operation) (op : Operation) → ops ++ op ∷ [] ≢ []
not_empty [] op e = cc
not_empty (o ∷ ops) op e = cc

module _ (s : Setup) (n keys : ℕ) (given : GivenNight) (l m : Ledger) (next : ComesNext s n keys given l) where
  abbrev night : Night
  night = tonight s.catalog given.list l given.changes keys

  same_tables : newest_in l ≡ (versions_of s.opening l.list).newest
  same_tables = ap (λ (of : Warehouse). (versions_in of l.list).newest) next.of

  same_night : night ≡ night_after s l.list n keys
  same_night =
      let none : GivenNight = record { changes = []; list = [] } in
      let found : given ≡ slice_index_or s.nights n none = sym (get_or_from_slice_get s.nights n given none next.is) in
      λ i. record { catalog = s.catalog; list = (found i).list; tables = bag_at (same_tables i); changes = bag_at (found i).changes; keys = keys }

  numbered : number (versions_of s.opening l.list) + 1 ≢ 2 ^ 64
  numbered =
      let free : (number (versions_in l.of l.list) + 1 == 2 ^ 64) ≡ false = not_last (is_some l.held) (is_some (versions_in l.of l.list).draft) (number (versions_in l.of l.list) + 1 == 2 ^ 64) next.free in
      λ e. false≢true (sym (ap (λ (of : Warehouse). number (versions_in of l.list) + 1 == 2 ^ 64) (sym next.of) ∙ free) ∙ eq-eqb (number (versions_of s.opening l.list) + 1) (2 ^ 64) e)

  can : AreAllowed night → CanBegin s l.list n keys
  can allowed = record {
    given = slice_get_within s.nights n given next.is;
    numbered = numbered;
    allowed = subst AreAllowed same_night allowed;
    some_keys = next.some_keys;
  }

  -- the list of one more night that ended
  ended : (ops : List Operation) → AreAllowed night → HasEnded night ops → m.list ≡ l.list ++ ops → AreEndedNights s (n + 1) m.list
  ended ops allowed has list =
      subst (AreEndedNights s (n + 1)) (sym list)
      (one_more n keys l.list ops next.ended (can allowed) (subst (λ k. HasEnded k ops) same_night has))

  open_so : (ops : List Operation) → AreAllowed night → Begin_it night ops → AreRunningNights s n false (l.list ++ ops) ⊎ AreRunningNights s (n + 1) true (l.list ++ ops)
  open_so ops allowed begins = begun_behind s n keys l.list ops next.ended (can allowed) (subst (λ k. Begin_it k ops) same_night begins)

  left : (cause : NightCause) (how : Aftermath) → Leaves night cause l how m → GoesOnAs s n l how m
  left cause Untouched same = same
  left cause GivenUp is = ended (is.ops ++ Gives_up ∷ []) is.stopped.allowed (inr is.cut) (ap (λ (x : Ledger). x.list) is.now)
  left cause StillOpen is =
      let list : l.list ++ is.ops ≡ m.list = ap (λ (x : Ledger). x.list) (sym is.now) in
      ⊎_elim
      (λ none. inl (subst (AreRunningNights s n false) list none))
      (λ one. inr (subst (AreRunningNights s (n + 1) true) list one))
      (open_so is.ops is.stopped.allowed is.beginning)

  -- ---- a night that was left open is ended

  not_active : is_active (versions_in l.of l.list) ≡ false
  not_active = none_open (is_some l.held) (is_active (versions_in l.of l.list)) (number (versions_in l.of l.list) + 1 == 2 ^ 64) next.free

  -- where a night is open behind these operations, it has begun
  has_begun : (ops : List Operation) → IsTrue (is_active (versions_in l.of (l.list ++ ops))) → ops ≢ []
  has_begun ops active e = false≢true (sym not_active ∙ ap (λ o. is_active (versions_in l.of o)) (sym (append-nil l.list) ∙ ap (λ o. l.list ++ o) (sym e)) ∙ active)

  begun_active : (ops : List Operation) → ops ≢ [] → Begin_it night ops → is_active (versions_in l.of (l.list ++ ops)) ≡ true
  begun_active [] some begins = absurd (some refl)
  begun_active (op ∷ puts) some begins =
      let v : Versions = versions_in l.of l.list in
      let head : op ≡ Opens = headed night op puts begins in
      let these : Begin_it night (Opens ∷ puts) = subst (λ o. Begin_it night (o ∷ puts)) head begins in
      ap (λ o. is_active (versions_in l.of (l.list ++ o ∷ puts))) head
      ∙ ap is_active (versions_from-append (opened l.of.opening) l.list (Opens ∷ puts))
      ∙ (beginning_alike night v v puts (same_alike v v refl) these).active

  cut_behind : (ops : List Operation) → ops ≢ [] → Begin_it night ops → HasEnded night (ops ++ Gives_up ∷ [])
  cut_behind [] some begins = absurd (some refl)
  cut_behind (op ∷ puts) some begins =
      let head : op ≡ Opens = headed night op puts begins in
      inr (record { puts = puts; beginning = subst (λ o. Begin_it night (o ∷ puts)) head begins; cut = ap (λ o. o ∷ puts ++ Gives_up ∷ []) head })

  -- the night is open behind these operations, and is given up
  given_up : (ops : List Operation) → AreAllowed night → ops ≢ [] → Begin_it night ops → m.list ≡ closed (is_active (versions_in l.of (l.list ++ ops))) (l.list ++ ops) → AreEndedNights s (n + 1) m.list
  given_up ops allowed some begins list =
      ended (ops ++ Gives_up ∷ []) allowed (cut_behind ops some begins)
      (list ∙ ap (λ b. closed b (l.list ++ ops)) (begun_active ops some begins) ∙ append_assoc l.list ops (Gives_up ∷ []))

  -- the night ends with the operation that was held
  ended_by : (ops : List Operation) (last : Operation) → AreAllowed night → HasEnded night (ops ++ last ∷ []) → ((v : Versions) → is_active (after v last) ≡ false)
      → m.list ≡ closed (is_active (versions_in l.of ((l.list ++ ops) ++ last ∷ []))) ((l.list ++ ops) ++ last ∷ []) → AreEndedNights s (n + 1) m.list
  ended_by ops last allowed has ends list =
      let none : is_active (versions_in l.of ((l.list ++ ops) ++ last ∷ [])) ≡ false =
      ap is_active (versions_from-append (opened l.of.opening) (l.list ++ ops) (last ∷ [])) ∙ ends (versions_in l.of (l.list ++ ops)) in
      ended (ops ++ last ∷ []) allowed has
      (list ∙ ap (λ b. closed b ((l.list ++ ops) ++ last ∷ [])) none ∙ append_assoc l.list ops (last ∷ []))

  later : (cause : NightCause) (ops : List Operation) (held : Option Operation) (stopped : HasStopped night cause ops) → Begin_it night ops → IsNext night ops stopped.rest held
      → IsTrue (is_busy (goes_out l ops held)) → m.list ≡ closed (stays_open (goes_out l ops held)) (gone_out (goes_out l ops held)) → AreEndedNights s (n + 1) m.list
  later cause ops _ stopped begins nothing busy list =
      given_up ops stopped.allowed (has_begun ops busy) begins list
  later cause ops _ stopped begins (put op more is) busy list =
      given_up (ops ++ op ∷ []) stopped.allowed (not_empty ops op)
      (record {
        place = stopped.place;
        within = stopped.within;
        values = λ p e below at. passed_have_values s.catalog (bag_at given.changes) _ e (stopped.passed p e below at);
        rest = more;
        begins = stopped.begins ∙ ap (λ o. ops ++ o) is ∙ sym (append_assoc ops (op ∷ []) more);
      })
      (list ∙ ap (λ o. closed (is_active (versions_in l.of o)) o) (append_assoc l.list ops (op ∷ [])))
  later cause ops _ stopped begins (commit passed whole) busy list = ended_by ops Commits stopped.allowed (inl (passed, whole)) (λ v. refl) list
  later cause ops _ stopped begins (give_up some) busy list = ended_by ops Gives_up stopped.allowed (cut_behind ops some begins) (λ v. refl) list

  -- ---- the end is put off

  -- no night is open behind an operation that ends it
  none_behind : (ops : List Operation) (last : Operation) → ((v : Versions) → is_active (after v last) ≡ false) → ¬ (IsTrue (is_active (versions_in l.of ((l.list ++ ops) ++ last ∷ []))))
  none_behind ops last ends active =
      false≢true (sym (ap is_active (versions_from-append (opened l.of.opening) (l.list ++ ops) (last ∷ [])) ∙ ends (versions_in l.of (l.list ++ ops))) ∙ active)

  -- the operation that was held has gone out, the night is open still, and its end is held or not
  open_still : (cause : NightCause) (ops : List Operation) (held end : Option Operation) (stopped : HasStopped night cause ops) → Begin_it night ops → IsNext night ops stopped.rest held
      → IsTrue (stays_open (goes_out l ops held)) → ((some : List Operation) (rest : List Operation) → some ≢ [] → IsNext night some rest end)
      → m ≡ ledger l.of (gone_out (goes_out l ops held)) end → IsOpen night cause l m
  open_still cause ops _ end stopped begins nothing active ends now = record {
    ops = ops;
    held = end;
    stopped = stopped;
    beginning = begins;
    next = ends ops stopped.rest (has_begun ops active);
    now = now;
    busy = subst (λ (x : Ledger). IsTrue (is_busy x)) (sym now) (either (is_some end) (is_active (versions_in l.of (l.list ++ ops))) active);
  }
  open_still cause ops _ end stopped begins (put op more is) active ends now = record {
    ops = ops ++ op ∷ [];
    held = end;
    stopped = record {
      allowed = stopped.allowed;
      place = stopped.place;
      within = stopped.within;
      passed = stopped.passed;
      rest = more;
      begins = goes_so;
      fault = stopped.fault;
      told = stopped.told;
      why = inl (⊎_elim (λ memory. memory) (λ over. absurd (not_none (sym is ∙ over.0))) stopped.why);
    };
    beginning = record {
      place = stopped.place;
      within = stopped.within;
      values = λ p e below at. passed_have_values s.catalog (bag_at given.changes) _ e (stopped.passed p e below at);
      rest = more;
      begins = goes_so;
    };
    next = ends (ops ++ op ∷ []) more (not_empty ops op);
    now = out;
    busy = subst (λ (x : Ledger). IsTrue (is_busy x)) (sym now) (either (is_some end) (is_active (versions_in l.of ((l.list ++ ops) ++ op ∷ []))) active);
  }
    where
      goes_so : out_below night stopped.place ≡ (ops ++ op ∷ []) ++ more
      goes_so = stopped.begins ∙ ap (λ o. ops ++ o) is ∙ sym (append_assoc ops (op ∷ []) more)

      out : m ≡ goes_out l (ops ++ op ∷ []) end
      out = now ∙ ap (λ o. ledger l.of o end) (append_assoc l.list ops (op ∷ []))

      not_none : op ∷ more ≢ []
      not_none e = cc
  open_still cause ops _ end stopped begins (commit passed whole) active ends now = absurd (none_behind ops Commits (λ v. refl) active)
  open_still cause ops _ end stopped begins (give_up some) active ends now = absurd (none_behind ops Gives_up (λ v. refl) active)

  put_off : (cause : NightCause) (k : Ledger) → IsOpen night cause l k → EndsLater k m → IsOpen night cause l m
  put_off cause k is later =
      ⊎_elim
      (λ same. subst (IsOpen night cause l) (sym same) is)
      (λ out.
      let active : IsTrue (stays_open (goes_out l is.ops is.held)) = subst (λ (x : Ledger). IsTrue (stays_open x)) is.now out.0 in
      let so : (end : Option Operation) → m ≡ ledger k.of (gone_out k) end → m ≡ ledger l.of (gone_out (goes_out l is.ops is.held)) end =
      λ end now. now ∙ ap (λ (x : Ledger). ledger x.of (gone_out x) end) is.now in
      ⊎_elim
      (λ none. open_still cause is.ops is.held None is.stopped is.beginning is.next active (λ some rest h. nothing) (so None none))
      (λ one. open_still cause is.ops is.held (Some Gives_up) is.stopped is.beginning is.next active (λ some rest h. give_up h) (so (Some Gives_up) one))
      out.1)
      later.1

  pub goes_on : GoOn s n keys given l m
  goes_on = record {
    done = λ is allowed passed. ended is.ops allowed (inl (passed, is.whole)) (ap (λ (x : Ledger). x.list) is.now);
    left = left;
    put_off = put_off;
    ended_later = λ cause k answer is ends.
        later cause is.ops is.held is.stopped is.beginning is.next (subst (λ (x : Ledger). IsTrue (is_busy x)) is.now is.busy)
        (ap (λ (x : Ledger). x.list) ends.0 ∙ ap (λ (x : Ledger). closed (stays_open x) (gone_out x)) is.now);
  }

pub go_on : NightsGoOn
go_on s n keys given l m next = goes_on s n keys given l m next
