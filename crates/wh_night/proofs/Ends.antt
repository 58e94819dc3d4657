-- How a night ends, by its commit or a give-up.
use Rattle.std.proofs.Common.{◌≡◌, ◌⊎◌, inl, inr, ⊎_elim, refl, sym, ap, subst, ◌∙◌, List, [], ◌∷◌, ◌++◌, length, Option, Some, None, Bool, true, false, arith}
use Rattle.std.specs.Prelude.{option_map, is_some, IsTrue}
use Rattle.std.specs.List.{list_all}
use Rattle.std.proofs.lemmas.Bool.{and_parts, false≢true}
use Rattle.std.proofs.lemmas.List.{append-nil, append_assoc}
use Rattle.wh_maint.specs.declared.fault.MaintFault.{MaintFault}
use Rattle.wh_maint.specs.declared.fault.MaintFault.TheVariants.{Memory}
use Rattle.wh_store.specs.Operations.{Operation, Opens, Writes, Commits, Gives_up}
use Rattle.wh_store.specs.Pages.{Contents}
use Rattle.wh_store.specs.Versions.{Versions, after, is_active, versions_from, versions_of, written_over}
use Rattle.wh_store.specs.Ledgers.{Ledger, closed, gone_out, is_busy, ledger, stays_open, versions_in, with_held}
use Rattle.wh_store.specs.Faults.{Ends, EndsLater}
use Rattle.wh_store.specs.declared.ended.Ended.{Ended}
use Rattle.wh_carry.specs.Night.{Night, AreAllowed}
use Rattle.wh_night.specs.Causes.{cause_of}
use Rattle.wh_night.specs.declared.cause.NightCause.{NightCause}
use Rattle.wh_night.specs.Tonight.{Begin_it, HasStopped, IsCut, IsDone, IsOpen, IsRefusedThere, goes_out, nothing, out_below, put, commit, give_up}
use Rattle.wh_night.specs.Inner.Underway.{IsPut, IsStopped, WaitsToCommit}
use Rattle.wh_night.proofs.Outs.{held_behind}
use Rattle.wh_night.proofs.Puts.{Opens_it, begins_at, begins_open, begins_shorter, front_begins, is_write, whole_out}

pub versions_append : (v : Versions) (a b : List Operation) → versions_from v (a ++ b) ≡ versions_from (versions_from v a) b
versions_append v [] b = refl
versions_append v (x ∷ a) b = versions_append (after v x) a b

-- what is written stays open
stays : (v : Versions) (c : Contents) (puts : List Operation) → v.draft ≡ Some c → list_all is_write puts ≡ true → is_active (versions_from v puts) ≡ true
stays v c [] e h = ap is_some e
stays v c (Opens ∷ puts) e h = absurd (false≢true (and_parts false (list_all is_write puts) h).0)
stays v c (Writes view rows ∷ puts) e h = stays (after v (Writes view rows)) (written_over view rows c) puts (ap (option_map (written_over view rows)) e) h
stays v c (Commits ∷ puts) e h = absurd (false≢true (and_parts false (list_all is_write puts) h).0)
stays v c (Gives_up ∷ puts) e h = absurd (false≢true (and_parts false (list_all is_write puts) h).0)

module _ (n : Night) (l m : Ledger) (fault : MaintFault) (cause : NightCause) (allowed : AreAllowed n) (told : cause ≡ cause_of fault) (u : IsStopped n l fault m) where
  beginning : Begin_it n (with_held u.ops u.held)
  beginning = front_begins n u.place (with_held u.ops u.held) u.rest u.within u.passed u.begins

  opened : Opens_it (with_held u.ops u.held)
  opened = begins_open n (with_held u.ops u.held) u.begun beginning

  -- what has gone out once what is held has
  gone : gone_out m ≡ l.list ++ with_held u.ops u.held
  gone = ap gone_out u.now ∙ held_behind l.list u.ops u.held

  same_warehouse : m.of ≡ l.of
  same_warehouse = ap (λ (m : Ledger). m.of) u.now

  is_open : stays_open m ≡ true
  is_open =
      (λ i. is_active (versions_in (same_warehouse i) (gone i)))
      ∙ ap (λ ops. is_active (versions_in l.of (l.list ++ ops))) opened.is
      ∙ ap is_active (versions_append (versions_of l.of.opening []) l.list (Opens ∷ opened.puts))
      ∙ stays (after (versions_of l.of.opening l.list) Opens) (versions_of l.of.opening l.list).newest opened.puts refl opened.write

  -- with what was held it stops where it stopped
  all_stopped : HasStopped n cause (with_held u.ops u.held)
  all_stopped = record {
    allowed = allowed;
    place = u.place;
    within = u.within;
    passed = u.passed;
    rest = u.rest;
    begins = u.begins;
    fault = fault;
    told = told;
    why = ⊎_elim (λ e. inl e) (λ r. inr (r.1, r.2)) u.why;
  }

  pub given_up_cuts : (o : Ledger) (answer : Ended) → Ends m o answer → IsCut n cause l o
  given_up_cuts o answer e = record {
    ops = with_held u.ops u.held;
    stopped = all_stopped;
    cut = record {
      puts = opened.puts;
      beginning = subst (Begin_it n) opened.is beginning;
      cut = ap (λ ops. ops ++ Gives_up ∷ []) opened.is;
    };
    now = e.0
        ∙ ap (λ b. ledger m.of (closed b (gone_out m)) None) is_open
        ∙ (λ i. ledger (same_warehouse i) (gone i ++ Gives_up ∷ []) None)
        ∙ (λ i. ledger l.of (append_assoc l.list (with_held u.ops u.held) (Gives_up ∷ []) i) None);
  }

  out_now : (o : Ledger) (held : Option Operation) → o ≡ ledger m.of (gone_out m) held → o ≡ goes_out l (with_held u.ops u.held) held
  out_now o held e = e ∙ (λ i. ledger (same_warehouse i) (gone i) held)

  -- nothing has gone out since
  same_open : (o : Ledger) (held : Option Operation) → o ≡ goes_out l u.ops held → IsTrue (is_busy o) → out_below n u.place ≡ with_held u.ops held ++ u.rest
      → (fault ≡ Memory) ⊎ ((held ≡ None) × (u.rest ≡ []) × IsRefusedThere n u.place fault) → Begin_it n (with_held u.ops held) → IsOpen n cause l o
  same_open o None now busy begins why b = record {
    ops = u.ops;
    held = None;
    stopped = record { allowed = allowed; place = u.place; within = u.within; passed = u.passed; rest = u.rest; begins = begins; fault = fault; told = told; why = ⊎_elim (λ e. inl e) (λ r. inr (r.1, r.2)) why };
    beginning = b;
    next = nothing;
    now = now;
    busy = busy;
  }
  same_open o (Some op) now busy begins why b = record {
    ops = u.ops;
    held = Some op;
    stopped = record {
      allowed = allowed;
      place = u.place;
      within = u.within;
      passed = u.passed;
      rest = op ∷ u.rest;
      begins = begins ∙ append_assoc u.ops (op ∷ []) u.rest;
      fault = fault;
      told = told;
      why = ⊎_elim (λ e. inl e) (λ r. absurd (let e : Some op ≡ None = r.0 in cc)) why;
    };
    beginning = begins_shorter n u.ops (op ∷ []) b;
    next = put op u.rest refl;
    now = now;
    busy = busy;
  }

  pub not_given_up : (o : Ledger) → EndsLater m o → IsOpen n cause l o
  not_given_up o e = ⊎_elim
      (λ same. same_open o u.held (same ∙ u.now) (subst (λ x. IsTrue (is_busy x)) (sym same) e.0) u.begins u.why beginning)
      (λ later. ⊎_elim
      (λ none. record {
        ops = with_held u.ops u.held;
        held = None;
        stopped = all_stopped;
        beginning = beginning;
        next = nothing;
        now = out_now o None none;
        busy = subst (λ x. IsTrue (is_busy x)) (sym none) later.0;
      })
      (λ end. record {
        ops = with_held u.ops u.held;
        held = Some Gives_up;
        stopped = all_stopped;
        beginning = beginning;
        next = give_up u.begun;
        now = out_now o (Some Gives_up) end;
        busy = subst (λ x. IsTrue (is_busy x)) (sym end) refl;
      })
      later.1)
      e.1

module _ (n : Night) (l m : Ledger) where
  -- the commit goes out
  pub committed : (o : Ledger) → IsPut n l m → o ≡ ledger m.of (m.list ++ Commits ∷ []) None → IsDone n l o
  committed o p e = record {
    ops = out_below n (length n.list) ++ Commits ∷ [];
    whole = whole_out n p.passed;
    now = e ∙ (λ i. ledger (p.out i).of ((p.out i).list ++ Commits ∷ []) None) ∙ (λ i. ledger l.of (append_assoc l.list (out_below n (length n.list)) (Commits ∷ []) i) None);
  }

  pub put_stops : IsPut n l m → IsStopped n l Memory m
  put_stops p = record {
    ops = out_below n (length n.list);
    held = None;
    now = p.out;
    begun = λ e. cc;
    place = length n.list;
    within = omega arith;
    passed = p.passed;
    rest = [];
    begins = sym (append-nil (out_below n (length n.list)));
    why = inl refl;
  }

  module _ (w : WaitsToCommit n l m) where
    gone_commit : gone_out m ≡ l.list ++ (out_below n (length n.list) ++ Commits ∷ [])
    gone_commit = ap gone_out w.out ∙ append_assoc l.list (out_below n (length n.list)) (Commits ∷ [])

    of_same : m.of ≡ l.of
    of_same = ap (λ (m : Ledger). m.of) w.out

    is_shut : stays_open m ≡ false
    is_shut =
        (λ i. is_active (versions_in (of_same i) (gone_commit i)))
        ∙ ap (λ ops. is_active (versions_in l.of ops)) (sym (append_assoc l.list (out_below n (length n.list)) (Commits ∷ [])))
        ∙ ap is_active (versions_append (versions_of l.of.opening []) (l.list ++ out_below n (length n.list)) (Commits ∷ []))

    pub held_commit : (o : Ledger) (answer : Ended) → Ends m o answer → IsDone n l o
    held_commit o answer e = record {
      ops = out_below n (length n.list) ++ Commits ∷ [];
      whole = whole_out n w.passed;
      now = e.0 ∙ ap (λ b. ledger m.of (closed b (gone_out m)) None) is_shut ∙ (λ i. ledger (of_same i) (gone_commit i) None);
    }

    pub still_held : (o : Ledger) (cause : NightCause) → cause ≡ cause_of Memory → AreAllowed n → EndsLater m o → IsOpen n cause l o
    still_held o cause told allowed e = ⊎_elim
        (λ same. record {
          ops = out_below n (length n.list);
          held = Some Commits;
          stopped = record {
            allowed = allowed;
            place = length n.list;
            within = omega arith;
            passed = w.passed;
            rest = [];
            begins = sym (append-nil (out_below n (length n.list)));
            fault = Memory;
            told = told;
            why = inl refl;
          };
          beginning = begins_at n (length n.list) (omega arith) w.passed;
          next = commit w.passed (whole_out n w.passed);
          now = same ∙ w.out;
          busy = subst (λ x. IsTrue (is_busy x)) (sym same) e.0;
        })
        (λ later. absurd (not_open (stays_open m) is_shut later.0))
        e.1
      where
        not_open : (b : Bool) → b ≡ false → IsTrue b → ⊥
        not_open b e t = false≢true (sym e ∙ t)
