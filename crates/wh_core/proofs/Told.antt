-- Which events are refused for what the expressions of a night come to.
use Rattle.std.proofs.Common.{◌≡◌, refl, sym, ap, ◌∙◌, subst, ℕ, zero, suc, ◌+◌, ◌-◌, ◌<◌, ◌≤◌, ◌^◌, List, [], ◌∷◌, ◌++◌, length, Bool, true, false, not, arith, Option, Some, None, ◌⊎◌, ⊎_elim, inl, inr}
use Rattle.std.specs.Prelude.{◌==◌, ◌||◌, is_none, is_some, nat_le, nat_lt}
use Rattle.std.specs.List.{All, range_with_len}
use Rattle.std.proofs.lemmas.Bool.{cases_lt, eqb-true, false≢true}
use Rattle.wh_dag.specs.Shape.{Distinct, has}
use Rattle.wh_maint.specs.declared.fault.MaintFault.{MaintFault}
use Rattle.wh_store.specs.Pages.{Shown, page_of}
use Rattle.wh_store.specs.Versions.{is_active, is_unexpired, number, table_of, version}
use Rattle.wh_store.specs.Readers.{goes_on}
use Rattle.wh_carry.specs.Night.{Night, ArePassedAt, IsFaultAt, IsFirstFaultOf, IsPassedAt, places_from, AreAllowed}
use Rattle.wh_carry.specs.Legs.{Leg, Wave, Turn, In_wave, At_page, Over, after_done, after_page, carried_up_to, is_last, legs_of, turn_at, turn_of, untouched}
use Rattle.wh_carry.proofs.Places.{places_are}
use Rattle.wh_core.specs.declared.event.Event.{Event}
use Rattle.wh_core.specs.declared.event.Event.TheVariants.{Begin, Take, Done, PageIn, Commit, GiveUp, Open, Read, Close}
use Rattle.wh_core.specs.declared.reply.Cause.{Cause}
use Rattle.wh_core.specs.declared.reply.Cause.TheVariants as cause
use Rattle.wh_core.specs.declared.reply.Reply.{Reply}
use Rattle.wh_core.specs.declared.reply.Reply.TheVariants as reply
use Rattle.wh_core.specs.Laws.{IsBefore, IsToldInTurn, RefusalsAreToldInTurn, after_inst, after_wave, before_first, is_of_rows, of_base, of_job}
use Rattle.wh_core.specs.Log.{Log, SessionOf, holding, is_open, nights_begun, pages, session}
use Rattle.wh_core.specs.Nights.{Setup, next_night, night, published, remaining, remaining_in, turn, versions}
use Rattle.wh_core.specs.Replies.{IsCarried, IsLegalLog, IsReply, IsRuled, Ruling, Says, Takes, Puts, carried_by_done, cause_of, commit_ruling, done_by, page_ruling, read_ruling, take_ruling, unless}
use Rattle.wh_core.specs.Standing.{IsWithin}
use Rattle.wh_core.proofs.Deeds.{deeds_of, not_false}
use Rattle.wh_core.proofs.Underway.{Underway, all-head, all-tail, all_below, head_or, night-began, night-paged, now, of_legs, start_of, underway, wave_legs, wave_place}

-- ---- places

-- a place among consecutive ones, and the earlier of them
split_within : (a m : ℕ) (earlier : List ℕ) (p : ℕ) (later : List ℕ) → range_with_len a m ≡ earlier ++ p ∷ later → (a ≤ p) × (p < a + m)
split_within a zero [] p later e = cc
split_within a zero (x ∷ earlier) p later e = cc
split_within a (suc m) [] p later e = let here : a ≡ p = cc in (omega (arith, here), omega (arith, here))
split_within a (suc m) (x ∷ earlier) p later e =
    let rest : range_with_len (a + 1) m ≡ earlier ++ p ∷ later = cc in
    let r = split_within (a + 1) m earlier p later rest in
    let lo = r.0 in
    let hi = r.1 in
    (omega (arith, lo), omega (arith, hi))

split_passed : (P : ℕ → Type 0) (a m : ℕ) (earlier : List ℕ) (p : ℕ) (later : List ℕ) → range_with_len a m ≡ earlier ++ p ∷ later → All P earlier → (q : ℕ) → a ≤ q → q < p → P q
split_passed P a zero [] p later e all q l k = cc
split_passed P a zero (x ∷ earlier) p later e all q l k = cc
split_passed P a (suc m) [] p later e all q l k = let here : a ≡ p = cc in absurd (omega (arith, here, l, k))
split_passed P a (suc m) (x ∷ earlier) p later e all q l k =
    let here : a ≡ x = cc in
    let rest : range_with_len (a + 1) m ≡ earlier ++ p ∷ later = cc in
    ⊎_elim
    (λ above. split_passed P (a + 1) m earlier p later rest (all-tail P x earlier all) q (omega (arith, above)) k)
    (λ below. let same : x ≡ q = omega (arith, here, below, l) in subst P same (all-head P x earlier all))
    (cases_lt a q)

-- among the places from one on, below another, the first that is refused
record IsStop (n : Night) (a b : ℕ) (f : MaintFault) : Type 0 where
  place : ℕ
  least : a ≤ place
  below : place < b
  passed : (q : ℕ) → a ≤ q → q < place → IsPassedAt n q
  refused : IsFaultAt n place f

stop_of : (n : Night) (a b : ℕ) (f : MaintFault) → IsFirstFaultOf n (places_from a b) f → IsStop n a b f
stop_of n a b f first =
    let split : range_with_len a (b - a) ≡ first.earlier ++ first.place ∷ first.later = sym (places_are a b) ∙ first.split in
    let within = split_within a (b - a) first.earlier first.place first.later split in
    let lo = within.0 in
    let hi = within.1 in
    record {
      place = first.place;
      least = lo;
      below = omega (arith, lo, hi);
      passed = λ q l k. split_passed (IsPassedAt n) a (b - a) first.earlier first.place first.later split first.passed q l k;
      refused = first.refused;
    }

-- the first of some places is refused, or it is passed and one of the others is refused first
one_or_later : (n : Night) (x : ℕ) (xs : List ℕ) (f : MaintFault) → IsFirstFaultOf n (x ∷ xs) f → IsFaultAt n x f ⊎ (IsPassedAt n x × IsFirstFaultOf n xs f)
one_or_later n x xs f first = by first.earlier first.place first.later first.split first.passed first.refused
  where
    by : (earlier : List ℕ) (p : ℕ) (later : List ℕ) → x ∷ xs ≡ earlier ++ p ∷ later → ArePassedAt n earlier → IsFaultAt n p f → IsFaultAt n x f ⊎ (IsPassedAt n x × IsFirstFaultOf n xs f)
    by [] p later e passed refused = let here : p ≡ x = cc in inl (subst (λ p. IsFaultAt n p f) here refused)
    by (y ∷ earlier) p later e passed refused =
        let here : y ≡ x = cc in
        let rest : xs ≡ earlier ++ p ∷ later = cc in
        inr (
          subst (IsPassedAt n) here (all-head (IsPassedAt n) y earlier passed),
          record {
            earlier = earlier;
            place = p;
            later = later;
            split = rest;
            passed = all-tail (IsPassedAt n) y earlier passed;
            refused = refused;
          },
        )

-- where a job is the last of its wave, a fault is its own or one behind the wave, and else its own
own_or_behind : (n : Night) (place jobs job : ℕ) (last : Bool) (next : Turn) (f : MaintFault) → IsFirstFaultOf n (carried_by_done n place jobs job last next) f
    → IsFaultAt n (place + job) f ⊎ (IsPassedAt n (place + job) × IsFirstFaultOf n (places_from (place + jobs) (carried_up_to n next)) f × (last ≡ true))
own_or_behind n place jobs job true next f first = ⊎_elim (λ own. inl own) (λ later. inr (later.0, later.1, refl)) (one_or_later n (place + job) (places_from (place + jobs) (carried_up_to n next)) f first)
own_or_behind n place jobs job false next f first = ⊎_elim (λ own. inl own) (λ later. absurd (none_first later.1.earlier later.1.place later.1.later later.1.split)) (one_or_later n (place + job) [] f first)
  where
    none_first : (earlier : List ℕ) (p : ℕ) (later : List ℕ) → [] ≡ earlier ++ p ∷ later → ⊥
    none_first [] p later e = cc
    none_first (x ∷ earlier) p later e = cc

before_turn : (n : Night) (t : Turn) (p : ℕ) → p < carried_up_to n t → IsBefore n t p
before_turn n (In_wave first jobs drawn) p l = l
before_turn n (At_page inst view rows) p l = omega (arith, l)
before_turn n Over p l = l

-- ---- rulings

-- a refusal for such a cause is none for another
not_other : (why other : Cause) → is_of_rows why ≡ true → is_of_rows other ≡ false → ¬ (reply.Refused why ≡ reply.Refused other)
not_other why other is apart e = let same : why ≡ other = cc in false≢true (sym apart ∙ ap is_of_rows (sym same) ∙ is)

onwards : (b : Bool) (c : Cause) (rest : Ruling) (why : Cause) → is_of_rows why ≡ true → is_of_rows c ≡ false → IsRuled (unless b c rest) (reply.Refused why) → (b ≡ false) × IsRuled rest (reply.Refused why)
onwards true c rest why is apart h = absurd (not_other why c is apart h)
onwards false c rest why is apart h = (refl, h)

-- an event that carries out expressions is refused so for the first fault among them
carried_fault : (n : Night) (places : List ℕ) (said : Reply) (why : Cause) → ¬ (reply.Refused why ≡ said) → IsCarried n places said (reply.Refused why)
    → (f : MaintFault) × IsFirstFaultOf n places f × (cause_of f ≡ why)
carried_fault n places said why apart h =
    ⊎_elim
    (λ p. absurd (apart p.1))
    (λ f. (f.0, f.1, (let same : cause_of f.0 ≡ why = named (cause_of f.0) f.2 in same)))
    h
  where
    named : (c : Cause) → reply.Refused why ≡ reply.Refused c → c ≡ why
    named c e = cc

puts_fault : (n : Night) (places : List ℕ) (said : Reply) (why : Cause) → is_of_rows why ≡ true → ¬ (reply.Refused why ≡ said) → IsRuled (Puts n places said) (reply.Refused why)
    → (f : MaintFault) × IsFirstFaultOf n places f × (cause_of f ≡ why)
puts_fault n places said why is apart h = ⊎_elim (λ c. carried_fault n places said why apart c) (λ m. absurd (not_other why cause.Memory is refl m)) h

-- what the law says of one refusal
abbrev Told : Setup → Log → Event → Cause → Type 0
Told s log event why = (f : MaintFault) × (cause_of f ≡ why) × IsToldInTurn s log f event

module _ (s : Setup) (log : Log) (why : Cause) (is : is_of_rows why ≡ true) where
  begin_told : IsReply s log Begin (reply.Refused why) → Told s log Begin why
  begin_told h =
      let a = onwards (is_open log) cause.NightOpen _ why is refl h in
      let b = onwards (nat_le (length s.nights) (nights_begun log)) cause.NoNight _ why is refl a.1 in
      let c = onwards (number (versions s log) + 1 == 2 ^ 64) cause.LastVersion _ why is refl b.1 in
      ⊎_elim
      (λ k. ⊎_elim (λ carried. of_first k.0 (carried_fault (next_night s log) _ reply.Begun why (λ e. cc) carried)) (λ m. absurd (not_other why cause.Memory is refl m)) k.1)
      (λ f. ⊎_elim (λ e. (f.0, named (cause_of f.0) e, of_base f.1)) (λ m. absurd (not_other why cause.Memory is refl m.1)) f.2)
      c.1
    where
      named : (c : Cause) → reply.Refused why ≡ reply.Refused c → c ≡ why
      named c e = cc

      of_first : AreAllowed (next_night s log) → (f : MaintFault) × IsFirstFaultOf (next_night s log) (places_from 0 (carried_up_to (next_night s log) (turn_of (untouched (legs_of (next_night s log)))))) f × (cause_of f ≡ why) → Told s log Begin why
      of_first allowed f =
          let stop = stop_of (next_night s log) 0 (carried_up_to (next_night s log) (turn_of (untouched (legs_of (next_night s log))))) f.0 f.1 in
          let before : IsBefore (next_night s log) (turn_of (untouched (legs_of (next_night s log)))) stop.place = before_turn (next_night s log) (turn_of (untouched (legs_of (next_night s log)))) stop.place stop.below in
          let passed : (q : ℕ) → q < stop.place → IsPassedAt (next_night s log) q = λ q l. stop.passed q (omega arith) l in
          (f.0, f.2, before_first stop.place allowed (subst (λ m. IsBefore (next_night s log) (turn_of (untouched (legs_of m))) stop.place) (sym (night-began s log)) before) (record { passed = passed; refused = stop.refused }))

  no_take : (t : Turn) → ¬ (IsRuled (take_ruling t) (reply.Refused why))
  no_take (In_wave place jobs drawn) h = let a = onwards (nat_le jobs drawn) cause.NoJob (Says (reply.Job drawn)) why is refl h in let e : reply.Refused why ≡ reply.Job drawn = a.1 in cc
  no_take (At_page place view rows) h = not_other why cause.NoJob is refl h
  no_take Over h = not_other why cause.NoJob is refl h

  take_told : (w : ℕ) → IsReply s log (Take w) (reply.Refused why) → Told s log (Take w) why
  take_told w h =
      let a = onwards (nat_le s.workers w) cause.NoWorker _ why is refl h in
      let b = onwards (not (is_open log)) cause.NoNight _ why is refl a.1 in
      let c = onwards (is_some (holding log w)) cause.Busy _ why is refl b.1 in
      absurd (no_take (turn s log) c.1)

  module _ (legal : IsLegalLog s log) (opened : is_open log ≡ true) where
    abbrev n : Night
    n = night s log

    abbrev a : Underway s log
    a = underway s log (deeds_of s log legal) opened

    now_is : turn s log ≡ turn_at a.rest a.drawn
    now_is = now n (start_of s log) (published s log) (remaining s log) (pages log) (holding log) _ _ a

    -- what stands before the turn is passed
    passed_before : (t : Turn) → turn s log ≡ t → (q : ℕ) → q < carried_up_to n t → IsPassedAt n q
    passed_before t e q l = a.passes q (subst (λ t. q < carried_up_to n t) (sym e ∙ now_is) l)

    module _ (w job first jobs drawn : ℕ) (at : turn s log ≡ In_wave first jobs drawn) (held : holding log w ≡ Some job) where
      abbrev next : Turn
      next = turn_of (after_done (remaining s log))

      wave : (later : List Leg) × (a.rest ≡ Wave first jobs ∷ later) × (a.drawn ≡ drawn)
      wave = wave_legs a.rest a.drawn first jobs drawn (sym now_is ∙ at)

      within : (a.drawn ≤ jobs) × (a.ended < jobs)
      within = subst (λ legs. IsWithin legs a.drawn a.ended) wave.1 a.within

      -- a Done is the last of the wave only where this job is the last that was not done
      last_job : is_last (remaining s log) ≡ true → a.ended + 1 ≡ jobs
      last_job e = eqb-true (a.ended + 1) jobs (sym (ap is_last (a.is ∙ ap (of_legs a.drawn a.ended) wave.1)) ∙ e)

      -- then all jobs of the wave are passed
      job_passed : a.ended + 1 ≡ jobs → IsPassedAt n (first + job) → (j : ℕ) → j < jobs → IsPassedAt n (first + j)
      unfolding Distinct has
      job_passed last own j l =
          let mine = a.held w job held in
          let most = within.0 in
          let here : wave_place a.rest ≡ first = ap wave_place wave.1 in
          ⊎_elim
          (λ same. subst (λ k. IsPassedAt n (first + k)) same own)
          (λ done. subst (λ k. IsPassedAt n (k + j)) here (a.jobs_pass j done))
          (head_or job j a.done
          (all_below (job ∷ a.done) jobs j (mine.1, a.distinct)
          (λ q t. ⊎_elim (λ e. (let b = mine.0 in omega (arith, b, e, most))) (λ t. (let b = a.below q t in omega (arith, b, most))) (head_or job q a.done t))
          (let each = a.each in omega (arith, each, last)) l))

      own_or_after : (f : MaintFault) → IsFirstFaultOf n (carried_by_done n first jobs job (is_last (remaining s log)) next) f → IsToldInTurn s log f (Done w)
      unfolding published
      own_or_after f fault =
          ⊎_elim
          (λ own. of_job w first jobs drawn job at held (record { passed = passed_before (In_wave first jobs drawn) at; refused = own }))
          (λ later.
          let stop = stop_of n (first + jobs) (carried_up_to n next) f later.1 in
          let last = last_job later.2 in
          after_wave w first jobs drawn job stop.place at held stop.least (before_turn n next stop.place stop.below)
          (record { passed = passed_below stop.place stop.passed (job_passed last later.0); refused = stop.refused }))
          (own_or_behind n first jobs job (is_last (remaining s log)) next f fault)
        where
          passed_below : (p : ℕ) → ((q : ℕ) → first + jobs ≤ q → q < p → IsPassedAt n q) → ((j : ℕ) → j < jobs → IsPassedAt n (first + j)) → (q : ℕ) → q < p → IsPassedAt n q
          passed_below p behind amid q l =
              ⊎_elim
              (λ under. passed_before (In_wave first jobs drawn) at q under)
              (λ over. ⊎_elim
              (λ inside. let e : first + (q - first) ≡ q = omega (arith, over) in subst (IsPassedAt n) e (amid (q - first) (omega (arith, over, inside))))
              (λ past. behind q past l)
              (cases_lt q (first + jobs)))
              (cases_lt q first)

    done_by_told : (w : ℕ) (held : Option ℕ) → holding log w ≡ held → (t : Turn) → turn s log ≡ t
        → IsRuled (done_by n t (is_last (remaining s log)) (turn_of (after_done (remaining s log))) held) (reply.Refused why) → Told s log (Done w) why
    done_by_told w None e t at h = absurd (not_other why cause.Idle is refl h)
    done_by_told w (Some job) e (At_page place view rows) at h = absurd (not_other why cause.Idle is refl h)
    done_by_told w (Some job) e Over at h = absurd (not_other why cause.Idle is refl h)
    done_by_told w (Some job) e (In_wave first jobs drawn) at h =
        let f = carried_fault n _ reply.Done why (λ e. cc) h in
        (f.0, f.2, own_or_after w job first jobs drawn at e f.0 f.1)

    page_told_at : (t : Turn) → turn s log ≡ t → IsRuled (page_ruling n t (turn_of (after_page (remaining s log)))) (reply.Refused why) → Told s log PageIn why
    page_told_at (In_wave first jobs drawn) at h = absurd (not_other why cause.NotReady is refl h)
    page_told_at Over at h = absurd (not_other why cause.NotReady is refl h)
    page_told_at (At_page inst view rows) at h =
        let after : Turn = turn_of (after_page (remaining s log)) in
        let f = puts_fault n _ (reply.Paged (length rows)) why is (λ e. cc) h in
        let stop = stop_of n (inst + 1) (carried_up_to n after) f.0 f.1 in
        let least = stop.least in
        let passed : (q : ℕ) → q < stop.place → IsPassedAt n q =
        λ q l. ⊎_elim (λ under. passed_before (At_page inst view rows) at q under) (λ over. stop.passed q over l) (cases_lt q (inst + 1)) in (
          f.0,
          f.2,
          after_inst inst view rows stop.place at (omega (arith, least))
              (subst (λ m. IsBefore n (turn_of (after_page (remaining_in m log))) stop.place) (sym (night-paged s log)) (before_turn n after stop.place stop.below))
              (record { passed = passed; refused = stop.refused }),
        )

  done_told : IsLegalLog s log → (w : ℕ) → IsReply s log (Done w) (reply.Refused why) → Told s log (Done w) why
  done_told legal w h =
      let a = onwards (nat_le s.workers w) cause.NoWorker _ why is refl h in
      let b = onwards (not (is_open log)) cause.NoNight _ why is refl a.1 in
      done_by_told legal (not_false _ b.0) w (holding log w) refl (turn s log) refl b.1

  page_told : IsLegalLog s log → IsReply s log PageIn (reply.Refused why) → Told s log PageIn why
  page_told legal h =
      let b = onwards (not (is_open log)) cause.NoNight _ why is refl h in
      page_told_at legal (not_false _ b.0) (turn s log) refl b.1

  no_commit : (next : ℕ) (t : Turn) → ¬ (IsRuled (commit_ruling next t) (reply.Refused why))
  no_commit next Over h = cc
  no_commit next (In_wave place jobs drawn) h = not_other why cause.NotReady is refl h
  no_commit next (At_page place view rows) h = not_other why cause.NotReady is refl h

  commit_told : IsReply s log Commit (reply.Refused why) → Told s log Commit why
  commit_told h =
      let b = onwards (not (is_open log)) cause.NoNight _ why is refl h in
      absurd (no_commit (number (versions s log) + 1) (turn s log) b.1)

  no_taking : (page : Shown) → ¬ (IsRuled (Takes page) (reply.Refused why))
  no_taking page h = ⊎_elim (λ e. cc) (λ m. not_other why cause.Memory is refl m.1) h

  give_up_told : IsReply s log GiveUp (reply.Refused why) → Told s log GiveUp why
  give_up_told h =
      let b = onwards (not (is_open log)) cause.NoNight (Says (reply.Version (number (versions s log) + 1))) why is refl h in
      let e : reply.Refused why ≡ reply.Version (number (versions s log) + 1) = b.1 in cc

  open_told : (d : ℕ) → IsReply s log (Open d) (reply.Refused why) → Told s log (Open d) why
  open_told d h =
      let a = onwards (nat_le s.desks d) cause.NoDesk _ why is refl h in
      let b = onwards (is_some (session log d)) cause.SessionOpen (Says (reply.Session (number (versions s log)))) why is refl a.1 in
      let e : reply.Refused why ≡ reply.Session (number (versions s log)) = b.1 in cc

  no_read : (view limit : ℕ) (o : Option SessionOf) → ¬ (IsRuled (read_ruling s.versions (versions s log) view limit o) (reply.Refused why))
  no_read view limit None h = not_other why cause.NoSession is refl h
  no_read view limit (Some of) h =
      let v = versions s log in
      let a = onwards (not (is_unexpired s.versions (number v) (is_active v) of.version)) (cause.Expired of.version (number v) (is_active v)) _ why is refl h in
      let b = onwards (nat_le (length (version v of.version)) view) cause.NoView _ why is refl a.1 in
      let c = onwards ((limit == 0) || nat_lt 256 limit) cause.Limit _ why is refl b.1 in
      no_taking (page_of (table_of v of.version view) (goes_on view of.bookmark) limit) c.1

  read_told : (d view limit : ℕ) → IsReply s log (Read d view limit) (reply.Refused why) → Told s log (Read d view limit) why
  read_told d view limit h =
      let a = onwards (nat_le s.desks d) cause.NoDesk _ why is refl h in
      absurd (no_read view limit (session log d) a.1)

  close_told : (d : ℕ) → IsReply s log (Close d) (reply.Refused why) → Told s log (Close d) why
  close_told d h =
      let a = onwards (nat_le s.desks d) cause.NoDesk _ why is refl h in
      let b = onwards (is_none (session log d)) cause.NoSession (Says reply.Closed) why is refl a.1 in
      let e : reply.Refused why ≡ reply.Closed = b.1 in cc

pub told_in_turn : RefusalsAreToldInTurn
told_in_turn s log Begin why legal h is = begin_told s log why is h
told_in_turn s log (Take w) why legal h is = take_told s log why is w h
told_in_turn s log (Done w) why legal h is = done_told s log why is legal w h
told_in_turn s log PageIn why legal h is = page_told s log why is legal h
told_in_turn s log Commit why legal h is = commit_told s log why is h
told_in_turn s log GiveUp why legal h is = give_up_told s log why is h
told_in_turn s log (Open d) why legal h is = open_told s log why is d h
told_in_turn s log (Read d view limit) why legal h is = read_told s log why is d view limit h
told_in_turn s log (Close d) why legal h is = close_told s log why is d h
