-- What a machine knows of a night by what it keeps, and where it stands after an event of one.
use Rattle.std.proofs.Common.{◌≡◌, ◌≢◌, refl, sym, ap, subst, ◌∙◌, ℕ, zero, suc, ◌+◌, ◌-◌, ◌<◌, ◌≤◌, ◌^◌, List, [], ◌∷◌, ◌++◌, length, drop, map, Bool, true, false, not, cond, Option, Some, None, ◌⊎◌, ⊎_elim, inl, inr, arith}
use Rattle.std.specs.Prelude.{is_some, is_none, slice_get, slice_set, slice_index_or, nat_lt, nat_le, option_map, if◌then◌else◌, ◌==◌}
use Rattle.std.specs.List.{All, list_all}
use Rattle.std.proofs.lemmas.Bool.{cases_lt, false≢true}
use Rattle.std.proofs.lemmas.List.Elements.{All-cons, All-nil}
use Rattle.std.proofs.lemmas.Option.{same_Some, slice_get_read, slice_get_within}
use Rattle.wh_maint.specs.declared.fault.MaintFault.{MaintFault}
use Rattle.wh_store.specs.declared.operation.Op.{Op}
use Rattle.wh_store.specs.Operations.{Operation, Opens, Writes, Commits, Gives_up, operation}
use Rattle.wh_store.specs.Versions.{Versions, after, is_active, number, versions_from, versions_of, written_over}
use Rattle.wh_store.specs.Windows.{Window, Shows}
use Rattle.wh_carry.specs.declared.course.Part.{Part}
use Rattle.wh_carry.specs.Night.{Night, ArePassedAt, IsPassedAt, IsFaultAt, IsFirstFaultOf, places_from, AreAllowed}
use Rattle.wh_carry.specs.Legs.{Remaining, Turn, In_wave, At_page, Over, after_done, after_page, carried_up_to, is_last, legs_of, turn_of, untouched}
use Rattle.wh_carry.specs.Course.{AreParts, IsOutcome}
use Rattle.wh_core.specs.declared.event.Event.{Event}
use Rattle.wh_core.specs.declared.event.Event.TheVariants as event
use Rattle.wh_core.specs.declared.machine.Machine.{Machine}
use Rattle.wh_core.specs.declared.reply.Cause.{Cause}
use Rattle.wh_core.specs.declared.reply.Cause.TheVariants as cause
use Rattle.wh_core.specs.declared.reply.Reply.{Reply}
use Rattle.wh_core.specs.declared.reply.Reply.TheVariants as reply
use Rattle.wh_core.specs.Log.{Log, Began, Drew, Finished, Paged_in, Committed, Gave_up, Sat_down, Turned, Left, holding, is_open, logged, nights_begun}
use Rattle.wh_core.specs.Nights.{Setup, night, next_night, page_in_turn, published, remaining, turn, turn_in, versions, last_night}
use Rattle.wh_core.specs.Replies.{IsCarried, IsLegalLog, IsMemory, IsReply, IsRuled, Ruling, Says, Takes, Carries, Puts, Starts, carried_by_done, cause_of, commit_ruling, done_by, done_ruling, more, page_ruling, take_ruling, unless}
use Rattle.wh_core.specs.Standing.{AreLeft, Stands}
use Rattle.wh_core.specs.Inner.Standing.{page_in, wave_in}
use Rattle.wh_core.proofs.Legs.{have_jobs}
use Rattle.wh_core.proofs.Underway.{come_to, fresh, reach_is, night-began, night-paged, versions_from-append}
use Rattle.wh_core.proofs.Steps.{AreLast, AtPage, InWave, IsKind, last_of_all, one_of_more, wave, page, over, kind_here, refuse, onward, le_false, le_true, drop_one, wave_here, wave_turn_here, page_here, page_turn_here, end_turn_here, drew, ended_one, wave_over, page_over, reach_after_wave, reach_after_page, comes_on, is_stopped, held_within, last_done, all_are_passed}

-- ---- what is known

is_some-map : {A B : Type 0} (f : A → B) (o : Option A) → is_some (option_map f o) ≡ is_some o
is_some-map f None = refl
is_some-map f (Some x) = refl

active_paged : (v : Versions) (t : Turn) → is_active (versions_from v (page_in_turn t)) ≡ is_active v
active_paged v (In_wave place jobs drawn) = refl
active_paged v (At_page place view rows) = is_some-map (written_over view rows) v.draft
active_paged v Over = refl

-- a night is open by the versions where it is by the log
pub active-open : (s : Setup) (log : Log) → is_active (versions s log) ≡ is_open log
unfolding published
active-open s [] = refl
active-open s (Began ∷ log) = ap is_active (versions_from-append _ (published s log) (Opens ∷ []))
active-open s (Committed ∷ log) = ap is_active (versions_from-append _ (published s log) (Commits ∷ []))
active-open s (Gave_up ∷ log) = ap is_active (versions_from-append _ (published s log) (Gives_up ∷ []))
active-open s (Paged_in ∷ log) = ap is_active (versions_from-append _ (published s log) (page_in_turn (turn s log))) ∙ active_paged (versions s log) (turn s log) ∙ active-open s log
active-open s (Drew w n ∷ log) = active-open s log
active-open s (Finished w ∷ log) = active-open s log
active-open s (Sat_down d v ∷ log) = active-open s log
active-open s (Turned d v p ∷ log) = active-open s log
active-open s (Left d ∷ log) = active-open s log

module _ (s : Setup) (log : Log) (m : Machine) (h : Stands s log m) where
  pub open_here : is_some m.store.draft ≡ is_open log
  open_here = ap (λ (w : Window). is_some w.draft) h.shows ∙ active-open s log

  pub number_here : m.store.number ≡ number (versions s log)
  number_here = ap (λ (w : Window). w.number) h.shows

  pub held_here : (w : ℕ) (o : Option ℕ) → w < length m.holders.items → o ≡ slice_index_or m.holders.items w o → holding log w ≡ o
  held_here w o l e =
      let inside : w < s.workers = let f = h.workers in omega (arith, f, l) in
      same_Some (holding log w) o (sym (h.holders w inside) ∙ slice_get_read m.holders.items (length m.holders.items) w o refl l e)

  -- an event of a worker that is there, in an open night
  pub no_night_to_take : (w : ℕ) → w < length m.holders.items → is_some m.store.draft ≡ false → IsReply s log (event.Take w) (reply.Refused cause.NoNight)
  no_night_to_take w l o =
      onward (nat_le s.workers w) cause.NoWorker _ (reply.Refused cause.NoNight) (le_false s.workers w (let f = h.workers in omega (arith, f, l))) (refuse (not (is_open log)) cause.NoNight _ (ap not (sym open_here ∙ o)))

  pub take_here : (w : ℕ) (r : Reply) → w < length m.holders.items → is_some m.store.draft ≡ true → IsRuled (unless (is_some (holding log w)) cause.Busy (take_ruling (turn s log))) r → IsReply s log (event.Take w) r
  take_here w r l o k =
      onward (nat_le s.workers w) cause.NoWorker _ r (le_false s.workers w (let f = h.workers in omega (arith, f, l))) (onward (not (is_open log)) cause.NoNight _ r (ap not (sym open_here ∙ o)) k)

  pub goes_here : is_some m.store.draft ≡ true → AreLeft (night s log) (remaining s log) (drop m.place m.course.parts.items) m.course.stop m.drawn m.done
  goes_here o = h.night (sym open_here ∙ o)

-- no wave is in turn
pub no_wave : (n : Night) (r : Remaining) (parts : List Part) (stop : Option MaintFault) (drawn done : ℕ) → AreLeft n r parts stop drawn done → wave_in parts ≡ None
    → IsRuled (take_ruling (turn_of r)) (reply.Refused cause.NoJob)
no_wave n r parts stop drawn done g none = by_kind (kind_here n r parts stop drawn done g)
  where
    by_kind : IsKind n r parts drawn → IsRuled (take_ruling (turn_of r)) (reply.Refused cause.NoJob)
    by_kind (wave place jobs os w t) = let f : Some os ≡ None = sym w ∙ none in cc
    by_kind (page place view rows op w t) = subst (λ t. IsRuled (take_ruling t) (reply.Refused cause.NoJob)) (sym t) refl
    by_kind (over w t) = subst (λ t. IsRuled (take_ruling t) (reply.Refused cause.NoJob)) (sym t) refl

pub get_same : {A : Type 0} (xs : List A) (i : ℕ) (v : A) → i < length xs → slice_get (slice_set xs i v) i ≡ Some v
get_same [] i v l = absurd (omega arith)
get_same (x ∷ xs) zero v l = refl
get_same (x ∷ xs) (suc i) v l = get_same xs i v (omega arith)

pub get_other : {A : Type 0} (xs : List A) (i w : ℕ) (v : A) → ¬ (i ≡ w) → slice_get (slice_set xs i v) w ≡ slice_get xs w
get_other [] i w v e = refl
get_other (x ∷ xs) zero zero v e = absurd (e refl)
get_other (x ∷ xs) zero (suc w) v e = refl
get_other (x ∷ xs) (suc i) zero v e = refl
get_other (x ∷ xs) (suc i) (suc w) v e = get_other xs i w v (λ f. e (ap suc f))

pub eq_true : (a b : ℕ) → (a == b) ≡ true → a ≡ b
eq_true a b e = grind arith

eq_false : (a b : ℕ) → (a == b) ≡ false → ¬ (a ≡ b)
eq_false a b e f = grind arith

pub not_equal : (a b : ℕ) → a ≢ b → (a == b) ≡ false
not_equal a b e = elim (a == b) as (λ t. (a == b) ≡ t → t ≡ false) [
  | true ↦ λ f. absurd (e (eq_true a b f))
  | false ↦ λ f. refl
] refl

-- a place of a list is set
pub slot_set : {A : Type 0} (xs : List A) (n i : ℕ) (v : A) (f : ℕ → A) → i < length xs → ((w : ℕ) → w < n → slice_get xs w ≡ Some (f w)) → (w : ℕ) → w < n → slice_get (slice_set xs i v) w ≡ Some (if i == w then v else f w)
slot_set {A} xs n i v f lt h w k =
    elim (i == w) as (λ b. (i == w) ≡ b → slice_get (slice_set xs i v) w ≡ Some (if b then v else f w)) [
      | true ↦ λ e. ap (slice_get (slice_set xs i v)) (sym (eq_true i w e)) ∙ get_same xs i v lt
      | false ↦ λ e. get_other xs i w v (eq_false i w e) ∙ h w k
    ] refl

-- ---- a job that is done

-- where the first expression is passed, the first fault is that of the others
pub later_fault : (n : Night) (q : ℕ) (places : List ℕ) (fault : MaintFault) → IsPassedAt n q → IsFirstFaultOf n places fault → IsFirstFaultOf n (q ∷ places) fault
later_fault n q places fault h f = record {
  earlier = q ∷ f.earlier;
  place = f.place;
  later = f.later;
  split = ap (λ ps. q ∷ ps) f.split;
  passed = All-cons (IsPassedAt n) q f.earlier h f.passed;
  refused = f.refused;
}

pub first_fault : (n : Night) (q : ℕ) (places : List ℕ) (fault : MaintFault) → IsFaultAt n q fault → IsFirstFaultOf n (q ∷ places) fault
first_fault n q places fault f = record { earlier = []; place = q; later = places; split = refl; passed = All-nil (IsPassedAt n); refused = f }

own_fault : (n : Night) (place jobs job : ℕ) (last : Bool) (next : Turn) (fault : MaintFault) → IsFaultAt n (place + job) fault → IsFirstFaultOf n (carried_by_done n place jobs job last next) fault
own_fault n place jobs job true next fault f = first_fault n (place + job) _ fault f
own_fault n place jobs job false next fault f = first_fault n (place + job) _ fault f

module _ (s : Setup) (log : Log) (m : Machine) (h : Stands s log m) (w : ℕ) (l : w < length m.holders.items) where
  pub no_night_to_do : is_some m.store.draft ≡ false → IsReply s log (event.Done w) (reply.Refused cause.NoNight)
  no_night_to_do o =
      onward (nat_le s.workers w) cause.NoWorker _ (reply.Refused cause.NoNight) (le_false s.workers w (let f = h.workers in omega (arith, f, l))) (refuse (not (is_open log)) cause.NoNight _ (ap not (sym (open_here s log m h) ∙ o)))

  pub done_here : (r : Reply) (held : Option ℕ) → is_some m.store.draft ≡ true → holding log w ≡ held
      → IsRuled (done_by (night s log) (turn s log) (is_last (remaining s log)) (turn_of (after_done (remaining s log))) held) r → IsReply s log (event.Done w) r
  done_here r held o e k =
      onward (nat_le s.workers w) cause.NoWorker _ r (le_false s.workers w (let f = h.workers in omega (arith, f, l)))
      (onward (not (is_open log)) cause.NoNight _ r (ap not (sym (open_here s log m h) ∙ o))
      (subst (λ held. IsRuled (done_by (night s log) (turn s log) (is_last (remaining s log)) (turn_of (after_done (remaining s log))) held) r) (sym e) k))

  module _ (active : is_some m.store.draft ≡ true) where
    abbrev goes : AreLeft (night s log) (remaining s log) (drop m.place m.course.parts.items) m.course.stop m.drawn m.done
    goes = goes_here s log m h active

    pub no_wave_to_do : (job : ℕ) → wave_in (drop m.place m.course.parts.items) ≡ None → holding log w ≡ Some job → IsReply s log (event.Done w) (reply.Refused cause.Idle)
    no_wave_to_do job none held = done_here (reply.Refused cause.Idle) (Some job) active held (by_kind (kind_here (night s log) (remaining s log) (drop m.place m.course.parts.items) m.course.stop m.drawn m.done goes))
      where
        by_kind : IsKind (night s log) (remaining s log) (drop m.place m.course.parts.items) m.drawn
            → IsRuled (done_ruling (night s log) (turn s log) (is_last (remaining s log)) (turn_of (after_done (remaining s log))) job) (reply.Refused cause.Idle)
        by_kind (wave place jobs os w t) = let f : Some os ≡ None = sym w ∙ none in cc
        by_kind (page place view rows op w t) = subst (λ t. IsRuled (done_ruling (night s log) t (is_last (remaining s log)) (turn_of (after_done (remaining s log))) job) (reply.Refused cause.Idle)) (sym t) refl
        by_kind (over w t) = subst (λ t. IsRuled (done_ruling (night s log) t (is_last (remaining s log)) (turn_of (after_done (remaining s log))) job) (reply.Refused cause.Idle)) (sym t) refl

    module _ (os : List (Option MaintFault)) (first : wave_in (drop m.place m.course.parts.items) ≡ Some os) (job : ℕ) (held : holding log w ≡ Some job) where
      abbrev pub here : InWave (night s log) (goes_here s log m h active).legs (drop m.place m.course.parts.items) os m.course.stop m.drawn m.done
      here = wave_here (night s log) (remaining s log) (drop m.place m.course.parts.items) m.course.stop m.drawn m.done (goes_here s log m h active) os first

      in_turn : turn s log ≡ In_wave here.place (length os) m.drawn
      in_turn = wave_turn_here (night s log) (remaining s log) (drop m.place m.course.parts.items) m.course.stop m.drawn m.done (goes_here s log m h active) os first

      -- what is answered by the wave in turn
      by_wave : (r : Reply) → IsRuled (Carries (night s log) (carried_by_done (night s log) here.place (length os) job (is_last (remaining s log)) (turn_of (after_done (remaining s log)))) reply.Done) r
          → IsReply s log (event.Done w) r
      by_wave r k = done_here r (Some job) active held
          (subst (λ t. IsRuled (done_ruling (night s log) t (is_last (remaining s log)) (turn_of (after_done (remaining s log))) job) r) (sym in_turn) k)

      pub within_wave : length os ≤ job → ⊥
      within_wave past = let k = held_within s log w job here.place (length os) m.drawn h.legal (sym (open_here s log m h) ∙ active) held in_turn in let f = here.few in omega (arith, k, f, past)

      pub job_refused : (fault : MaintFault) → slice_get os job ≡ Some (Some fault) → IsReply s log (event.Done w) (reply.Refused (cause_of fault))
      job_refused fault own = by_wave (reply.Refused (cause_of fault)) (inr (fault, own_fault (night s log) here.place (length os) job (is_last (remaining s log)) (turn_of (after_done (remaining s log))) fault (here.outcomes job (Some fault) own), refl))

      module _ (own : slice_get os job ≡ Some None) where
        passed_own : IsPassedAt (night s log) (here.place + job)
        passed_own = here.outcomes job None own

        pub job_done : m.done + 1 < length os → IsReply s log (event.Done w) reply.Done
        job_done k =
            let goes_on : is_last (remaining s log) ≡ false = one_of_more (night s log) (remaining s log) (drop m.place m.course.parts.items) m.course.stop m.drawn m.done (goes_here s log m h active) os first k in
            by_wave reply.Done (inl (
              subst (λ b. ArePassedAt (night s log) (carried_by_done (night s log) here.place (length os) job b (turn_of (after_done (remaining s log))))) (sym goes_on)
                  (All-cons (IsPassedAt (night s log)) (here.place + job) [] passed_own (All-nil (IsPassedAt (night s log)))),
              refl,
            ))

        module _ (lasts : m.done + 1 ≡ length os) where
          last : AreLast (night s log) here.place (length os) job
          last = last_done s log (drop m.place m.course.parts.items) m.course.stop m.drawn m.done w job os h.legal (sym (open_here s log m h) ∙ active) (goes_here s log m h active) first held lasts

          pub all_passed : list_all is_none os ≡ true
          all_passed = all_are_passed (night s log) here.place job os here.outcomes own last

          tail_at : carried_up_to (night s log) (turn_of (after_done (remaining s log))) ≡ come_to (length (night s log).list) here.later
          tail_at = reach_after_wave (night s log) (remaining s log) (drop m.place m.course.parts.items) m.course.stop m.drawn m.done (goes_here s log m h active) os first lasts

          ends_it : is_last (remaining s log) ≡ true
          ends_it = last_of_all (night s log) (remaining s log) (drop m.place m.course.parts.items) m.course.stop m.drawn m.done (goes_here s log m h active) os first lasts

          pub wave_done : (drop 1 (drop m.place m.course.parts.items) ≢ []) ⊎ (m.course.stop ≡ None) → IsReply s log (event.Done w) reply.Done
          wave_done on =
              by_wave reply.Done (inl (
                subst (λ b. ArePassedAt (night s log) (carried_by_done (night s log) here.place (length os) job b (turn_of (after_done (remaining s log))))) (sym ends_it)
                    (All-cons (IsPassedAt (night s log)) (here.place + job) _ passed_own
                    (subst (λ k. ArePassedAt (night s log) (places_from (here.place + length os) k)) (sym tail_at) (comes_on (night s log) (here.place + length os) here.later _ m.course.stop (here.next all_passed) on))),
                refl,
              ))

          pub wave_stopped : (fault : MaintFault) → drop 1 (drop m.place m.course.parts.items) ≡ [] → m.course.stop ≡ Some fault → IsReply s log (event.Done w) (reply.Refused (cause_of fault))
          wave_stopped fault none stop =
              by_wave (reply.Refused (cause_of fault)) (inr (
                fault,
                subst (λ b. IsFirstFaultOf (night s log) (carried_by_done (night s log) here.place (length os) job b (turn_of (after_done (remaining s log)))) fault) (sym ends_it)
                    (later_fault (night s log) (here.place + job) _ fault passed_own
                    (subst (λ k. IsFirstFaultOf (night s log) (places_from (here.place + length os) k) fault) (sym tail_at) (is_stopped (night s log) (here.place + length os) here.later _ m.course.stop fault (here.next all_passed) none stop))),
                refl,
              ))

-- ---- pages

module _ (s : Setup) (log : Log) (m : Machine) (h : Stands s log m) (active : is_some m.store.draft ≡ true) where
  -- an event of the writer in an open night
  pub paged_here : (r : Reply) → IsRuled (page_ruling (night s log) (turn s log) (turn_of (after_page (remaining s log)))) r → IsReply s log event.PageIn r
  paged_here r k = onward (not (is_open log)) cause.NoNight _ r (ap not (sym (open_here s log m h) ∙ active)) k

  pub no_page : page_in (drop m.place m.course.parts.items) ≡ None → IsReply s log event.PageIn (reply.Refused cause.NotReady)
  no_page none = paged_here (reply.Refused cause.NotReady) (by_kind (kind_here (night s log) (remaining s log) (drop m.place m.course.parts.items) m.course.stop m.drawn m.done (goes_here s log m h active)))
    where
      by_kind : IsKind (night s log) (remaining s log) (drop m.place m.course.parts.items) m.drawn
          → IsRuled (page_ruling (night s log) (turn s log) (turn_of (after_page (remaining s log)))) (reply.Refused cause.NotReady)
      by_kind (wave place jobs os w t) = subst (λ t. IsRuled (page_ruling (night s log) t (turn_of (after_page (remaining s log)))) (reply.Refused cause.NotReady)) (sym t) refl
      by_kind (page place view rows op w t) = let f : Some op ≡ None = sym w ∙ none in cc
      by_kind (over w t) = subst (λ t. IsRuled (page_ruling (night s log) t (turn_of (after_page (remaining s log)))) (reply.Refused cause.NotReady)) (sym t) refl

  module _ (op : Op) (first : page_in (drop m.place m.course.parts.items) ≡ Some op) where
    abbrev pub page_there : AtPage (night s log) (goes_here s log m h active).legs (drop m.place m.course.parts.items) op m.course.stop m.drawn m.done
    page_there = page_here (night s log) (remaining s log) (drop m.place m.course.parts.items) m.course.stop m.drawn m.done (goes_here s log m h active) op first

    pub page_in_turn_there : turn s log ≡ At_page page_there.place page_there.view page_there.rows
    page_in_turn_there = page_turn_here (night s log) (remaining s log) (drop m.place m.course.parts.items) m.course.stop m.drawn m.done (goes_here s log m h active) op first

    by_page : (r : Reply) → IsRuled (Puts (night s log) (places_from (page_there.place + 1) (carried_up_to (night s log) (turn_of (after_page (remaining s log))))) (reply.Paged (length page_there.rows))) r
        → IsReply s log event.PageIn r
    by_page r k = paged_here r (subst (λ t. IsRuled (page_ruling (night s log) t (turn_of (after_page (remaining s log)))) r) (sym page_in_turn_there) k)

    tail_there : carried_up_to (night s log) (turn_of (after_page (remaining s log))) ≡ come_to (length (night s log).list) page_there.later
    tail_there = reach_after_page (night s log) (remaining s log) (drop m.place m.course.parts.items) m.course.stop m.drawn m.done (goes_here s log m h active) op first

    pub no_memory_to_page : IsReply s log event.PageIn (reply.Refused cause.Memory)
    no_memory_to_page = by_page (reply.Refused cause.Memory) (inr refl)

    pub page_done : (drop 1 (drop m.place m.course.parts.items) ≢ []) ⊎ (m.course.stop ≡ None) → IsReply s log event.PageIn (reply.Paged (length page_there.rows))
    page_done on =
        by_page _ (inl (inl (
          subst (λ k. ArePassedAt (night s log) (places_from (page_there.place + 1) k)) (sym tail_there)
              (comes_on (night s log) (page_there.place + 1) page_there.later _ m.course.stop page_there.next on),
          refl,
        )))

    pub page_stopped : (fault : MaintFault) → drop 1 (drop m.place m.course.parts.items) ≡ [] → m.course.stop ≡ Some fault → IsReply s log event.PageIn (reply.Refused (cause_of fault))
    page_stopped fault none stop =
        by_page (reply.Refused (cause_of fault)) (inl (inr (
          fault,
          subst (λ k. IsFirstFaultOf (night s log) (places_from (page_there.place + 1) k) fault) (sym tail_there)
              (is_stopped (night s log) (page_there.place + 1) page_there.later _ m.course.stop fault page_there.next none stop),
          refl,
        )))

  -- ---- the end of a night

  pub ends_here : (r : Reply) → IsRuled (commit_ruling (number (versions s log) + 1) (turn s log)) r → IsReply s log event.Commit r
  ends_here r k = onward (not (is_open log)) cause.NoNight _ r (ap not (sym (open_here s log m h) ∙ active)) k

  pub not_over : drop m.place m.course.parts.items ≢ [] → IsReply s log event.Commit (reply.Refused cause.NotReady)
  not_over some = ends_here (reply.Refused cause.NotReady) (by_kind (kind_here (night s log) (remaining s log) (drop m.place m.course.parts.items) m.course.stop m.drawn m.done (goes_here s log m h active)))
    where
      by_kind : IsKind (night s log) (remaining s log) (drop m.place m.course.parts.items) m.drawn → IsRuled (commit_ruling (number (versions s log) + 1) (turn s log)) (reply.Refused cause.NotReady)
      by_kind (wave place jobs os w t) = subst (λ t. IsRuled (commit_ruling (number (versions s log) + 1) t) (reply.Refused cause.NotReady)) (sym t) refl
      by_kind (page place view rows op w t) = subst (λ t. IsRuled (commit_ruling (number (versions s log) + 1) t) (reply.Refused cause.NotReady)) (sym t) refl
      by_kind (over w t) = absurd (some w)

  pub commits : drop m.place m.course.parts.items ≡ [] → IsReply s log event.Commit (reply.Version (number (versions s log) + 1))
  commits none = ends_here _ (subst (λ t. IsRuled (commit_ruling (number (versions s log) + 1) t) (reply.Version (number (versions s log) + 1)))
      (sym (end_turn_here (night s log) (remaining s log) (drop m.place m.course.parts.items) m.course.stop m.drawn m.done (goes_here s log m h active) none)) refl)

  pub gives_up : IsReply s log event.GiveUp (reply.Version (number (versions s log) + 1))
  gives_up = onward (not (is_open log)) cause.NoNight _ (reply.Version (number (versions s log) + 1)) (ap not (sym (open_here s log m h) ∙ active)) refl

module _ (s : Setup) (log : Log) (m : Machine) (h : Stands s log m) (idle : is_some m.store.draft ≡ false) where
  closed : not (is_open log) ≡ true
  closed = ap not (sym (open_here s log m h) ∙ idle)

  pub no_night_to_page : IsReply s log event.PageIn (reply.Refused cause.NoNight)
  no_night_to_page = refuse (not (is_open log)) cause.NoNight _ closed

  pub no_night_to_commit : IsReply s log event.Commit (reply.Refused cause.NoNight)
  no_night_to_commit = refuse (not (is_open log)) cause.NoNight _ closed

  pub no_night_to_give_up : IsReply s log event.GiveUp (reply.Refused cause.NoNight)
  no_night_to_give_up = refuse (not (is_open log)) cause.NoNight _ closed

-- ---- a night that begins

module _ (s : Setup) (log : Log) (closed : is_open log ≡ false) (left : nights_begun log < length s.nights) (few : number (versions s log) + 1 ≢ 2 ^ 64) (allowed : AreAllowed (next_night s log))
    (parts : List Part) (stop : Option MaintFault) (are : AreParts (next_night s log) 0 (legs_of (next_night s log)) parts stop) where
  reaches : carried_up_to (next_night s log) (turn_of (untouched (legs_of (next_night s log)))) ≡ come_to (length (next_night s log).list) (legs_of (next_night s log))
  reaches = reach_is (next_night s log) (legs_of (next_night s log)) 0

  started : (r : Reply) → IsCarried (next_night s log) (places_from 0 (carried_up_to (next_night s log) (turn_of (untouched (legs_of (next_night s log)))))) reply.Begun r ⊎ IsMemory r → IsReply s log event.Begin r
  started r k =
      onward (is_open log) cause.NightOpen _ r closed
      (onward (nat_le (length s.nights) (nights_begun log)) cause.NoNight _ r (le_false (length s.nights) (nights_begun log) left)
      (onward (number (versions s log) + 1 == 2 ^ 64) cause.LastVersion _ r (not_equal (number (versions s log) + 1) (2 ^ 64) few)
      (inl (allowed, k))))

  pub no_memory_to_begin : IsReply s log event.Begin (reply.Refused cause.Memory)
  no_memory_to_begin = started (reply.Refused cause.Memory) (inr refl)

  pub begins_so : (parts ≢ []) ⊎ (stop ≡ None) → IsReply s log event.Begin reply.Begun
  begins_so on = started reply.Begun (inl (inl (subst (λ k. ArePassedAt (next_night s log) (places_from 0 k)) (sym reaches) (comes_on (next_night s log) 0 (legs_of (next_night s log)) parts stop are on), refl)))

  pub stopped_at_first : (fault : MaintFault) → parts ≡ [] → stop ≡ Some fault → IsReply s log event.Begin (reply.Refused (cause_of fault))
  stopped_at_first fault none stop_is =
      started (reply.Refused (cause_of fault)) (inl (inr (
        fault,
        subst (λ k. IsFirstFaultOf (next_night s log) (places_from 0 k) fault) (sym reaches)
            (is_stopped (next_night s log) 0 (legs_of (next_night s log)) parts stop fault are none stop_is),
        refl,
      )))

  pub goes_from_first : (parts ≢ []) ⊎ (stop ≡ None) → AreLeft (next_night s log) (untouched (legs_of (next_night s log))) parts stop 0 0
  goes_from_first on = record {
    from = 0;
    legs = legs_of (next_night s log);
    is = refl;
    within = fresh (legs_of (next_night s log)) (have_jobs (next_night s log));
    some = have_jobs (next_night s log);
    are = are;
    over = λ none. ⊎_elim (λ no. absurd (no none)) (λ e. e) on;
  }
