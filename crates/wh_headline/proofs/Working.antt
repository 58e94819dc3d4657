-- That an open night of which every expression is passed comes to rest: each worker that has a job is done with it, and then no job is drawn
-- that is not done.
use Rattle.std.proofs.Common.{◌≡◌, refl, sym, ap, ◌∙◌, subst, ℕ, zero, suc, ◌+◌, ◌<◌, List, [], ◌∷◌, ◌++◌, length, drop, Bool, true, false, not, arith, cond, eqb, Option, Some, None, ◌⊎◌, ⊎_elim, inl, inr}
use Rattle.std.specs.Prelude.{nat_le, slice_index_or}
use Rattle.std.proofs.lemmas.Bool.{cases_lt, eq-eqb, eqb-true, false≢true, ne_eqb}
use Rattle.std.proofs.lemmas.Option.{same_Some}
use Rattle.wh_row.specs.Weigh.{Counted}
use Rattle.wh_dag.specs.Shape.{Distinct, has}
use Rattle.wh_dag.proofs.Members.{has-head, has-tail, length-le_members}
use Rattle.wh_carry.specs.Night.{Night, ArePassedAt, IsPassedAt}
use Rattle.wh_carry.specs.Legs.{Leg, Wave, Page, Remaining, Turn, In_wave, At_page, after_done, after_draw, is_last, legs_of, turn_at, turn_of, untouched}
use Rattle.wh_core.specs.declared.event.Event.{Event}
use Rattle.wh_core.specs.declared.event.Event.TheVariants as event
use Rattle.wh_core.specs.declared.reply.Cause.TheVariants as cause
use Rattle.wh_core.specs.declared.reply.Reply.{Reply}
use Rattle.wh_core.specs.declared.reply.Reply.TheVariants as reply
use Rattle.wh_core.specs.Headline.{jobs_done, jobs_drawn}
use Rattle.wh_core.specs.Laws.{done_places, drawn_places, falls, held_place, job_place}
use Rattle.wh_core.specs.Log.{Log, Began, Committed, Drew, Finished, Gave_up, Left, Paged_in, Sat_down, Turned, holding, is_open, logged, nights_begun}
use Rattle.wh_core.specs.Nights.{Setup, night, published, remaining, remaining_in, turn}
use Rattle.wh_core.specs.Replies.{IsLegalLog, IsReply, IsRuled, carried_by_done, done_by, more, nothing}
use Rattle.wh_core.specs.Standing.{IsWithin}
use Rattle.wh_core.proofs.Counts.{jobs_of}
use Rattle.wh_core.proofs.Deeds.{AreDeeds, below, deeds_of, none, one_more, through}
use Rattle.wh_core.proofs.Progress.{counted}
use Rattle.wh_core.proofs.Steps.{le_false, onward}
use Rattle.wh_core.proofs.Underway.{few, head_or, start_of, underway, wave_legs}
use Rattle.wh_headline.specs.Growing.{NightsGoOnAlone}
use Rattle.wh_headline.proofs.Going.{alone_then, goes_by_one}

-- ---- who has the jobs

-- only workers that are there have jobs
bound_by : (s : Setup) (log : Log) (e : Event) (r : Reply) → IsReply s log e r → ((w j : ℕ) → holding log w ≡ Some j → w < s.workers) → (w j : ℕ) → holding (logged log e r) w ≡ Some j → w < s.workers
bound_by s log (event.Take u) (reply.Job n) said before w j h =
    let inside : u < s.workers = below s.workers u (through (nat_le s.workers u) _ _ (reply.Job n) (λ c e. cc) said).0 in
    elim (eqb u w) as (λ b. eqb u w ≡ b → cond b (Some n) (holding log w) ≡ Some j → w < s.workers) [
      | true ↦ λ t f. subst (λ x. x < s.workers) (eqb-true u w t) inside
      | false ↦ λ t f. before w j f
    ] refl h
bound_by s log (event.Done u) reply.Done said before w j h =
    elim (eqb u w) as (λ b. cond b None (holding log w) ≡ Some j → w < s.workers) [
      | true ↦ λ f. cc
      | false ↦ λ f. before w j f
    ] h
bound_by s log event.Begin reply.Begun said before w j h = cc
bound_by s log event.Commit (reply.Version v) said before w j h = cc
bound_by s log event.GiveUp (reply.Version v) said before w j h = cc
bound_by s log event.PageIn (reply.Paged n) said before w j h = before w j h
bound_by s log (event.Open d) (reply.Session v) said before w j h = before w j h
bound_by s log (event.Read d view limit) (reply.Page page) said before w j h = before w j h
bound_by s log (event.Close d) reply.Closed said before w j h = before w j h
bound_by s log e r said before w j h = before w j h

has_bound : (s : Setup) (log : Log) → IsLegalLog s log → (w j : ℕ) → holding log w ≡ Some j → w < s.workers
has_bound s _ nothing w j h = cc
has_bound s _ (more log e r before said) w j h = bound_by s log e r said (has_bound s log before) w j h

-- a worker has the job that stands at this place
record HasIt (s : Setup) (log : Log) (q : ℕ) : Type 0 where
  worker : ℕ
  job : ℕ
  holds : holding log worker ≡ Some job
  at : job_place (turn s log) job ≡ q

-- of an open night each job that is drawn is done, or a worker has it
abbrev AreKept : Setup → Log → Type 0
AreKept s log = (q : ℕ) → has (drawn_places s log) q ≡ true → (has (done_places s log) q ≡ true) ⊎ HasIt s log q

-- a Done leaves what is in turn, or nothing is drawn of what comes
abbrev one_more_done : Remaining → Remaining
one_more_done r = record { legs = r.legs; drawn = r.drawn; done = r.done + 1 }

turn_stays : (r : Remaining) → (turn_of (after_done r) ≡ turn_of r) ⊎ ((after_done r).drawn ≡ 0)
turn_stays r = at (is_last r)
  where
    at : (b : Bool) → (turn_of (cond b (untouched (drop 1 r.legs)) (one_more_done r)) ≡ turn_of r) ⊎ ((cond b (untouched (drop 1 r.legs)) (one_more_done r)).drawn ≡ 0)
    at true = inr refl
    at false = inl refl

none_at_page : (legs : List Leg) (drawn ended place view : ℕ) (rows : Counted) → turn_at legs drawn ≡ At_page place view rows → IsWithin legs drawn ended → drawn ≡ 0
none_at_page [] drawn ended place view rows e within = within.0
none_at_page (Page q v r ∷ legs) drawn ended place view rows e within = within.0
none_at_page (Wave q m ∷ legs) drawn ended place view rows e within = cc

in_a_wave : (legs : List Leg) (drawn ended job : ℕ) → IsWithin legs drawn ended → job < drawn → (place : ℕ) × (jobs : ℕ) × (turn_at legs drawn ≡ In_wave place jobs drawn)
in_a_wave [] drawn ended job within l = let z = within.0 in absurd (omega (arith, z, l))
in_a_wave (Page q v r ∷ legs) drawn ended job within l = let z = within.0 in absurd (omega (arith, z, l))
in_a_wave (Wave q m ∷ legs) drawn ended job within l = (q, m, refl)

drew_left : (s : Setup) (log : Log) (w k : ℕ) → remaining s (Drew w k ∷ log) ≡ after_draw (remaining s log)
unfolding Rattle.wh_core.specs.Nights.published
drew_left s log w k = refl

finished_left : (s : Setup) (log : Log) (w : ℕ) → remaining s (Finished w ∷ log) ≡ after_done (remaining s log)
unfolding Rattle.wh_core.specs.Nights.published
finished_left s log w = refl

no_job : (o : Option ℕ) (j : ℕ) → o ≡ None → o ≡ Some j → ⊥
no_job o j free held = let f : ◌≡◌ {A = Option ℕ} None (Some j) = sym free ∙ held in cc

-- a worker draws a job
drew_kept : (s : Setup) (log : Log) (w k place jobs : ℕ) → holding log w ≡ None → turn s log ≡ In_wave place jobs k → AreKept s log → AreKept s (Drew w k ∷ log)
drew_kept s log w k place jobs free wave before q t =
    let legs = wave_legs (remaining s log).legs (remaining s log).drawn place jobs k wave in
    let now : turn s (Drew w k ∷ log) ≡ In_wave place jobs (k + 1) = ap turn_of (drew_left s log w k) ∙ (λ i. turn_at (legs.1 i) (legs.2 i + 1)) in
    let same : (j : ℕ) → job_place (turn s (Drew w k ∷ log)) j ≡ job_place (turn s log) j = λ j. ap (λ x. job_place x j) now ∙ sym (ap (λ x. job_place x j) wave) in
    ⊎_elim
    (λ (f : job_place (turn s log) k ≡ q). inr (record { worker = w; job = k; holds = ap (λ b. cond b (Some k) (holding log w)) (eq-eqb w w refl); at = same k ∙ f }))
    (λ (m : has (drawn_places s log) q ≡ true). ⊎_elim
    (λ (d : has (done_places s log) q ≡ true). inl d)
    (λ (h : HasIt s log q).
    inr (record {
      worker = h.worker;
      job = h.job;
      holds = ap (λ b. cond b (Some k) (holding log h.worker)) (ne_eqb w h.worker (λ e. no_job (holding log w) h.job free (ap (holding log) e ∙ h.holds))) ∙ h.holds;
      at = same h.job ∙ h.at;
    }))
    (before q m))
    (head_or (job_place (turn s log) k) q (drawn_places s log) t)

-- a worker is done with its job, and others have theirs, if something is drawn of what is in turn then
module _ (s : Setup) (log : Log) (w job place jobs drawn : ℕ) (holds : holding log w ≡ Some job) (wave : turn s log ≡ In_wave place jobs drawn) (q : ℕ) where
  done_is : done_places s (Finished w ∷ log) ≡ (place + job) ∷ done_places s log
  done_is = λ i. held_place (wave i) (holds i) ++ done_places s log

  is_done_at : (x : ℕ) → has ((place + job) ∷ done_places s log) x ≡ true → has (done_places s (Finished w ∷ log)) x ≡ true
  is_done_at x h = subst (λ l. has l x ≡ true) (sym done_is) h

  own_done : (h : HasIt s log q) → w ≡ h.worker → has (done_places s (Finished w ∷ log)) q ≡ true
  own_done h same =
      let one : job ≡ h.job = same_Some job h.job (sym holds ∙ ap (holding log) same ∙ h.holds) in
      let here : place + job ≡ q = ap (λ j. place + j) one ∙ sym (ap (λ x. job_place x h.job) wave) ∙ h.at in
      subst (λ x. has (done_places s (Finished w ∷ log)) x ≡ true) here (is_done_at (place + job) (has-head (place + job) (done_places s log)))

  other_kept : (later_drawn : ℕ) → (remaining s (Finished w ∷ log)).drawn ≡ later_drawn → ((u j : ℕ) → holding (Finished w ∷ log) u ≡ Some j → j < later_drawn) → (h : HasIt s log q)
      → holding (Finished w ∷ log) h.worker ≡ Some h.job → HasIt s (Finished w ∷ log) q
  other_kept later_drawn is few_drawn h still =
      ⊎_elim
      (λ (stays : turn_of (after_done (remaining s log)) ≡ turn_of (remaining s log)).
      let same : turn s (Finished w ∷ log) ≡ turn s log = ap turn_of (finished_left s log w) ∙ stays in
      record { worker = h.worker; job = h.job; holds = still; at = ap (λ x. job_place x h.job) same ∙ h.at })
      (λ (none_drawn : (after_done (remaining s log)).drawn ≡ 0).
      let less : h.job < later_drawn = few_drawn h.worker h.job still in
      let zero_drawn : later_drawn ≡ 0 = sym is ∙ ap (λ (r : Remaining). r.drawn) (finished_left s log w) ∙ none_drawn in
      absurd (omega (arith, less, zero_drawn)))
      (turn_stays (remaining s log))

  finished_kept : (later_drawn : ℕ) → (remaining s (Finished w ∷ log)).drawn ≡ later_drawn → ((u j : ℕ) → holding (Finished w ∷ log) u ≡ Some j → j < later_drawn)
      → (has (done_places s log) q ≡ true) ⊎ HasIt s log q → (has (done_places s (Finished w ∷ log)) q ≡ true) ⊎ HasIt s (Finished w ∷ log) q
  finished_kept later_drawn is few_drawn before =
      ⊎_elim
      (λ (d : has (done_places s log) q ≡ true). inl (is_done_at q (has-tail (place + job) q (done_places s log) d)))
      (λ (h : HasIt s log q). elim (eqb w h.worker) as (λ b. eqb w h.worker ≡ b → (has (done_places s (Finished w ∷ log)) q ≡ true) ⊎ HasIt s (Finished w ∷ log) q) [
        | true ↦ λ e. inl (own_done h (eqb-true w h.worker e))
        | false ↦ λ e. inr (other_kept later_drawn is few_drawn h (ap (λ b. cond b None (holding log h.worker)) e ∙ h.holds))
      ] refl)
      before

-- where nothing of a night is done
moved_kept : (s : Setup) (log later : Log) → turn s later ≡ turn s log → ((w : ℕ) → holding later w ≡ holding log w) → drawn_places s later ≡ drawn_places s log → done_places s later ≡ done_places s log
    → AreKept s log → AreKept s later
moved_kept s log later same_turn same_jobs same_drawn same_done before q t =
    ⊎_elim
    (λ (d : has (done_places s log) q ≡ true). inl (subst (λ l. has l q ≡ true) (sym same_done) d))
    (λ (h : HasIt s log q). inr (record { worker = h.worker; job = h.job; holds = same_jobs h.worker ∙ h.holds; at = ap (λ x. job_place x h.job) same_turn ∙ h.at }))
    (before q (subst (λ l. has l q ≡ true) same_drawn t))

paged_kept : (s : Setup) (log : Log) → ((w j : ℕ) → holding log w ≡ Some j → ⊥) → AreKept s log → AreKept s (Paged_in ∷ log)
paged_kept s log none_held before q t =
    ⊎_elim (λ (d : has (done_places s log) q ≡ true). inl d) (λ (h : HasIt s log q). absurd (none_held h.worker h.job h.holds)) (before q t)

kept : (s : Setup) (log : Log) → AreDeeds s log → is_open log ≡ true → AreKept s log
unfolding Rattle.wh_core.specs.Nights.published has
kept s _ none e = cc
kept s _ (one_more log Began before deed) e = λ q t. absurd (false≢true t)
kept s _ (one_more log (Drew w k) before deed) e = drew_kept s log w k deed.2 deed.3 deed.1 deed.4 (kept s log before deed.0)
kept s _ (one_more log (Finished w) before deed) e =
    let later = underway s (Finished w ∷ log) (one_more log (Finished w) before deed) e in
    λ q t. finished_kept s log w deed.1 deed.3 deed.4 deed.5 deed.2 deed.6 q later.drawn (ap (λ (r : Remaining). r.drawn) later.is) (λ u j h. (later.held u j h).0) (kept s log before deed.0 q t)
kept s _ (one_more log Paged_in before deed) e =
    let u = underway s log before deed.0 in
    let at : turn_at u.rest u.drawn ≡ At_page deed.1 deed.2 deed.3 = ap turn_of (sym u.is) ∙ deed.4 in
    let none_drawn : u.drawn ≡ 0 = none_at_page u.rest u.drawn u.ended deed.1 deed.2 deed.3 at u.within in
    paged_kept s log (λ w j h. (let less : j < u.drawn = (u.held w j h).0 in omega (arith, less, none_drawn))) (kept s log before deed.0)
kept s _ (one_more log Committed before deed) e = absurd (false≢true e)
kept s _ (one_more log Gave_up before deed) e = absurd (false≢true e)
kept s _ (one_more log (Sat_down d v) before deed) e = moved_kept s log (Sat_down d v ∷ log) refl (λ w. refl) refl refl (kept s log before e)
kept s _ (one_more log (Turned d v page) before deed) e = moved_kept s log (Turned d v page ∷ log) refl (λ w. refl) refl refl (kept s log before e)
kept s _ (one_more log (Left d) before deed) e = moved_kept s log (Left d ∷ log) refl (λ w. refl) refl refl (kept s log before e)

-- ---- how many

drawn_count : (s : Setup) (log : Log) → is_open log ≡ true → length (drawn_places s log) ≡ jobs_drawn log
drawn_count s [] e = cc
drawn_count s (Began ∷ log) e = refl
drawn_count s (Drew w n ∷ log) e = let r = drawn_count s log e in omega (arith, r)
drawn_count s (Finished w ∷ log) e = drawn_count s log e
drawn_count s (Paged_in ∷ log) e = drawn_count s log e
drawn_count s (Committed ∷ log) e = absurd (false≢true e)
drawn_count s (Gave_up ∷ log) e = absurd (false≢true e)
drawn_count s (Sat_down d v ∷ log) e = drawn_count s log e
drawn_count s (Turned d v page ∷ log) e = drawn_count s log e
drawn_count s (Left d ∷ log) e = drawn_count s log e

done_count : (s : Setup) (log : Log) → AreDeeds s log → is_open log ≡ true → length (done_places s log) ≡ jobs_done log
done_count s _ none e = cc
done_count s _ (one_more log Began before deed) e = refl
done_count s _ (one_more log (Drew w n) before deed) e = done_count s log before deed.0
done_count s _ (one_more log (Finished w) before deed) e =
    let r = done_count s log before deed.0 in
    let one : length (held_place (turn s log) (holding log w) ++ done_places s log) ≡ suc (length (done_places s log)) = ap (λ o. length (held_place (turn s log) o ++ done_places s log)) deed.2 in
    omega (arith, one, r)
done_count s _ (one_more log Paged_in before deed) e = done_count s log before deed.0
done_count s _ (one_more log Committed before deed) e = absurd (false≢true e)
done_count s _ (one_more log Gave_up before deed) e = absurd (false≢true e)
done_count s _ (one_more log (Sat_down d v) before deed) e = done_count s log before e
done_count s _ (one_more log (Turned d v page) before deed) e = done_count s log before e
done_count s _ (one_more log (Left d) before deed) e = done_count s log before e

falls_apart : (ps : List ℕ) → falls ps → Distinct ps
unfolding Distinct
falls_apart [] f = tt
falls_apart (p ∷ ps) f = (
  elim (has ps p) as (λ b. has ps p ≡ b → b ≡ false) [
    | true ↦ λ t. let l = f.0 p t in absurd (omega (arith, l))
    | false ↦ λ t. refl
  ] refl,
  falls_apart ps f.1,
)

-- where no worker has a job, each that is drawn is done
pub rests_now : (s : Setup) (log : Log) → IsLegalLog s log → is_open log ≡ true → ((w : ℕ) → w < s.workers → holding log w ≡ None) → (remaining s log).drawn ≡ (remaining s log).done
rests_now s log legal opened free =
    let deeds = deeds_of s log legal in
    let u = underway s log deeds opened in
    let all_done : (q : ℕ) → has (drawn_places s log) q ≡ true → has (done_places s log) q ≡ true =
    λ q t. ⊎_elim (λ d. d) (λ (h : HasIt s log q). (let f : ◌≡◌ {A = Option ℕ} None (Some h.job) = sym (free h.worker (has_bound s log legal h.worker h.job h.holds)) ∙ h.holds in cc)) (kept s log deeds opened q t) in
    let most = length-le_members (drawn_places s log) (done_places s log) (falls_apart (drawn_places s log) u.falling) all_done in
    let a = drawn_count s log opened in
    let b = done_count s log deeds opened in
    let c = counted s log deeds opened in
    let d : jobs_drawn log + jobs_of (remaining s log).legs ≡ jobs_of (legs_of (night s log)) + (remaining s log).drawn = c.drawn_are in
    let f : jobs_done log + jobs_of (remaining s log).legs ≡ jobs_of (legs_of (night s log)) + (remaining s log).done = c.done_are in
    let each = u.each in
    let least = few u.done u.drawn u.distinct u.below in
    let drawn_is : (remaining s log).drawn ≡ u.drawn = ap (λ (r : Remaining). r.drawn) u.is in
    let done_is : (remaining s log).done ≡ u.ended = ap (λ (r : Remaining). r.done) u.is in
    omega (arith, most, a, b, d, f, each, least, drawn_is, done_is)

-- ---- workers are done

-- this log goes on from another by events of the night alone, and in it the night is open
pub record IsHere (s : Setup) (n : Night) (from log : Log) : Type 0 where
  pub legal : IsLegalLog s log
  pub opened : is_open log ≡ true
  pub is : night s log ≡ n
  pub start : start_of s log ≡ start_of s from
  pub begun : nights_begun log ≡ nights_begun from
  pub alone : NightsGoOnAlone s from log

module _ (s : Setup) (n : Night) (passed : (p : ℕ) → IsPassedAt n p) (from : Log) where
  all_passed : (log : Log) → night s log ≡ n → (places : List ℕ) → ArePassedAt (night s log) places
  all_passed log is places =
      let each : (p : ℕ) → IsPassedAt (night s log) p = λ p. subst (λ m. IsPassedAt m p) (sym is) (passed p) in
      λ k d l. each (slice_index_or places k d)

  is_done : (log : Log) (w job : ℕ) → IsHere s n from log → holding log w ≡ Some job → IsReply s log (event.Done w) reply.Done
  is_done log w job u holds =
      let a = underway s log (deeds_of s log u.legal) u.opened in
      let wave = in_a_wave a.rest a.drawn a.ended job a.within (a.held w job holds).0 in
      let now : turn s log ≡ In_wave wave.0 wave.1 a.drawn = ap turn_of a.is ∙ wave.2 in
      let last : Bool = is_last (remaining s log) in
      let after : Turn = turn_of (after_done (remaining s log)) in
      onward (nat_le s.workers w) cause.NoWorker _ reply.Done (le_false s.workers w (has_bound s log u.legal w job holds))
      (onward (not (is_open log)) cause.NoNight _ reply.Done (ap not u.opened)
      (subst (λ h. IsRuled (done_by (night s log) (turn s log) last after h) reply.Done) (sym holds)
      (subst (λ t. IsRuled (done_by (night s log) t last after (Some job)) reply.Done) (sym now) (inl (all_passed log u.is (carried_by_done (night s log) wave.0 wave.1 job last after), refl)))))

  one_done : (log : Log) (w job : ℕ) → IsHere s n from log → holding log w ≡ Some job → IsHere s n from (Finished w ∷ log)
  unfolding Rattle.wh_core.specs.Nights.published
  one_done log w job u holds = record {
    legal = more log (event.Done w) reply.Done u.legal (is_done log w job u holds);
    opened = u.opened;
    is = u.is;
    start = u.start;
    begun = u.begun;
    alone = alone_then s from log (Finished w ∷ log) u.alone (record {
      events = event.Done w ∷ [];
      replies = reply.Done ∷ [];
      on = goes_by_one s log (event.Done w) reply.Done (is_done log w job u holds);
      no_desk = λ d. refl;
      sessions = λ d. refl;
    });
  }

  -- a log that goes on so, in which these workers have no jobs
  abbrev pub FreeBelow : ℕ → Type 0
  FreeBelow m = (later : Log) × IsHere s n from later × ((w : ℕ) → w < m → holding later w ≡ None)

  free_next : (m : ℕ) (log : Log) → IsHere s n from log → ((w : ℕ) → w < m → holding log w ≡ None) → (o : Option ℕ) → holding log m ≡ o → FreeBelow (suc m)
  free_next m log u free None e = (
    log,
    u,
    λ w l. ⊎_elim (λ k. free w k) (λ k. (let same : m ≡ w = omega (arith, k, l) in subst (λ x. holding log x ≡ None) same e)) (cases_lt w m),
  )
  free_next m log u free (Some job) e = (
    Finished m ∷ log,
    one_done log m job u e,
    λ w l. elim (eqb m w) as (λ b. eqb m w ≡ b → cond b None (holding log w) ≡ None) [
      | true ↦ λ t. refl
      | false ↦ λ t. (let apart : ¬ (m ≡ w) = λ same. false≢true (sym t ∙ eq-eqb m w same) in free w (omega (arith, apart, l)))
    ] refl,
  )

  pub free_below : (m : ℕ) (log : Log) → IsHere s n from log → FreeBelow m
  free_below zero log u = (log, u, λ w l. absurd (omega (arith, l)))
  free_below (suc m) log u = let r = free_below m log u in free_next m r.0 r.1 r.2 (holding r.0 m) refl
