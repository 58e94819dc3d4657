-- An open night of which every expression is passed, and in which no worker is at work, goes on to its end: by one worker, which draws each
-- job that is left and is done with it, and each page that is left is put.
use Rattle.std.proofs.Common.{◌≡◌, refl, sym, ap, ◌∙◌, subst, ℕ, zero, suc, ◌+◌, ◌-◌, ◌<◌, ◌≤◌, List, [], ◌∷◌, length, Bool, true, not, arith, Some, None}
use mathlib.Core.Logic.{inl}
use Rattle.std.specs.Prelude.{is_some, nat_le, slice_index_or}
use Rattle.wh_row.specs.Weigh.{Counted}
use Rattle.wh_carry.specs.Night.{Night, ArePassedAt, IsPassedAt}
use Rattle.wh_carry.specs.Legs.{Leg, Wave, Page, Turn, In_wave, At_page, after_done, after_draw, after_page, is_last, turn_of}
use Rattle.wh_core.specs.declared.event.Event.TheVariants as event
use Rattle.wh_core.specs.declared.reply.Cause.TheVariants as cause
use Rattle.wh_core.specs.declared.reply.Reply.TheVariants as reply
use Rattle.wh_core.specs.Log.{Log, Drew, Finished, Paged_in, holding, is_open, nights_begun}
use Rattle.wh_core.specs.Nights.{Setup, night, remaining, remaining_in, turn}
use Rattle.wh_core.specs.Replies.{IsLegalLog, IsReply, IsRuled, carried_by_done, done_by, more, page_ruling, take_ruling}
use Rattle.wh_core.specs.Standing.{HaveJobs, IsWithin}
use Rattle.wh_core.proofs.Steps.{le_false, onward}
use Rattle.wh_core.proofs.Underway.{fresh, night-paged, off_the_list, on_the_list, start_of}
use Rattle.wh_headline.specs.Growing.{NightsGoOnAlone}
use Rattle.wh_headline.proofs.Going.{alone_then, goes_by_one, goes_then}

-- This log goes on from another by events of the night alone. In it the night is open: these legs of it are left, of the first of which so
-- many jobs are done, and the first worker holds none
pub record IsUpTo (s : Setup) (n : Night) (from : Log) (legs : List Leg) (done : ℕ) (log : Log) : Type 0 where
  pub legal : IsLegalLog s log
  pub opened : is_open log ≡ true
  pub is : night s log ≡ n
  pub left : remaining_in n log ≡ record { legs = legs; drawn = done; done = done }
  pub free : holding log 0 ≡ None
  pub start : start_of s log ≡ start_of s from
  pub begun : nights_begun log ≡ nights_begun from
  pub alone : NightsGoOnAlone s from log

module _ (s : Setup) (some : 1 ≤ s.workers) (n : Night) (passed : (p : ℕ) → IsPassedAt n p) (from : Log) where
  all_passed : (log : Log) → night s log ≡ n → (places : List ℕ) → ArePassedAt (night s log) places
  all_passed log is places =
      let each : (p : ℕ) → IsPassedAt (night s log) p = λ p. subst (λ m. IsPassedAt m p) (sym is) (passed p) in
      λ k d l. each (slice_index_or places k d)

  -- ---- a wave

  module _ (place jobs : ℕ) (legs : List Leg) where
    draws : (k : ℕ) (log : Log) → k < jobs → IsUpTo s n from (Wave place jobs ∷ legs) k log → IsReply s log (event.Take 0) (reply.Job k)
    draws k log l u =
        let now : turn s log ≡ In_wave place jobs k = (λ i. turn_of (remaining_in (u.is i) log)) ∙ ap turn_of u.left in
        onward (nat_le s.workers 0) cause.NoWorker _ (reply.Job k) (le_false s.workers 0 (omega (arith, some)))
        (onward (not (is_open log)) cause.NoNight _ (reply.Job k) (ap not u.opened)
        (onward (is_some (holding log 0)) cause.Busy _ (reply.Job k) (ap is_some u.free)
        (subst (λ t. IsRuled (take_ruling t) (reply.Job k)) (sym now) (onward (nat_le jobs k) cause.NoJob _ (reply.Job k) (le_false jobs k l) refl))))

    is_done : (k : ℕ) (log : Log) → k < jobs → IsUpTo s n from (Wave place jobs ∷ legs) k log → IsReply s (Drew 0 k ∷ log) (event.Done 0) reply.Done
    unfolding Rattle.wh_core.specs.Nights.published
    is_done k log l u =
        let next : Log = Drew 0 k ∷ log in
        let now : turn s next ≡ In_wave place jobs (k + 1) = (λ i. turn_of (after_draw (remaining_in (u.is i) log))) ∙ ap (λ r. turn_of (after_draw r)) u.left in
        let last : Bool = is_last (remaining s next) in
        let after : Turn = turn_of (after_done (remaining s next)) in
        onward (nat_le s.workers 0) cause.NoWorker _ reply.Done (le_false s.workers 0 (omega (arith, some)))
        (onward (not (is_open next)) cause.NoNight _ reply.Done (ap not u.opened)
        (subst (λ t. IsRuled (done_by (night s next) t last after (Some k)) reply.Done) (sym now) (inl (all_passed log u.is (carried_by_done (night s next) place jobs k last after), refl))))

    legal_now : (k : ℕ) (log : Log) → k < jobs → IsUpTo s n from (Wave place jobs ∷ legs) k log → IsLegalLog s (Finished 0 ∷ Drew 0 k ∷ log)
    legal_now k log l u = more (Drew 0 k ∷ log) (event.Done 0) reply.Done (more log (event.Take 0) (reply.Job k) u.legal (draws k log l u)) (is_done k log l u)

    alone_now : (k : ℕ) (log : Log) → k < jobs → IsUpTo s n from (Wave place jobs ∷ legs) k log → NightsGoOnAlone s from (Finished 0 ∷ Drew 0 k ∷ log)
    alone_now k log l u =
        let next : Log = Drew 0 k ∷ log in
        let last : Log = Finished 0 ∷ Drew 0 k ∷ log in
        alone_then s from log last u.alone (record {
          events = event.Take 0 ∷ event.Done 0 ∷ [];
          replies = reply.Job k ∷ reply.Done ∷ [];
          on = goes_then s log next last (event.Take 0 ∷ []) (event.Done 0 ∷ []) (reply.Job k ∷ []) (reply.Done ∷ [])
              (goes_by_one s log (event.Take 0) (reply.Job k) (draws k log l u)) (goes_by_one s next (event.Done 0) reply.Done (is_done k log l u));
          no_desk = λ d. refl;
          sessions = λ d. refl;
        })

    job_done : (k : ℕ) (log : Log) → k + 1 < jobs → IsUpTo s n from (Wave place jobs ∷ legs) k log → IsUpTo s n from (Wave place jobs ∷ legs) (k + 1) (Finished 0 ∷ Drew 0 k ∷ log)
    unfolding Rattle.wh_core.specs.Nights.published
    job_done k log l u = record {
      legal = legal_now k log (omega (arith, l)) u;
      opened = u.opened;
      is = u.is;
      left = ap (λ r. after_done (after_draw r)) u.left ∙ on_the_list place jobs (k + 1) k legs l;
      free = refl;
      start = u.start;
      begun = u.begun;
      alone = alone_now k log (omega (arith, l)) u;
    }

    last_done : (k : ℕ) (log : Log) → k + 1 ≡ jobs → IsUpTo s n from (Wave place jobs ∷ legs) k log → IsUpTo s n from legs 0 (Finished 0 ∷ Drew 0 k ∷ log)
    unfolding Rattle.wh_core.specs.Nights.published
    last_done k log all u = record {
      legal = legal_now k log (omega (arith, all)) u;
      opened = u.opened;
      is = u.is;
      left = ap (λ r. after_done (after_draw r)) u.left ∙ off_the_list place jobs (k + 1) k legs all;
      free = refl;
      start = u.start;
      begun = u.begun;
      alone = alone_now k log (omega (arith, all)) u;
    }

    jobs_done : (left k : ℕ) (log : Log) → k + suc left ≡ jobs → IsUpTo s n from (Wave place jobs ∷ legs) k log → (later : Log) × IsUpTo s n from legs 0 later
    jobs_done zero k log all u = (Finished 0 ∷ Drew 0 k ∷ log, last_done k log (omega (arith, all)) u)
    jobs_done (suc left) k log all u = jobs_done left (k + 1) (Finished 0 ∷ Drew 0 k ∷ log) (omega (arith, all)) (job_done k log (omega (arith, all)) u)

  -- ---- a page

  module _ (place view : ℕ) (rows : Counted) (legs : List Leg) where
    puts : (log : Log) → IsUpTo s n from (Page place view rows ∷ legs) 0 log → IsReply s log event.PageIn (reply.Paged (length rows))
    puts log u =
        let now : turn s log ≡ At_page place view rows = (λ i. turn_of (remaining_in (u.is i) log)) ∙ ap turn_of u.left in
        let after : Turn = turn_of (after_page (remaining s log)) in
        onward (not (is_open log)) cause.NoNight _ (reply.Paged (length rows)) (ap not u.opened)
        (subst (λ t. IsRuled (page_ruling (night s log) t after) (reply.Paged (length rows))) (sym now) (inl (inl (all_passed log u.is _, refl))))

    page_done : (log : Log) → IsUpTo s n from (Page place view rows ∷ legs) 0 log → IsUpTo s n from legs 0 (Paged_in ∷ log)
    page_done log u = record {
      legal = more log event.PageIn (reply.Paged (length rows)) u.legal (puts log u);
      opened = u.opened;
      is = night-paged s log ∙ u.is;
      left = ap after_page u.left;
      free = u.free;
      start = u.start;
      begun = u.begun;
      alone = alone_then s from log (Paged_in ∷ log) u.alone (record {
        events = event.PageIn ∷ [];
        replies = reply.Paged (length rows) ∷ [];
        on = goes_by_one s log event.PageIn (reply.Paged (length rows)) (puts log u);
        no_desk = λ d. refl;
        sessions = λ d. refl;
      });
    }

  -- ---- the night

  pub carried_on : (legs : List Leg) (done : ℕ) → HaveJobs legs → IsWithin legs done done → (log : Log) → IsUpTo s n from legs done log → (later : Log) × IsUpTo s n from [] 0 later
  carried_on [] done have within log u = (log, subst (λ k. IsUpTo s n from [] k log) within.0 u)
  carried_on (Wave place jobs ∷ legs) done have within log u =
      let some_left = within.1 in
      let r = jobs_done place jobs legs (jobs - suc done) done log (omega (arith, some_left)) u in
      carried_on legs 0 have.1 (fresh legs have.1) r.0 r.1
  carried_on (Page place view rows ∷ legs) done have within log u =
      carried_on legs 0 have (fresh legs have) (Paged_in ∷ log) (page_done place view rows legs log (subst (λ k. IsUpTo s n from (Page place view rows ∷ legs) k log) within.0 u))
