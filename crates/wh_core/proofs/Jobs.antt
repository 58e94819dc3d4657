-- Each job of a night is drawn once, and done once by the worker that drew it.
use Rattle.std.proofs.Common.{◌≡◌, refl, sym, ap, ◌∙◌, subst, ℕ, ◌+◌, ◌-◌, ◌<◌, ◌≤◌, List, [], ◌∷◌, ◌++◌, length, Bool, true, false, arith, Option, Some, None, cond, eqb, ⊎_elim}
use Rattle.std.specs.Prelude.{slice_get}
use Rattle.std.proofs.lemmas.Bool.{cases_lt, eqb-true, false≢true}
use Rattle.wh_dag.specs.Shape.{Distinct, has}
use Rattle.wh_strategy.specs.declared.expression.Expression.TheVariants.{Comp}
use Rattle.wh_carry.specs.Night.{Night}
use Rattle.wh_carry.specs.Legs.{Leg, Wave, Page, Turn, In_wave, At_page, Over, turn_at}
use Rattle.wh_core.specs.Laws.{AreDrawnOnce, IsCompAt, JobsAreDrawnOnce, WorkersDoTheirJobs, done_places, done_up_to, drawn_places, drawn_up_to, falls, held_place, latest_of}
use Rattle.wh_core.specs.Log.{Log, Began, Drew, Finished, Paged_in, Committed, Gave_up, Sat_down, Turned, Left, holding, is_open, pages}
use Rattle.wh_core.specs.Nights.{Setup, night, published, remaining, turn}
use Rattle.wh_core.specs.Replies.{IsLegalLog}
use Rattle.wh_core.proofs.Deeds.{AreDeeds, deeds_of, none, one_more}
use Rattle.wh_core.proofs.Legs.{Covers, IsRising, get-within}
use Rattle.wh_core.proofs.Underway.{IsAt, front, now, start_of, underway, wave_place}

module _ (n : Night) (us vs : List ℕ) (from upto drawn : ℕ) where
  -- where a leg is in turn, the Comps before it and those drawn of it
  all_drawn : (rest : List Leg) → Covers n.list upto rest → ((p : ℕ) → p < upto → IsCompAt n.list p → has us p ≡ true) → ((j : ℕ) → j < drawn → has us (wave_place rest + j) ≡ true)
      → (p : ℕ) → IsCompAt n.list p → p < drawn_up_to n (turn_at rest drawn) → has us p ≡ true
  all_drawn [] c all wave p comp l = ⊎_elim (λ m. all p m comp) (λ m. absurd (c p m comp)) (cases_lt p upto)
  all_drawn (Page q v rows ∷ legs) c all wave p comp l = ⊎_elim (λ m. all p m comp) (λ m. absurd (c.0 p m (omega (arith, l)) comp)) (cases_lt p upto)
  all_drawn (Wave q m ∷ legs) c all wave p comp l =
      ⊎_elim (λ k. all p k comp) (λ k. ⊎_elim (λ h. absurd (c.0 p k h comp)) (λ h. let at : q + (p - q) ≡ p = omega arith in subst (λ x. has us x ≡ true) at (wave (p - q) (omega (arith, h, l)))) (cases_lt p q)) (cases_lt p upto)

  all_done : (rest : List Leg) → Covers n.list upto rest → ((p : ℕ) → p < upto → IsCompAt n.list p → has vs p ≡ true)
      → (p : ℕ) → IsCompAt n.list p → p < done_up_to n (turn_at rest drawn) → has vs p ≡ true
  all_done [] c all p comp l = ⊎_elim (λ m. all p m comp) (λ m. absurd (c p m comp)) (cases_lt p upto)
  all_done (Page q v rows ∷ legs) c all p comp l = ⊎_elim (λ m. all p m comp) (λ m. absurd (c.0 p m (omega (arith, l)) comp)) (cases_lt p upto)
  all_done (Wave q m ∷ legs) c all p comp l =
      ⊎_elim (λ k. all p k comp) (λ k. absurd (c.0 p k l comp)) (cases_lt p upto)

  comps_before : (rest : List Leg) → IsRising from rest → (p : ℕ) → IsCompAt n.list p → p < front from rest drawn → p < drawn_up_to n (turn_at rest drawn)
  comps_before [] r p comp l = get-within n.list p (Comp comp.0 comp.1) comp.2
  comps_before (Page q v rows ∷ legs) r p comp l = let f = r.0 in omega (arith, f, l)
  comps_before (Wave q m ∷ legs) r p comp l = l

pub drawn_once : JobsAreDrawnOnce
drawn_once s log legal opened =
    let a = underway s log (deeds_of s log legal) opened in
    let n : Night = night s log in
    let is : turn s log ≡ turn_at a.rest a.drawn = now n (start_of s log) (published s log) (remaining s log) (pages log) (holding log) _ _ a in
    let us : List ℕ = drawn_places s log in
    let vs : List ℕ = done_places s log in
    record {
      rising = a.falling;
      comps = λ p t.
          let c = a.drawn_comps p t in
          (c, subst (λ t. p < drawn_up_to n t) (sym is) (comps_before n us vs a.from a.upto a.drawn a.rest a.rising p c (a.drawn_before p t)));
      all_drawn = λ p c l. all_drawn n us vs a.from a.upto a.drawn a.rest a.covers a.drawn_all a.drawn_wave p c (subst (λ t. p < drawn_up_to n t) is l);
      once = a.done_once;
      drawn = a.done_drawn;
      all_done = λ p c l. all_done n us vs a.from a.upto a.drawn a.rest a.covers a.done_all p c (subst (λ t. p < done_up_to n t) is l);
    }

latest : (log : Log) (w n : ℕ) → holding log w ≡ Some n → latest_of log w ≡ Some (Drew w n)
latest [] w n e = cc
latest (Began ∷ log) w n e = cc
latest (Committed ∷ log) w n e = cc
latest (Gave_up ∷ log) w n e = cc
latest (Drew u k ∷ log) w n e = elim (eqb u w) as (λ b. eqb u w ≡ b → cond b (Some k) (holding log w) ≡ Some n → cond b (Some (Drew u k)) (latest_of log w) ≡ Some (Drew w n)) [
  | true ↦ λ t f. let same : k ≡ n = cc in λ i. Some (Drew (eqb-true u w t i) (same i))
  | false ↦ λ t f. latest log w n f
] refl e
latest (Finished u ∷ log) w n e = elim (eqb u w) as (λ b. cond b None (holding log w) ≡ Some n → cond b (Some (Finished u)) (latest_of log w) ≡ Some (Drew w n)) [
  | true ↦ λ f. cc
  | false ↦ λ f. latest log w n f
] e
latest (Paged_in ∷ log) w n e = latest log w n e
latest (Sat_down d v ∷ log) w n e = latest log w n e
latest (Turned d v page ∷ log) w n e = latest log w n e
latest (Left d ∷ log) w n e = latest log w n e

by_deed : (s : Setup) (log : Log) (w : ℕ) → AreDeeds s (Finished w ∷ log) → (n : ℕ) × (holding log w ≡ Some n)
by_deed s log w (one_more _ _ before deed) = (deed.1, deed.2)

pub workers_do : WorkersDoTheirJobs
workers_do s log w legal =
    let held = by_deed s log w (deeds_of s (Finished w ∷ log) legal) in
    (held.0, latest log w held.0 held.1, ap (λ o. held_place (turn s log) o ++ done_places s log) held.1)
