-- How far an open night has come, by how many jobs are drawn and done and how many pages are put.
use Rattle.std.proofs.Common.{◌≡◌, refl, sym, ap, ◌∙◌, subst, ℕ, zero, suc, ◌+◌, ◌<◌, ◌≤◌, List, [], ◌∷◌, ◌++◌, length, drop, Bool, true, false, arith, cond, Option, Some, None, ⊎_elim}
use Rattle.std.proofs.lemmas.Bool.{false≢true, cases_lt}
use Rattle.std.proofs.lemmas.List.{append_assoc, length-append}
use Rattle.wh_dag.specs.Shape.{Distinct, has}
use Rattle.wh_row.specs.Weigh.{Counted}
use Rattle.wh_maint.specs.Definition.{graph_of}
use Rattle.wh_strategy.specs.declared.expression.Expression.{Expression}
use Rattle.wh_store.specs.Operations.{Operation}
use Rattle.wh_store.specs.Pages.{Contents}
use Rattle.wh_carry.specs.Carry.{at_first}
use Rattle.wh_carry.specs.NightList.{puts_of}
use Rattle.wh_carry.specs.Night.{Night}
use Rattle.wh_carry.specs.Waves.{stages_of}
use Rattle.wh_carry.specs.Legs.{Leg, Wave, Page, Remaining, Turn, In_wave, At_page, Over, after_done, after_draw, after_page, legs_of, turn_at, turn_of, untouched}
use Rattle.wh_core.specs.Headline.{before_comp, comps, jobs_done, jobs_drawn, pages_for}
use Rattle.wh_core.specs.Log.{Log, Began, Drew, Finished, Paged_in, Committed, Gave_up, Sat_down, Turned, Left, holding, is_open, pages}
use Rattle.wh_core.specs.Nights.{Setup, night, published, remaining, remaining_in, turn}
use Rattle.wh_core.specs.Standing.{IsWithin}
use Rattle.wh_core.proofs.Counts.{AreDifferences, before_front, front_differences, jobs-append, jobs_are_comps, jobs_of, pages_for-append, puts_count}
use Rattle.wh_core.proofs.Deeds.{AreDeeds, none, one_more}
use Rattle.wh_core.proofs.Puts.{IsFront, front_of}
use Rattle.wh_core.proofs.Stages.{stages_join}
use Rattle.wh_core.proofs.Underway.{IsAt, Underway, few, head_or, night-paged, now, of_legs, off_the_list, on_the_list, ops-append, ops_of, over_legs, start_of, underway, wave_legs}

-- ---- jobs

-- of the jobs of a night so many are drawn and done: those of the legs that are over, and those of the first that is left
pub record AreCounted (n : Night) (r : Remaining) (drawn done : ℕ) : Type 0 where
  pub drawn_are : drawn + jobs_of r.legs ≡ jobs_of (legs_of n) + r.drawn
  pub done_are : done + jobs_of r.legs ≡ jobs_of (legs_of n) + r.done

-- one job of the wave in turn more is done, perhaps the last one
one_done : (n : Night) (d e place jobs drawn ended : ℕ) (later : List Leg) → ended + 1 ≤ drawn → drawn ≤ jobs → ended < jobs
    → AreCounted n (of_legs drawn ended (Wave place jobs ∷ later)) d e → AreCounted n (after_done (of_legs drawn ended (Wave place jobs ∷ later))) d (e + 1)
one_done n d e place jobs drawn ended later more most some c =
    let a : d + (jobs + jobs_of later) ≡ jobs_of (legs_of n) + drawn = c.drawn_are in
    let b : e + (jobs + jobs_of later) ≡ jobs_of (legs_of n) + ended = c.done_are in
    ⊎_elim
    (λ l. subst (λ r. AreCounted n r d (e + 1)) (sym (on_the_list place jobs drawn ended later l)) (record { drawn_are = a; done_are = (let z : e + 1 + (jobs + jobs_of later) ≡ jobs_of (legs_of n) + (ended + 1) = omega (arith, b) in z) }))
    (λ l.
    let last : ended + 1 ≡ jobs = omega (arith, l, some) in
    subst (λ r. AreCounted n r d (e + 1)) (sym (off_the_list place jobs drawn ended later last))
    (record {
      drawn_are = (let z : d + jobs_of later ≡ jobs_of (legs_of n) + 0 = omega (arith, a, more, most, last) in z);
      done_are = (let z : e + 1 + jobs_of later ≡ jobs_of (legs_of n) + 0 = omega (arith, b, last) in z);
    }))
    (cases_lt (ended + 1) jobs)

page_rest : (legs : List Leg) (drawn place view : ℕ) (rows : Counted) → turn_at legs drawn ≡ At_page place view rows → (later : List Leg) × (legs ≡ Page place view rows ∷ later)
page_rest [] drawn place view rows e = cc
page_rest (Page q v r ∷ legs) drawn place view rows e =
    let a : q ≡ place = cc in
    let b : v ≡ view = cc in
    let c : r ≡ rows = cc in
    (legs, λ i. Page (a i) (b i) (c i) ∷ legs)
page_rest (Wave q m ∷ legs) drawn place view rows e = cc

one_page : (n : Night) (d e drawn ended place view : ℕ) (rows : Counted) (later : List Leg) → drawn ≡ 0 → ended ≡ 0
    → AreCounted n (of_legs drawn ended (Page place view rows ∷ later)) d e → AreCounted n (untouched later) d e
one_page n d e drawn ended place view rows later none_drawn none_done c =
    let a : d + jobs_of later ≡ jobs_of (legs_of n) + drawn = c.drawn_are in
    let b : e + jobs_of later ≡ jobs_of (legs_of n) + ended = c.done_are in
    record {
      drawn_are = (let z : d + jobs_of later ≡ jobs_of (legs_of n) + 0 = omega (arith, a, none_drawn) in z);
      done_are = (let z : e + jobs_of later ≡ jobs_of (legs_of n) + 0 = omega (arith, b, none_done) in z);
    }

-- a job that is held is drawn and not done
more_drawn : (s : Setup) (log : Log) (u : Underway s log) (w job : ℕ) → holding log w ≡ Some job → u.ended + 1 ≤ u.drawn
unfolding Distinct
more_drawn s log u w job h =
    let held = u.held w job h in
    let low : (q : ℕ) → has (job ∷ u.done) q ≡ true → q < u.drawn = λ q m. ⊎_elim (λ e. subst (λ k. k < u.drawn) e held.0) (u.below q) (head_or job q u.done m) in
    let count = few (job ∷ u.done) u.drawn (held.1, u.distinct) low in
    let each = u.each in
    omega (arith, count, each)

pub counted : (s : Setup) (log : Log) → AreDeeds s log → is_open log ≡ true → AreCounted (night s log) (remaining s log) (jobs_drawn log) (jobs_done log)
unfolding published
counted s _ none e = cc
counted s _ (one_more log Began before deed) e =
    let total : ℕ = jobs_of (legs_of (night s (Began ∷ log))) in
    record { drawn_are = (let z : 0 + total ≡ total + 0 = omega arith in z); done_are = (let z : 0 + total ≡ total + 0 = omega arith in z) }
counted s _ (one_more log (Drew w k) before deed) e =
    let c = counted s log before deed.0 in
    let a : jobs_drawn log + jobs_of (remaining s log).legs ≡ jobs_of (legs_of (night s log)) + (remaining s log).drawn = c.drawn_are in
    record {
      drawn_are = (let z : jobs_drawn log + 1 + jobs_of (remaining s log).legs ≡ jobs_of (legs_of (night s log)) + ((remaining s log).drawn + 1) = omega (arith, a) in z);
      done_are = c.done_are;
    }
counted s _ (one_more log (Finished w) before deed) e =
    let u = underway s log before deed.0 in
    let at : turn_at u.rest u.drawn ≡ In_wave deed.3 deed.4 deed.5 = sym (now (night s log) (start_of s log) (published s log) (remaining s log) (pages log) (holding log) _ _ u) ∙ deed.6 in
    let legs = wave_legs u.rest u.drawn deed.3 deed.4 deed.5 at in
    let is : remaining s log ≡ of_legs u.drawn u.ended (Wave deed.3 deed.4 ∷ legs.0) = u.is ∙ ap (of_legs u.drawn u.ended) legs.1 in
    let inside : (u.drawn ≤ deed.4) × (u.ended < deed.4) = subst (λ l. IsWithin l u.drawn u.ended) legs.1 u.within in
    subst (λ r. AreCounted (night s log) (after_done r) (jobs_drawn log) (jobs_done log + 1)) (sym is)
    (one_done (night s log) (jobs_drawn log) (jobs_done log) deed.3 deed.4 u.drawn u.ended legs.0 (more_drawn s log u w deed.1 deed.2) inside.0 inside.1
    (subst (λ r. AreCounted (night s log) r (jobs_drawn log) (jobs_done log)) is (counted s log before deed.0)))
counted s _ (one_more log Paged_in before deed) e =
    let u = underway s log before deed.0 in
    let at : turn_at u.rest u.drawn ≡ At_page deed.1 deed.2 deed.3 = sym (now (night s log) (start_of s log) (published s log) (remaining s log) (pages log) (holding log) _ _ u) ∙ deed.4 in
    let legs = page_rest u.rest u.drawn deed.1 deed.2 deed.3 at in
    let is : remaining s log ≡ of_legs u.drawn u.ended (Page deed.1 deed.2 deed.3 ∷ legs.0) = u.is ∙ ap (of_legs u.drawn u.ended) legs.1 in
    let inside : (u.drawn ≡ 0) × (u.ended ≡ 0) = subst (λ l. IsWithin l u.drawn u.ended) legs.1 u.within in
    subst (λ n. AreCounted n (after_page (remaining_in n log)) (jobs_drawn log) (jobs_done log)) (sym (night-paged s log))
    (subst (λ r. AreCounted (night s log) (after_page r) (jobs_drawn log) (jobs_done log)) (sym is)
    (one_page (night s log) (jobs_drawn log) (jobs_done log) u.drawn u.ended deed.1 deed.2 deed.3 legs.0 inside.0 inside.1
    (subst (λ r. AreCounted (night s log) r (jobs_drawn log) (jobs_done log)) is (counted s log before deed.0))))
counted s _ (one_more log Committed before deed) e = absurd (false≢true e)
counted s _ (one_more log Gave_up before deed) e = absurd (false≢true e)
counted s _ (one_more log (Sat_down d v) before deed) e = let c = counted s log before e in record { drawn_are = c.drawn_are; done_are = c.done_are }
counted s _ (one_more log (Turned d v page) before deed) e = let c = counted s log before e in record { drawn_are = c.drawn_are; done_are = c.done_are }
counted s _ (one_more log (Left d) before deed) e = let c = counted s log before e in record { drawn_are = c.drawn_are; done_are = c.done_are }

-- ---- what is left

module _ (s : Setup) (log : Log) (before : AreDeeds s log) (opened : is_open log ≡ true) where
  abbrev n : Night
  n = night s log

  abbrev u : Underway s log
  u = underway s log before opened

  turn_is : turn s log ≡ turn_at u.rest u.drawn
  turn_is = now n (start_of s log) (published s log) (remaining s log) (pages log) (holding log) _ _ u

  total : jobs_of (legs_of n) ≡ jobs_of u.over + jobs_of u.rest
  total = ap jobs_of u.split ∙ jobs-append u.over u.rest

  drawn_so_far : jobs_drawn log ≡ jobs_of u.over + u.drawn
  drawn_so_far =
      let c : jobs_drawn log + jobs_of u.rest ≡ jobs_of (legs_of n) + u.drawn = subst (λ (r : Remaining). jobs_drawn log + jobs_of r.legs ≡ jobs_of (legs_of n) + r.drawn) u.is (counted s log before opened).drawn_are in
      let t = total in
      omega (arith, c, t)

  done_so_far : jobs_done log ≡ jobs_of u.over + u.ended
  done_so_far =
      let c : jobs_done log + jobs_of u.rest ≡ jobs_of (legs_of n) + u.ended = subst (λ (r : Remaining). jobs_done log + jobs_of r.legs ≡ jobs_of (legs_of n) + r.done) u.is (counted s log before opened).done_are in
      let t = total in
      omega (arith, c, t)

  wave : (place jobs drawn : ℕ) → turn s log ≡ In_wave place jobs drawn → (later : List Leg) × (u.rest ≡ Wave place jobs ∷ later) × (u.drawn ≡ drawn)
  wave place jobs drawn at = wave_legs u.rest u.drawn place jobs drawn (sym turn_is ∙ at)

  -- in a wave all of whose jobs are drawn, one is not done
  pub one_is_undone : (place jobs drawn : ℕ) → turn s log ≡ In_wave place jobs drawn → jobs ≤ drawn → jobs_done log < jobs_drawn log
  one_is_undone place jobs drawn at all =
      let w = wave place jobs drawn at in
      let inside : (u.drawn ≤ jobs) × (u.ended < jobs) = subst (λ l. IsWithin l u.drawn u.ended) w.1 u.within in
      let a = drawn_so_far in
      let b = done_so_far in
      let same = w.2 in
      let some = inside.1 in
      omega (arith, a, b, same, some, all)

  -- where a wave is in turn, some Comp is not done
  pub comps_are_left : (place jobs drawn : ℕ) → turn s log ≡ In_wave place jobs drawn → jobs_done log < comps n.list
  comps_are_left place jobs drawn at =
      let w = wave place jobs drawn at in
      let inside : (u.drawn ≤ jobs) × (u.ended < jobs) = subst (λ l. IsWithin l u.drawn u.ended) w.1 u.within in
      let b = done_so_far in
      let t : jobs_of (legs_of n) ≡ jobs_of u.over + (jobs + jobs_of w.0) = total ∙ ap (λ l. jobs_of u.over + jobs_of l) w.1 in
      let some = inside.1 in
      let all = jobs_are_comps n in
      omega (arith, b, t, some, all)

  -- where a wave is in turn of which a job is not drawn, some Comp is not drawn
  pub comps_are_undrawn : (place jobs drawn : ℕ) → turn s log ≡ In_wave place jobs drawn → drawn < jobs → jobs_drawn log < comps n.list
  comps_are_undrawn place jobs drawn at left =
      let w = wave place jobs drawn at in
      let a = drawn_so_far in
      let same = w.2 in
      let t : jobs_of (legs_of n) ≡ jobs_of u.over + (jobs + jobs_of w.0) = total ∙ ap (λ l. jobs_of u.over + jobs_of l) w.1 in
      let all = jobs_are_comps n in
      omega (arith, a, same, t, left, all)

  -- where nothing more is in turn, all Comps are drawn
  pub all_are_drawn : turn s log ≡ Over → jobs_drawn log ≡ comps n.list
  all_are_drawn at =
      let nothing : u.rest ≡ [] = over_legs u.rest u.drawn (sym turn_is ∙ at) in
      let inside : (u.drawn ≡ 0) × (u.ended ≡ 0) = subst (λ l. IsWithin l u.drawn u.ended) nothing u.within in
      let a = drawn_so_far in
      let t : jobs_of (legs_of n) ≡ jobs_of u.over + 0 = total ∙ ap (λ l. jobs_of u.over + jobs_of l) nothing in
      let z = inside.0 in
      let all = jobs_are_comps n in
      omega (arith, a, t, z, all)

  -- where a page is in turn, more pages are to be put before the next Comp than are put, and so of the whole list
  module _ (place view : ℕ) (rows : Counted) (at : turn s log ≡ At_page place view rows) where
    rest : (later : List Leg) × (u.rest ≡ Page place view rows ∷ later)
    rest = page_rest u.rest u.drawn place view rows (sym turn_is ∙ at)

    split : legs_of n ≡ (u.over ++ Page place view rows ∷ []) ++ rest.0
    split = u.split ∙ ap (λ l. u.over ++ l) rest.1 ∙ sym (append_assoc u.over (Page place view rows ∷ []) rest.0)

    front : IsFront (graph_of n.catalog) n.changes n.keys 0 (at_first n.tables) n.list (u.over ++ Page place view rows ∷ []) rest.0
    front = subst (λ l. IsFront (graph_of n.catalog) n.changes n.keys 0 (at_first n.tables) l (u.over ++ Page place view rows ∷ []) rest.0) (stages_join [] n.list)
        (front_of (graph_of n.catalog) n.changes n.keys 0 (at_first n.tables) (stages_of n.list) (u.over ++ Page place view rows ∷ []) rest.0 split)

    few_pages : pages log < length (puts_of (graph_of n.catalog) n.changes n.keys front.front (at_first n.tables))
    few_pages =
        let a : length (puts_of (graph_of n.catalog) n.changes n.keys front.front (at_first n.tables)) ≡ length (ops_of (u.over ++ Page place view rows ∷ []) ++ front.more) = ap length front.puts in
        let b = length-append (ops_of (u.over ++ Page place view rows ∷ [])) front.more in
        let c : length (ops_of (u.over ++ Page place view rows ∷ [])) ≡ length (ops_of u.over ++ ops_of (Page place view rows ∷ [])) = ap length (ops-append u.over (Page place view rows ∷ [])) in
        let d = length-append (ops_of u.over) (ops_of (Page place view rows ∷ [])) in
        let p = u.paged in
        omega (arith, a, b, c, d, p)

    comps_before : comps front.front ≡ jobs_drawn log
    comps_before =
        let a = front.comps_are in
        let b = jobs-append u.over (Page place view rows ∷ []) in
        let inside : (u.drawn ≡ 0) × (u.ended ≡ 0) = subst (λ l. IsWithin l u.drawn u.ended) rest.1 u.within in
        let z = inside.0 in
        let c = drawn_so_far in
        omega (arith, a, b, z, c)

    module _ (old new : Contents) (differ : AreDifferences (graph_of n.catalog) n.changes old new n.list (at_first n.tables)) where
      front_pages : pages log < pages_for n.keys old new front.front
      front_pages =
          subst (λ k. pages log < k)
          (puts_count (graph_of n.catalog) n.changes n.keys old new front.front (at_first n.tables)
          (front_differences (graph_of n.catalog) n.changes n.keys old new front.front front.back (at_first n.tables)
          (subst (λ l. AreDifferences (graph_of n.catalog) n.changes old new l (at_first n.tables)) front.split differ)))
          few_pages

      pub pages_before_comp : pages log < pages_for n.keys old new (before_comp (jobs_drawn log) n.list)
      pages_before_comp =
          let same : before_comp (jobs_drawn log) n.list ≡ front.front ++ before_comp 0 front.back =
          (λ i. before_comp (sym comps_before i) (front.split i)) ∙ before_front front.front front.back in
          let a : pages_for n.keys old new (before_comp (jobs_drawn log) n.list) ≡ pages_for n.keys old new (front.front ++ before_comp 0 front.back) = ap (pages_for n.keys old new) same in
          let b = pages_for-append n.keys old new front.front (before_comp 0 front.back) in
          let c = front_pages in
          omega (arith, a, b, c)

      pub pages_in_all : pages log < pages_for n.keys old new n.list
      pages_in_all =
          let a : pages_for n.keys old new n.list ≡ pages_for n.keys old new (front.front ++ front.back) = ap (pages_for n.keys old new) front.split in
          let b = pages_for-append n.keys old new front.front front.back in
          let c = front_pages in
          omega (arith, a, b, c)
