-- Where an open night stands: which legs are over, which jobs of the wave in turn are done, and what is published.
use Rattle.std.proofs.Common.{◌≡◌, refl, sym, ap, ◌∙◌, subst, ℕ, zero, suc, ◌+◌, ◌-◌, ◌<◌, ◌≤◌, List, [], ◌∷◌, ◌++◌, map, length, drop, Bool, true, false, not, arith, Option, Some, None, cond, eqb, ◌||◌, ⊎_elim}
use mathlib.Core.Logic.{◌⊎◌, inl, inr}
use Rattle.std.specs.Prelude.{nat_le, is_some, slice_get}
use Rattle.std.specs.List.{All, flat_map, range_with_len}
use Rattle.std.proofs.lemmas.Bool.{eqb-true, eq-eqb, ne_eqb, false≢true, cases_lt}
use Rattle.std.proofs.lemmas.List.{append-nil, append_assoc, length-append, length-map}
use Rattle.std.proofs.lemmas.List.FromFn.{get_or-range_with_len, length-range_with_len}
use Rattle.std.proofs.lemmas.List.Elements.{All-get_or}
use Rattle.wh_dag.specs.Shape.{Distinct, has}
use Rattle.wh_dag.proofs.Members.{has-head, has-tail, length-le_members}
use Rattle.wh_row.specs.Weigh.{Counted}
use Rattle.wh_store.specs.Operations.{Operation, Opens, Writes, Commits, Gives_up}
use Rattle.wh_store.specs.Versions.{Versions, after, opened, versions_from, versions_of}
use Rattle.wh_core.specs.Log.{Log, Began, Drew, Finished, Paged_in, Committed, Gave_up, Sat_down, Turned, Left, last_begun, nights_begun, is_open, pages, holding}
use Rattle.wh_core.specs.Nights.{Setup, next_night, night, night_from, last_night, page_in_turn, published, remaining, remaining_in, turn, turn_in, versions}
use Rattle.wh_core.proofs.Stages.{stages_join}
use Rattle.wh_core.proofs.Deeds.{AreDeeds, IsDeed, none, one_more}
use Rattle.wh_row.specs.Bag.{Bag}
use Rattle.wh_maint.specs.View.{ViewGraph}
use Rattle.wh_maint.specs.Definition.{graph_of}
use Rattle.wh_strategy.specs.declared.expression.Expression.{Expression}
use Rattle.wh_strategy.specs.declared.expression.Expression.TheVariants.{Comp, Inst}
use Rattle.wh_carry.specs.declared.stages.Job.{Job}
use Rattle.wh_carry.specs.declared.stages.Stage.{Stage}
use Rattle.wh_carry.specs.declared.stages.Stage.TheVariants as stage
use Rattle.wh_carry.specs.Carry.{State, at_first}
use Rattle.wh_carry.specs.Waves.{comp_of, expressions_of, is_target_among, stages_after, stages_of, wave_of}
use Rattle.wh_carry.specs.NightList.{inst_pages}
use Rattle.wh_core.specs.Laws.{IsCompAt, done_places, drawn_places, falls, held_place, job_place}
use Rattle.wh_core.specs.Replies.{carried_by_done}
use Rattle.wh_core.specs.Standing.{HaveJobs, IsWithin}
use Rattle.wh_carry.specs.Night.{Night, ArePassedAt, IsPassedAt, places_from}
use Rattle.wh_carry.specs.Legs.{Leg, Wave, Page, Remaining, Turn, In_wave, At_page, Over, after_done, after_draw, after_page, carried_up_to, is_last, is_one_left, legs_of, turn_at, turn_of, untouched}
use Rattle.wh_carry.proofs.Places.{places_are}
use Rattle.wh_core.proofs.Legs.{Covers, IsRising, are_covered, are_rising, have_jobs}

-- what the pages among these legs publish
abbrev pub ops_of : List Leg → List Operation
ops_of [] = []
ops_of (Wave place jobs ∷ legs) = ops_of legs
ops_of (Page place view rows ∷ legs) = Writes view rows ∷ ops_of legs

pub ops-append : (a b : List Leg) → ops_of (a ++ b) ≡ ops_of a ++ ops_of b
ops-append [] b = refl
ops-append (Wave place jobs ∷ a) b = ops-append a b
ops-append (Page place view rows ∷ a) b = ap (λ l. Writes view rows ∷ l) (ops-append a b)

-- the place of the wave in turn
abbrev pub wave_place : List Leg → ℕ
wave_place [] = 0
wave_place (Wave place jobs ∷ legs) = place
wave_place (Page place view rows ∷ legs) = 0

-- all that is drawn so far stands before this place
abbrev pub front : ℕ → List Leg → ℕ → ℕ
front from [] drawn = from
front from (Wave place jobs ∷ legs) drawn = place + drawn
front from (Page place view rows ∷ legs) drawn = from

-- these legs are left, and of the first so many jobs are drawn and done
abbrev pub of_legs : ℕ → ℕ → List Leg → Remaining
of_legs drawn ended legs = record { legs = legs; drawn = drawn; done = ended }

-- where this is left of a night and so many pages are put, with these jobs held, where these operations are published, and the Comps at
-- these places are drawn and done
pub record IsAt (n : Night) (start ops : List Operation) (r : Remaining) (pages : ℕ) (hold : ℕ → Option ℕ) (places_drawn places_done : List ℕ) : Type 0 where
  pub over : List Leg
  pub rest : List Leg
  pub drawn : ℕ
  pub ended : ℕ
  pub done : List ℕ
  pub split : legs_of n ≡ over ++ rest
  pub is : r ≡ of_legs drawn ended rest
  pub within : IsWithin rest drawn ended
  pub some : HaveJobs rest
  pub each : length done ≡ ended
  pub distinct : Distinct done
  pub below : (j : ℕ) → has done j ≡ true → j < drawn
  pub held : (w j : ℕ) → hold w ≡ Some j → (j < drawn) × (has done j ≡ false)
  pub alone : (w u j : ℕ) → hold w ≡ Some j → hold u ≡ Some j → w ≡ u
  pub passes : (p : ℕ) → p < carried_up_to n (turn_at rest drawn) → IsPassedAt n p
  pub jobs_pass : (j : ℕ) → has done j ≡ true → IsPassedAt n (wave_place rest + j)
  pub whole : ops ≡ start ++ Opens ∷ ops_of over
  pub paged : length (ops_of over) ≡ pages
  pub from : ℕ
  pub rising : IsRising from rest
  pub falling : falls places_drawn
  pub drawn_before : (q : ℕ) → has places_drawn q ≡ true → q < front from rest drawn
  pub done_once : Distinct places_done
  pub done_drawn : (q : ℕ) → has places_done q ≡ true → has places_drawn q ≡ true
  pub upto : ℕ
  pub covers : Covers n.list upto rest
  pub drawn_all : (p : ℕ) → p < upto → IsCompAt n.list p → has places_drawn p ≡ true
  pub drawn_wave : (j : ℕ) → j < drawn → has places_drawn (wave_place rest + j) ≡ true
  pub drawn_comps : (p : ℕ) → has places_drawn p ≡ true → IsCompAt n.list p
  pub done_all : (p : ℕ) → p < upto → IsCompAt n.list p → has places_done p ≡ true
  pub done_wave : (j : ℕ) → has done j ≡ true → has places_done (wave_place rest + j) ≡ true
  pub held_drawn : (w j : ℕ) → hold w ≡ Some j → (has places_drawn (wave_place rest + j) ≡ true) × (has places_done (wave_place rest + j) ≡ false)

-- what is in turn
pub now : (n : Night) (start ops : List Operation) (r : Remaining) (p : ℕ) (hold : ℕ → Option ℕ) (us vs : List ℕ) (a : IsAt n start ops r p hold us vs) → turn_of r ≡ turn_at a.rest a.drawn
now n start ops r p hold us vs a = ap turn_of a.is

-- the legs where a wave is in turn
pub wave_legs : (legs : List Leg) (drawn place jobs k : ℕ) → turn_at legs drawn ≡ In_wave place jobs k → (later : List Leg) × (legs ≡ Wave place jobs ∷ later) × (drawn ≡ k)
wave_legs [] drawn place jobs k e = cc
wave_legs (Page q v rows ∷ legs) drawn place jobs k e = cc
wave_legs (Wave q m ∷ legs) drawn place jobs k e =
    let a : q ≡ place = cc in
    let b : m ≡ jobs = cc in
    let c : drawn ≡ k = cc in
    (legs, (λ i. Wave (a i) (b i) ∷ legs), c)

page_legs : (legs : List Leg) (drawn place view : ℕ) (rows : Counted) → turn_at legs drawn ≡ At_page place view rows → (later : List Leg) × (legs ≡ Page place view rows ∷ later)
page_legs [] drawn place view rows e = cc
page_legs (Page q v r ∷ legs) drawn place view rows e =
    let a : q ≡ place = cc in
    let b : v ≡ view = cc in
    let c : r ≡ rows = cc in
    (legs, λ i. Page (a i) (b i) (c i) ∷ legs)
page_legs (Wave q m ∷ legs) drawn place view rows e = cc

pub over_legs : (legs : List Leg) (drawn : ℕ) → turn_at legs drawn ≡ Over → legs ≡ []
over_legs [] drawn e = refl
over_legs (Page q v r ∷ legs) drawn e = cc
over_legs (Wave q m ∷ legs) drawn e = cc

-- the last Done of a wave takes it off the list, another one leaves it there
pub last_of : (place jobs ended : ℕ) (legs : List Leg) → ended + 1 ≡ jobs → is_one_left (Wave place jobs ∷ legs) ended ≡ true
last_of place jobs ended legs e = eq-eqb (ended + 1) jobs e

pub not_last_of : (place jobs ended : ℕ) (legs : List Leg) → ended + 1 < jobs → is_one_left (Wave place jobs ∷ legs) ended ≡ false
not_last_of place jobs ended legs l = ne_eqb (ended + 1) jobs (λ e. omega (arith, e, l))

pub off_the_list : (place jobs drawn ended : ℕ) (legs : List Leg) → ended + 1 ≡ jobs → after_done (of_legs drawn ended (Wave place jobs ∷ legs)) ≡ untouched legs
off_the_list place jobs drawn ended legs e =
    ap (λ b. cond b (untouched legs) (of_legs drawn (ended + 1) (Wave place jobs ∷ legs))) (last_of place jobs ended legs e)

pub on_the_list : (place jobs drawn ended : ℕ) (legs : List Leg) → ended + 1 < jobs
    → after_done (of_legs drawn ended (Wave place jobs ∷ legs)) ≡ of_legs drawn (ended + 1) (Wave place jobs ∷ legs)
on_the_list place jobs drawn ended legs l =
    ap (λ b. cond b (untouched legs) (of_legs drawn (ended + 1) (Wave place jobs ∷ legs))) (not_last_of place jobs ended legs l)

-- how many expressions are carried out where legs are in turn
abbrev pub come_to : ℕ → List Leg → ℕ
come_to end [] = end
come_to end (Wave place jobs ∷ legs) = place
come_to end (Page place view rows ∷ legs) = place + 1

pub reach_is : (n : Night) (legs : List Leg) (drawn : ℕ) → carried_up_to n (turn_at legs drawn) ≡ come_to (length n.list) legs
reach_is n [] drawn = refl
reach_is n (Page q v r ∷ legs) drawn = refl
reach_is n (Wave q m ∷ legs) drawn = refl

-- legs of which nothing is drawn
pub fresh : (legs : List Leg) → HaveJobs legs → IsWithin legs 0 0
fresh [] h = (refl, refl)
fresh (Page q v r ∷ legs) h = (refl, refl)
fresh (Wave q m ∷ legs) h = (omega arith, h.0)

-- ---- places

pub among : (P : ℕ → Type 0) (a b p : ℕ) → All P (places_from a b) → a ≤ p → p < b → P p
among P a b p all l m =
    let i : ℕ = p - a in
    let small : i < b - a = omega arith in
    let at : a + i ≡ p = omega arith in
    subst P (get_or-range_with_len a (b - a) i 0 small ∙ at)
    (All-get_or P (range_with_len a (b - a)) i 0 (subst (λ k. i < k) (sym (length-range_with_len a (b - a))) small) (subst (All P) (places_are a b) all))

pub all-head : (P : ℕ → Type 0) (x : ℕ) (xs : List ℕ) → All P (x ∷ xs) → P x
all-head P x xs all = all 0 x (omega arith)

pub all-tail : (P : ℕ → Type 0) (x : ℕ) (xs : List ℕ) → All P (x ∷ xs) → All P xs
all-tail P x xs all = λ k d l. all (suc k) d (omega arith)

-- with a job its place is passed, and with the last one the places behind the wave
pub own_passed : (n : Night) (place jobs job : ℕ) (last : Bool) (next : Turn) → ArePassedAt n (carried_by_done n place jobs job last next) → IsPassedAt n (place + job)
own_passed n place jobs job true next passed = all-head (IsPassedAt n) (place + job) (places_from (place + jobs) (carried_up_to n next)) passed
own_passed n place jobs job false next passed = all-head (IsPassedAt n) (place + job) [] passed

-- ---- jobs

-- numbers below n, no two of them equal, are n at most
pub few : (xs : List ℕ) (n : ℕ) → Distinct xs → ((q : ℕ) → has xs q ≡ true → q < n) → length xs ≤ n
unfolding has
few xs n apart below = subst (λ k. length xs ≤ k) (length-range_with_len 0 n) (length-le_members xs (range_with_len 0 n) apart (λ q t. in_range 0 n q (omega arith) (subst (λ k. q < k) (let e : n ≡ 0 + n = omega arith in e) (below q t))))
  where
    in_range : (a m q : ℕ) → a ≤ q → q < a + m → has (range_with_len a m) q ≡ true
    in_range a zero q l h = absurd (omega arith)
    in_range a (suc m) q l h = elim (eqb a q) as (λ b. eqb a q ≡ b → (b || has (range_with_len (a + 1) m) q) ≡ true) [
      | true ↦ λ e. refl
      | false ↦ λ e. let apart : ¬ (a ≡ q) = λ f. false≢true (sym e ∙ eq-eqb a q f) in in_range (a + 1) m q (omega (arith, apart)) (omega arith)
    ] refl

-- numbers below n, no two of them equal and as many as n, are all of them
pub all_below : (xs : List ℕ) (n j : ℕ) → Distinct xs → ((q : ℕ) → has xs q ≡ true → q < n) → length xs ≡ n → j < n → has xs j ≡ true
unfolding Distinct has
all_below xs n j apart below each l = elim (has xs j) as (λ b. has xs j ≡ b → has xs j ≡ true) [
  | true ↦ λ e. e
  | false ↦ λ e.
      let more = few (j ∷ xs) n (e, apart) (λ q t. elim (eqb j q) as (λ b. eqb j q ≡ b → q < n) [
        | true ↦ λ f. subst (λ k. k < n) (eqb-true j q f) l
        | false ↦ λ f. below q (tail q f t)
      ] refl) in
      absurd (omega (arith, more, each))
] refl
  where
    tail : (q : ℕ) → eqb j q ≡ false → has (j ∷ xs) q ≡ true → has xs q ≡ true
    tail q f t = sym (ap (λ b. b || has xs q) f) ∙ t

pub head_or : (x q : ℕ) (xs : List ℕ) → has (x ∷ xs) q ≡ true → (x ≡ q) ⊎ (has xs q ≡ true)
unfolding has
head_or x q xs t = elim (eqb x q) as (λ b. eqb x q ≡ b → (b || has xs q) ≡ true → (x ≡ q) ⊎ (has xs q ≡ true)) [
  | true ↦ λ f t. inl (eqb-true x q f)
  | false ↦ λ f t. inr t
] refl t

-- what stands before the first place of legs of which nothing is drawn stands before all of them
past : (from : ℕ) (legs : List Leg) (q : ℕ) → IsRising from legs → q < from → q < front from legs 0
past from [] q r l = l
past from (Wave place jobs ∷ legs) q r l = let a = r.0 in omega (arith, a, l)
past from (Page place view rows ∷ legs) q r l = l

-- ---- one step

-- what a worker that is this one holds, the others what they did
abbrev pub holds_at : ℕ → Option ℕ → (ℕ → Option ℕ) → ℕ → Option ℕ
holds_at w o hold u = cond (eqb w u) o (hold u)

module _ (n : Night) where
  pub begins : (ops : List Operation) → HaveJobs (legs_of n) → IsRising 0 (legs_of n) → Covers n.list 0 (legs_of n) → ArePassedAt n (places_from 0 (carried_up_to n (turn_of (untouched (legs_of n))))) → IsAt n ops (ops ++ Opens ∷ []) (untouched (legs_of n)) 0 (λ _. None) [] []
  unfolding Distinct has
  begins ops jobs rising covers passed = record {
    over = [];
    rest = legs_of n;
    drawn = 0;
    ended = 0;
    done = [];
    split = refl;
    is = refl;
    within = fresh (legs_of n) jobs;
    some = jobs;
    each = refl;
    distinct = tt;
    below = λ j e. absurd (false≢true e);
    held = λ w j e. cc;
    alone = λ w u j e f. cc;
    passes = λ p l. among (IsPassedAt n) 0 (carried_up_to n (turn_of (untouched (legs_of n)))) p passed (omega arith) l;
    jobs_pass = λ j e. absurd (false≢true e);
    whole = refl;
    paged = refl;
    from = 0;
    rising = rising;
    falling = tt;
    drawn_before = λ q t. absurd (false≢true t);
    done_once = tt;
    done_drawn = λ q t. absurd (false≢true t);
    upto = 0;
    covers = covers;
    drawn_all = λ p l. absurd (omega (arith, l));
    drawn_wave = λ j l. absurd (omega (arith, l));
    drawn_comps = λ p t. absurd (false≢true t);
    done_all = λ p l. absurd (omega (arith, l));
    done_wave = λ j t. absurd (false≢true t);
    held_drawn = λ w j e. cc;
  }

  pub drew : (start ops : List Operation) (r : Remaining) (p : ℕ) (hold : ℕ → Option ℕ) (us vs : List ℕ) (w place jobs k : ℕ) → IsAt n start ops r p hold us vs → turn_of r ≡ In_wave place jobs k → k < jobs → hold w ≡ None
      → IsAt n start ops (after_draw r) p (holds_at w (Some k) hold) ((place + k) ∷ us) vs
  unfolding has Distinct
  drew start ops r p hold us vs w place jobs k a is l free =
      record {
        over = a.over;
        rest = a.rest;
        drawn = a.drawn + 1;
        ended = a.ended;
        done = a.done;
        split = a.split;
        is = ap after_draw a.is;
        within = subst (λ l. IsWithin l (a.drawn + 1) a.ended) (sym legs.1) (let w = subst (λ l. IsWithin l a.drawn a.ended) legs.1 a.within in let same = legs.2 in (omega (arith, same, l), w.1));
        some = a.some;
        each = a.each;
        distinct = a.distinct;
        below = λ j t. let b = a.below j t in omega (arith, b);
        held = λ u j t. elim (eqb w u) as (λ b. cond b (Some k) (hold u) ≡ Some j → (j < a.drawn + 1) × (has a.done j ≡ false)) [
          | true ↦ λ f. let same : k ≡ j = cc in let drawn = legs.2 in (omega (arith, same, drawn), not_yet j (omega (arith, same, drawn)))
          | false ↦ λ f. let b = a.held u j f in (omega (arith, b.0), b.1)
        ] t;
        alone = λ u x j f g. both u x j f g;
        passes = λ q m. a.passes q (subst (λ k. q < k) (same_reach) m);
        jobs_pass = a.jobs_pass;
        whole = a.whole;
        paged = a.paged;
        from = a.from;
        rising = a.rising;
        falling = (λ q t. before q t, a.falling);
        drawn_before = λ q t. subst (λ r. q < front a.from r (a.drawn + 1)) (sym legs.1) (next q t);
        done_once = a.done_once;
        done_drawn = λ q t. has-tail (place + k) q us (a.done_drawn q t);
        upto = a.upto;
        covers = a.covers;
        drawn_all = λ p l c. has-tail (place + k) p us (a.drawn_all p l c);
        drawn_wave = λ j l. subst (λ r. has ((place + k) ∷ us) (wave_place r + j) ≡ true) (sym legs.1) (drawn_now j l);
        drawn_comps = λ p t. ⊎_elim (λ e. subst (IsCompAt n.list) e (covered.1 k l)) (λ m. a.drawn_comps p m) (head_or (place + k) p us t);
        done_all = a.done_all;
        done_wave = a.done_wave;
        held_drawn = λ u j t. subst (λ r. (has ((place + k) ∷ us) (wave_place r + j) ≡ true) × (has vs (wave_place r + j) ≡ false)) (sym legs.1) (held_places u j t);
      }
    where
      legs : (later : List Leg) × (a.rest ≡ Wave place jobs ∷ later) × (a.drawn ≡ k)
      legs = wave_legs a.rest a.drawn place jobs k (sym (now n start ops r p hold us vs a) ∙ is)

      covered : ((p : ℕ) → a.upto ≤ p → p < place → ¬ (IsCompAt n.list p)) × ((j : ℕ) → j < jobs → IsCompAt n.list (place + j)) × Covers n.list (place + jobs) legs.0
      covered = subst (Covers n.list a.upto) legs.1 a.covers

      drawn_now : (j : ℕ) → j < a.drawn + 1 → has ((place + k) ∷ us) (place + j) ≡ true
      drawn_now j l = let same = legs.2 in
          ⊎_elim
          (λ m. has-tail (place + k) (place + j) us (subst (λ r. has us (wave_place r + j) ≡ true) legs.1 (a.drawn_wave j m)))
          (λ m. let e : k ≡ j = omega (arith, m, l, same) in subst (λ i. has ((place + k) ∷ us) (place + i) ≡ true) e (has-head (place + k) us))
          (cases_lt j a.drawn)

      before : (q : ℕ) → has us q ≡ true → q < place + k
      before q t = let b = subst (λ r. q < front a.from r a.drawn) legs.1 (a.drawn_before q t) in let same = legs.2 in omega (arith, b, same)

      next : (q : ℕ) → has ((place + k) ∷ us) q ≡ true → q < place + (a.drawn + 1)
      next q t = let same = legs.2 in ⊎_elim (λ e. omega (arith, e, same)) (λ m. let b = before q m in omega (arith, b, same)) (head_or (place + k) q us t)

      fresh_place : has vs (place + k) ≡ false
      fresh_place = elim (has vs (place + k)) as (λ b. has vs (place + k) ≡ b → b ≡ false) [
        | true ↦ λ t. let b = before (place + k) (a.done_drawn (place + k) t) in absurd (omega (arith, b))
        | false ↦ λ t. refl
      ] refl

      held_places : (u j : ℕ) → holds_at w (Some k) hold u ≡ Some j → (has ((place + k) ∷ us) (place + j) ≡ true) × (has vs (place + j) ≡ false)
      held_places u j = elim (eqb w u) as (λ b. cond b (Some k) (hold u) ≡ Some j → (has ((place + k) ∷ us) (place + j) ≡ true) × (has vs (place + j) ≡ false)) [
        | true ↦ λ f. let same : k ≡ j = cc in subst (λ i. (has ((place + k) ∷ us) (place + i) ≡ true) × (has vs (place + i) ≡ false)) same (has-head (place + k) us, fresh_place)
        | false ↦ λ f. let b = subst (λ r. (has us (wave_place r + j) ≡ true) × (has vs (wave_place r + j) ≡ false)) legs.1 (a.held_drawn u j f) in (has-tail (place + k) (place + j) us b.0, b.1)
      ]

      same_reach : carried_up_to n (turn_at a.rest (a.drawn + 1)) ≡ carried_up_to n (turn_at a.rest a.drawn)
      same_reach = reach_is n a.rest (a.drawn + 1) ∙ sym (reach_is n a.rest a.drawn)

      not_yet : (j : ℕ) → a.drawn ≤ j → has a.done j ≡ false
      not_yet j l = elim (has a.done j) as (λ b. has a.done j ≡ b → b ≡ false) [
        | true ↦ λ t. let b = a.below j t in absurd (omega (arith, b))
        | false ↦ λ t. refl
      ] refl

      here : (u x j : ℕ) → eqb w u ≡ true → k ≡ j → hold x ≡ Some j → u ≡ x
      here u x j f same g = let b = a.held x j g in let drawn = legs.2 in absurd (omega (arith, b.0, same, drawn))

      both : (u x j : ℕ) → holds_at w (Some k) hold u ≡ Some j → holds_at w (Some k) hold x ≡ Some j → u ≡ x
      both u x j = elim (eqb w u) as (λ b. eqb w u ≡ b → cond b (Some k) (hold u) ≡ Some j → holds_at w (Some k) hold x ≡ Some j → u ≡ x) [
        | true ↦ λ t f. elim (eqb w x) as (λ c. eqb w x ≡ c → cond c (Some k) (hold x) ≡ Some j → u ≡ x) [
          | true ↦ λ v g. sym (eqb-true w u t) ∙ eqb-true w x v
          | false ↦ λ v g. let same : k ≡ j = cc in here u x j t same g
        ] refl
        | false ↦ λ t f. elim (eqb w x) as (λ c. eqb w x ≡ c → cond c (Some k) (hold x) ≡ Some j → u ≡ x) [
          | true ↦ λ v g. let same : k ≡ j = cc in sym (here x u j v same f)
          | false ↦ λ v g. a.alone u x j f g
        ] refl
      ] refl

  module _ (start ops : List Operation) (r : Remaining) (p : ℕ) (hold : ℕ → Option ℕ) (us vs : List ℕ) (w place jobs drawn job : ℕ) (a : IsAt n start ops r p hold us vs) (is : turn_of r ≡ In_wave place jobs drawn) (mine : hold w ≡ Some job)
      (passed : ArePassedAt n (carried_by_done n place jobs job (is_last r) (turn_of (after_done r)))) where
    legs : (later : List Leg) × (a.rest ≡ Wave place jobs ∷ later) × (a.drawn ≡ drawn)
    legs = wave_legs a.rest a.drawn place jobs drawn (sym (now n start ops r p hold us vs a) ∙ is)

    counts : (a.drawn ≤ jobs) × (a.ended < jobs)
    counts = subst (λ l. IsWithin l a.drawn a.ended) legs.1 a.within

    distinct_now : Distinct (job ∷ a.done)
    unfolding Distinct
    distinct_now = ((a.held w job mine).1, a.distinct)

    member : (j : ℕ) → has (job ∷ a.done) j ≡ true → (job ≡ j) ⊎ (has a.done j ≡ true)
    unfolding has
    member j t = elim (eqb job j) as (λ b. eqb job j ≡ b → (b || has a.done j) ≡ true → (job ≡ j) ⊎ (has a.done j ≡ true)) [
      | true ↦ λ f t. inl (eqb-true job j f)
      | false ↦ λ f t. inr t
    ] refl t

    no_member : (j : ℕ) → ¬ (job ≡ j) → has a.done j ≡ false → has (job ∷ a.done) j ≡ false
    unfolding has
    no_member j apart out = elim (eqb job j) as (λ b. eqb job j ≡ b → (b || has a.done j) ≡ false) [
      | true ↦ λ f. absurd (apart (eqb-true job j f))
      | false ↦ λ f. out
    ] refl

    below_now : (j : ℕ) → has (job ∷ a.done) j ≡ true → j < a.drawn
    below_now j t = ⊎_elim (λ same. subst (λ k. k < a.drawn) same (a.held w job mine).0) (λ m. a.below j m) (member j t)

    drawn_more : a.ended + 1 ≤ a.drawn
    drawn_more = let f = few (job ∷ a.done) a.drawn distinct_now below_now in let each = a.each in omega (arith, f, each)

    jobs_pass_now : (j : ℕ) → has (job ∷ a.done) j ≡ true → IsPassedAt n (place + j)
    jobs_pass_now j t = ⊎_elim (λ same. subst (λ k. IsPassedAt n (place + k)) same (own_passed n place jobs job (is_last r) (turn_of (after_done r)) passed))
        (λ m. subst (λ l. IsPassedAt n (wave_place l + j)) legs.1 (a.jobs_pass j m)) (member j t)

    -- another worker's job is not this one
    held_now : (u j : ℕ) → holds_at w None hold u ≡ Some j → (j < a.drawn) × (has (job ∷ a.done) j ≡ false)
    held_now u j = elim (eqb w u) as (λ b. eqb w u ≡ b → cond b None (hold u) ≡ Some j → (j < a.drawn) × (has (job ∷ a.done) j ≡ false)) [
      | true ↦ λ f t. cc
      | false ↦ λ f t. let b = a.held u j t in (b.0, no_member j (λ same. false≢true (sym f ∙ eq-eqb w u (a.alone w u j (mine ∙ ap Some same) t))) b.1)
    ] refl

    alone_now : (u x j : ℕ) → holds_at w None hold u ≡ Some j → holds_at w None hold x ≡ Some j → u ≡ x
    alone_now u x j = elim (eqb w u) as (λ b. cond b None (hold u) ≡ Some j → holds_at w None hold x ≡ Some j → u ≡ x) [
      | true ↦ λ f g. cc
      | false ↦ λ f g. elim (eqb w x) as (λ b. cond b None (hold x) ≡ Some j → u ≡ x) [
        | true ↦ λ g. cc
        | false ↦ λ g. a.alone u x j f g
      ] g
    ]

    covered : ((p : ℕ) → a.upto ≤ p → p < place → ¬ (IsCompAt n.list p)) × ((j : ℕ) → j < jobs → IsCompAt n.list (place + j)) × Covers n.list (place + jobs) legs.0
    covered = subst (Covers n.list a.upto) legs.1 a.covers

    done_wave_now : (j : ℕ) → has (job ∷ a.done) j ≡ true → has ((place + job) ∷ vs) (place + j) ≡ true
    done_wave_now j t = ⊎_elim (λ e. subst (λ i. has ((place + job) ∷ vs) (place + i) ≡ true) e (has-head (place + job) vs))
        (λ m. has-tail (place + job) (place + j) vs (subst (λ r. has vs (wave_place r + j) ≡ true) legs.1 (a.done_wave j m))) (member j t)

    own : (has us (place + job) ≡ true) × (has vs (place + job) ≡ false)
    own = subst (λ r. (has us (wave_place r + job) ≡ true) × (has vs (wave_place r + job) ≡ false)) legs.1 (a.held_drawn w job mine)

    once_now : Distinct ((place + job) ∷ vs)
    unfolding Distinct
    once_now = (own.1, a.done_once)

    done_drawn_now : (q : ℕ) → has ((place + job) ∷ vs) q ≡ true → has us q ≡ true
    done_drawn_now q t = ⊎_elim (λ e. subst (λ k. has us k ≡ true) e own.0) (λ m. a.done_drawn q m) (head_or (place + job) q vs t)

    held_places : (u j : ℕ) → holds_at w None hold u ≡ Some j → (has us (place + j) ≡ true) × (has ((place + job) ∷ vs) (place + j) ≡ false)
    unfolding has
    held_places u j = elim (eqb w u) as (λ b. eqb w u ≡ b → cond b None (hold u) ≡ Some j → (has us (place + j) ≡ true) × (has ((place + job) ∷ vs) (place + j) ≡ false)) [
      | true ↦ λ f t. cc
      | false ↦ λ f t.
          let b = subst (λ r. (has us (wave_place r + j) ≡ true) × (has vs (wave_place r + j) ≡ false)) legs.1 (a.held_drawn u j t) in
          let other : ¬ (job ≡ j) = λ same. false≢true (sym f ∙ eq-eqb w u (a.alone w u j (mine ∙ ap Some same) t)) in (
            b.0,
            elim (eqb (place + job) (place + j)) as (λ c. eqb (place + job) (place + j) ≡ c → (c || has vs (place + j)) ≡ false) [
              | true ↦ λ g. let e = eqb-true (place + job) (place + j) g in absurd (other (omega (arith, e)))
              | false ↦ λ g. b.1
            ] refl,
          )
    ] refl

    -- a job that is not the last of its wave
    pub finished_one : a.ended + 1 < jobs → IsAt n start ops (after_done r) p (holds_at w None hold) us ((place + job) ∷ vs)
    finished_one l = record {
      over = a.over;
      rest = a.rest;
      drawn = a.drawn;
      ended = a.ended + 1;
      done = job ∷ a.done;
      split = a.split;
      is =
          ap after_done (a.is ∙ ap (of_legs a.drawn a.ended) legs.1)
          ∙ on_the_list place jobs a.drawn a.ended legs.0 l
          ∙ ap (of_legs a.drawn (a.ended + 1)) (sym legs.1);
      within = subst (λ r. IsWithin r a.drawn (a.ended + 1)) (sym legs.1) (counts.0, l);
      some = a.some;
      each = let each = a.each in omega (arith, each);
      distinct = distinct_now;
      below = below_now;
      held = held_now;
      alone = alone_now;
      passes = a.passes;
      jobs_pass = λ j t. subst (λ r. IsPassedAt n (wave_place r + j)) (sym legs.1) (jobs_pass_now j t);
      whole = a.whole;
      paged = a.paged;
      from = a.from;
      rising = a.rising;
      falling = a.falling;
      drawn_before = a.drawn_before;
      done_once = once_now;
      done_drawn = done_drawn_now;
      upto = a.upto;
      covers = a.covers;
      drawn_all = a.drawn_all;
      drawn_wave = a.drawn_wave;
      drawn_comps = a.drawn_comps;
      done_all = λ p l c. has-tail (place + job) p vs (a.done_all p l c);
      done_wave = λ j t. subst (λ r. has ((place + job) ∷ vs) (wave_place r + j) ≡ true) (sym legs.1) (done_wave_now j t);
      held_drawn = λ u j t. subst (λ r. (has us (wave_place r + j) ≡ true) × (has ((place + job) ∷ vs) (wave_place r + j) ≡ false)) (sym legs.1) (held_places u j t);
    }

    -- the last one
    module _ (last : a.ended + 1 ≡ jobs) where
      all_drawn : a.drawn ≡ jobs
      all_drawn = let c = counts.0 in let m = drawn_more in omega (arith, c, m, last)

      all_done : (j : ℕ) → j < jobs → has (job ∷ a.done) j ≡ true
      all_done j l = all_below (job ∷ a.done) jobs j distinct_now (λ q t. subst (λ k. q < k) all_drawn (below_now q t)) (let each = a.each in omega (arith, each, last)) l

      next : after_done r ≡ untouched legs.0
      next = ap after_done (a.is ∙ ap (of_legs a.drawn a.ended) legs.1) ∙ off_the_list place jobs a.drawn a.ended legs.0 last

      last_now : is_last r ≡ true
      last_now = ap is_last (a.is ∙ ap (of_legs a.drawn a.ended) legs.1) ∙ last_of place jobs a.ended legs.0 last

      behind_passed : ArePassedAt n (places_from (place + jobs) (carried_up_to n (turn_of (after_done r))))
      behind_passed =
          all-tail (IsPassedAt n) (place + job) (places_from (place + jobs) (carried_up_to n (turn_of (after_done r))))
          (subst (λ b. ArePassedAt n (carried_by_done n place jobs job b (turn_of (after_done r)))) last_now passed)

      passes_now : (q : ℕ) → q < carried_up_to n (turn_at legs.0 0) → IsPassedAt n q
      passes_now q l =
          ⊎_elim
          (λ m. a.passes q (subst (λ legs. q < carried_up_to n (turn_at legs a.drawn)) (sym legs.1) m))
          (λ m. ⊎_elim
          (λ k. let at : place + (q - place) ≡ q = omega arith in subst (IsPassedAt n) at (jobs_pass_now (q - place) (all_done (q - place) (omega arith))))
          (λ k. among (IsPassedAt n) (place + jobs) (carried_up_to n (turn_of (after_done r))) q behind_passed k (subst (λ r. q < carried_up_to n (turn_of r)) (sym next) l))
          (cases_lt q (place + jobs)))
          (cases_lt q place)

      pub finished_all : IsAt n start ops (after_done r) p (holds_at w None hold) us ((place + job) ∷ vs)
      unfolding Distinct has
      finished_all = record {
        over = a.over ++ Wave place jobs ∷ [];
        rest = legs.0;
        drawn = 0;
        ended = 0;
        done = [];
        split = a.split ∙ ap (λ r. a.over ++ r) legs.1 ∙ sym (append_assoc a.over (Wave place jobs ∷ []) legs.0);
        is = next;
        within = fresh legs.0 (subst HaveJobs legs.1 a.some).1;
        some = (subst HaveJobs legs.1 a.some).1;
        each = refl;
        distinct = tt;
        below = λ j t. absurd (false≢true t);
        held = λ u j t. let b = held_now u j t in absurd (false≢true (sym b.1 ∙ all_done j (subst (λ k. j < k) all_drawn b.0)));
        alone = alone_now;
        passes = passes_now;
        jobs_pass = λ j t. absurd (false≢true t);
        whole = a.whole ∙ (λ i. start ++ Opens ∷ (sym (ops-append a.over (Wave place jobs ∷ []) ∙ append-nil (ops_of a.over))) i);
        paged = ap length (ops-append a.over (Wave place jobs ∷ []) ∙ append-nil (ops_of a.over)) ∙ a.paged;
        from = place + jobs;
        rising = (subst (IsRising a.from) legs.1 a.rising).1;
        falling = a.falling;
        drawn_before = λ q t. past (place + jobs) legs.0 q (subst (IsRising a.from) legs.1 a.rising).1 (let b = subst (λ r. q < front a.from r a.drawn) legs.1 (a.drawn_before q t) in let all = all_drawn in omega (arith, b, all));
        done_once = once_now;
        done_drawn = done_drawn_now;
        upto = place + jobs;
        covers = covered.2;
        drawn_all = λ p l c. ⊎_elim (λ m. a.drawn_all p m c)
            (λ m. ⊎_elim (λ k. absurd (covered.0 p m k c))
            (λ k.
            let at : place + (p - place) ≡ p = omega arith in
            let drawn = all_drawn in
            subst (λ q. has us q ≡ true) at (subst (λ r. has us (wave_place r + (p - place)) ≡ true) legs.1 (a.drawn_wave (p - place) (omega (arith, l, k, drawn)))))
            (cases_lt p place)) (cases_lt p a.upto);
        drawn_wave = λ j l. absurd (omega (arith, l));
        drawn_comps = a.drawn_comps;
        done_all = λ p l c. ⊎_elim (λ m. has-tail (place + job) p vs (a.done_all p m c))
            (λ m. ⊎_elim (λ k. absurd (covered.0 p m k c))
            (λ k.
            let at : place + (p - place) ≡ p = omega arith in
            subst (λ q. has ((place + job) ∷ vs) q ≡ true) at (done_wave_now (p - place) (all_done (p - place) (omega (arith, l, k)))))
            (cases_lt p place)) (cases_lt p a.upto);
        done_wave = λ j t. absurd (false≢true t);
        held_drawn = λ u j t. let b = held_now u j t in absurd (false≢true (sym b.1 ∙ all_done j (subst (λ k. j < k) all_drawn b.0)));
      }

    pub finished : IsAt n start ops (after_done r) p (holds_at w None hold) us ((place + job) ∷ vs)
    finished = ⊎_elim (λ l. finished_one l) (λ l. let c = counts.1 in finished_all (omega (arith, c, l))) (cases_lt (a.ended + 1) jobs)

  pub paged : (start ops : List Operation) (r : Remaining) (p : ℕ) (hold : ℕ → Option ℕ) (us vs : List ℕ) (place view : ℕ) (rows : Counted) → IsAt n start ops r p hold us vs → turn_of r ≡ At_page place view rows
      → ArePassedAt n (places_from (place + 1) (carried_up_to n (turn_of (after_page r)))) → IsAt n start (ops ++ Writes view rows ∷ []) (after_page r) (p + 1) hold us vs
  unfolding Distinct has
  paged start ops r p hold us vs place view rows a is passed = record {
    over = a.over ++ Page place view rows ∷ [];
    rest = legs.0;
    drawn = a.drawn;
    ended = a.ended;
    done = a.done;
    split = a.split ∙ ap (λ r. a.over ++ r) legs.1 ∙ sym (append_assoc a.over (Page place view rows ∷ []) legs.0);
    is = next;
    within = subst (λ k. IsWithin legs.0 k a.ended) (sym none.0) (subst (λ k. IsWithin legs.0 0 k) (sym none.1) (fresh legs.0 more));
    some = more;
    each = a.each;
    distinct = a.distinct;
    below = a.below;
    held = a.held;
    alone = a.alone;
    passes = passes_now;
    jobs_pass = λ j t. let b = a.below j t in let z = none.0 in absurd (omega (arith, b, z));
    whole = ap (λ l. l ++ Writes view rows ∷ []) a.whole ∙ append_assoc start (Opens ∷ ops_of a.over) (Writes view rows ∷ []) ∙ (λ i. start ++ Opens ∷ sym (ops-append a.over (Page place view rows ∷ [])) i);
    paged = ap length (ops-append a.over (Page place view rows ∷ [])) ∙ (let l = length-append (ops_of a.over) (Writes view rows ∷ []) in let n = a.paged in omega (arith, l, n));
    from = place;
    rising = (subst (IsRising a.from) legs.1 a.rising).1;
    falling = a.falling;
    drawn_before = λ q t.
        let b = subst (λ r. q < front a.from r a.drawn) legs.1 (a.drawn_before q t) in
        let c = (subst (IsRising a.from) legs.1 a.rising).0 in
        subst (λ k. q < front place legs.0 k) (sym none.0) (past place legs.0 q (subst (IsRising a.from) legs.1 a.rising).1 (omega (arith, b, c)));
    done_once = a.done_once;
    done_drawn = a.done_drawn;
    upto = place + 1;
    covers = covered.1;
    drawn_all = λ p l c. ⊎_elim (λ m. a.drawn_all p m c) (λ m. absurd (covered.0 p m (omega (arith, l)) c)) (cases_lt p a.upto);
    drawn_wave = λ j l. let z = none.0 in absurd (omega (arith, l, z));
    drawn_comps = a.drawn_comps;
    done_all = λ p l c. ⊎_elim (λ m. a.done_all p m c) (λ m. absurd (covered.0 p m (omega (arith, l)) c)) (cases_lt p a.upto);
    done_wave = λ j t. let b = a.below j t in let z = none.0 in absurd (omega (arith, b, z));
    held_drawn = λ w j t. let b = (a.held w j t).0 in let z = none.0 in absurd (omega (arith, b, z));
  }
    where
      legs : (later : List Leg) × (a.rest ≡ Page place view rows ∷ later)
      legs = page_legs a.rest a.drawn place view rows (sym (now n start ops r p hold us vs a) ∙ is)

      none : (a.drawn ≡ 0) × (a.ended ≡ 0)
      none = subst (λ r. IsWithin r a.drawn a.ended) legs.1 a.within

      covered : ((p : ℕ) → a.upto ≤ p → p ≤ place → ¬ (IsCompAt n.list p)) × Covers n.list (place + 1) legs.0
      covered = subst (Covers n.list a.upto) legs.1 a.covers

      more : HaveJobs legs.0
      more = subst HaveJobs legs.1 a.some

      next : after_page r ≡ of_legs a.drawn a.ended legs.0
      next =
          ap after_page a.is
          ∙ ap (λ legs. untouched (drop 1 legs)) legs.1
          ∙ (λ i. of_legs (sym none.0 i) (sym none.1 i) legs.0)

      passes_now : (q : ℕ) → q < carried_up_to n (turn_at legs.0 a.drawn) → IsPassedAt n q
      passes_now q l =
          ⊎_elim
          (λ m. a.passes q (subst (λ legs. q < carried_up_to n (turn_at legs a.drawn)) (sym legs.1) m))
          (λ m. among (IsPassedAt n) (place + 1) (carried_up_to n (turn_of (after_page r))) q passed m (subst (λ r. q < carried_up_to n (turn_of r)) (sym next) l))
          (cases_lt q (place + 1))

-- ---- the log

pub versions_from-append : (v : Versions) (ops rest : List Operation) → versions_from v (ops ++ rest) ≡ versions_from (versions_from v ops) rest
versions_from-append v [] rest = refl
versions_from-append v (o ∷ ops) rest = versions_from-append (after v o) ops rest

newest-paged : (v : Versions) (t : Turn) → (versions_from v (page_in_turn t)).newest ≡ v.newest
newest-paged v (In_wave place jobs drawn) = refl
newest-paged v (At_page place view rows) = refl
newest-paged v Over = refl

-- in a night the newest contents stay those that it began from
pub night-began : (s : Setup) (log : Log) → night s (Began ∷ log) ≡ next_night s log
unfolding published
night-began s log =
    ap (λ (v : Versions). night_from s v.newest (nights_begun log)) (versions_from-append (opened s.opening) (published s log) (Opens ∷ []))

pub night-paged : (s : Setup) (log : Log) → night s (Paged_in ∷ log) ≡ night s log
unfolding published
night-paged s log =
    let t : Turn = turn_in (last_night s log (published s log)) log in
    (λ i. night_from s ((ap (λ (v : Versions). v.newest) (versions_from-append (opened s.opening) (published s log) (page_in_turn t)) ∙ newest-paged (versions s log) t) i) (last_begun log))

-- what was published when the night that began last began
abbrev pub start_of : Setup → Log → List Operation
start_of s [] = []
start_of s (Began ∷ log) = published s log
start_of s (d ∷ log) = start_of s log

-- where an open night stands
abbrev pub Underway : Setup → Log → Type 0
Underway s log = IsAt (night s log) (start_of s log) (published s log) (remaining s log) (pages log) (holding log) (drawn_places s log) (done_places s log)

pub underway : (s : Setup) (log : Log) → AreDeeds s log → is_open log ≡ true → Underway s log
unfolding published
underway s _ none e = cc
underway s _ (one_more log Began before deed) e =
    subst (λ n. IsAt n (published s log) (published s log ++ Opens ∷ []) (untouched (legs_of n)) 0 (λ _. None) [] []) (sym (night-began s log)) (begins (next_night s log) (published s log) (have_jobs (next_night s log)) (are_rising (next_night s log)) (are_covered (next_night s log)) deed.3)
underway s _ (one_more log (Drew w k) before deed) e =
    subst (λ q. IsAt (night s log) (start_of s log) (published s log) (after_draw (remaining s log)) (pages log) (holds_at w (Some k) (holding log)) (q ∷ drawn_places s log) (done_places s log)) (sym (ap (λ t. job_place t k) deed.4))
    (drew (night s log) (start_of s log) (published s log) (remaining s log) (pages log) (holding log) (drawn_places s log) (done_places s log) w deed.2 deed.3 k (underway s log before deed.0) deed.4 deed.5 deed.1)
underway s _ (one_more log (Finished w) before deed) e =
    subst (λ qs. IsAt (night s log) (start_of s log) (published s log) (after_done (remaining s log)) (pages log) (holds_at w None (holding log)) (drawn_places s log) (qs ++ done_places s log)) (sym (λ i. held_place (deed.6 i) (deed.2 i)))
    (finished (night s log) (start_of s log) (published s log) (remaining s log) (pages log) (holding log) (drawn_places s log) (done_places s log) w deed.3 deed.4 deed.5 deed.1 (underway s log before deed.0) deed.6 deed.2 deed.7)
underway s _ (one_more log Paged_in before deed) e =
    let t : turn s log ≡ At_page deed.1 deed.2 deed.3 = deed.4 in
    let a = paged (night s log) (start_of s log) (published s log) (remaining s log) (pages log) (holding log) (drawn_places s log) (done_places s log) deed.1 deed.2 deed.3 (underway s log before deed.0) t deed.5 in
    subst (λ n. IsAt n (start_of s log) (published s (Paged_in ∷ log)) (after_page (remaining_in n log)) (pages log + 1) (holding log) (drawn_places s log) (done_places s log)) (sym (night-paged s log))
    (subst (λ ops. IsAt (night s log) (start_of s log) ops (after_page (remaining s log)) (pages log + 1) (holding log) (drawn_places s log) (done_places s log)) (ap (λ t. published s log ++ page_in_turn t) (sym t)) a)
underway s _ (one_more log Committed before deed) e = absurd (false≢true e)
underway s _ (one_more log Gave_up before deed) e = absurd (false≢true e)
underway s _ (one_more log (Sat_down d v) before deed) e = underway s log before e
underway s _ (one_more log (Turned d v page) before deed) e = underway s log before e
underway s _ (one_more log (Left d) before deed) e = underway s log before e
