-- The legs of a night: each wave has a job, their places rise, and their jobs are the Comps of the list.
use Rattle.std.proofs.Common.{◌≡◌, refl, sym, ap, ◌∙◌, subst, ℕ, zero, suc, ◌+◌, ◌-◌, ◌<◌, ◌≤◌, List, [], ◌∷◌, ◌++◌, map, length, Bool, true, false, not, arith, Option, Some, None, cond, eqb, ◌||◌, ⊎_elim}
use mathlib.Core.Logic.{◌⊎◌, inl, inr}
use Rattle.std.specs.Prelude.{nat_lt, nat_le, is_some, slice_get}
use Rattle.std.specs.List.{All, flat_map, range_with_len}
use Rattle.std.proofs.lemmas.Bool.{eqb-true, eq-eqb, false≢true, cases_lt}
use Rattle.std.proofs.lemmas.List.{append-nil, append_assoc, length-append, length-map}
use Rattle.std.proofs.lemmas.List.FromFn.{get_or-range_with_len, length-range_with_len}
use Rattle.std.proofs.lemmas.List.Elements.{All-get_or}
use Rattle.wh_dag.specs.Shape.{Distinct, has}
use Rattle.wh_dag.proofs.Members.{has-head, has-tail, length-le_members}
use Rattle.wh_row.specs.Weigh.{Counted}
use Rattle.wh_store.specs.Operations.{Operation, Opens, Writes, Commits, Gives_up}
use Rattle.wh_store.specs.Versions.{Versions, after, opened, versions_from, versions_of}
use Rattle.wh_core.specs.Log.{Deed, Log, Began, Drew, Finished, Paged_in, Committed, Gave_up, Sat_down, Turned, Left, nights_begun, is_open, pages, holding}
use Rattle.wh_core.specs.Nights.{Setup, next_night, night, night_from, last_night, page_in_turn, published, turn, turn_in, versions}
use Rattle.wh_core.proofs.Stages.{stages_join}
use Rattle.wh_core.proofs.Deeds.{AreDeeds, IsDeed, none, one_more}
use Rattle.wh_row.specs.Bag.{Bag}
use Rattle.wh_maint.specs.View.{ViewGraph}
use Rattle.wh_maint.specs.Definition.{graph_of}
use Rattle.wh_strategy.specs.declared.expression.Expression.{Expression}
use Rattle.wh_strategy.specs.declared.expression.Expression.TheVariants.{Comp, Inst}
use Rattle.wh_carry.specs.declared.stages.Job.{Job}
use Rattle.wh_carry.specs.declared.stages.Stage.{Stage}
use Rattle.wh_carry.specs.declared.stages.Stage.TheVariants as stage
use Rattle.wh_carry.specs.Carry.{State, at_first}
use Rattle.wh_carry.specs.Waves.{comp_of, expressions_of, is_target_among, stages_after, stages_of, wave_of}
use Rattle.wh_carry.specs.NightList.{inst_pages}
use Rattle.wh_core.specs.Laws.{IsCompAt, done_places, drawn_places, falls, held_place, job_place}
use Rattle.wh_core.specs.Standing.{HaveJobs, IsWithin}
use Rattle.wh_carry.specs.Night.{Night, ArePassedAt, IsPassedAt, places_from}
use Rattle.wh_carry.specs.Legs.{Leg, Wave, Page, Turn, In_wave, At_page, Over, legs_after, legs_of, turn_of, carried_up_to}

-- the places of the legs rise, from this one on
abbrev pub IsRising : ℕ → List Leg → Type 0
IsRising from [] = Unit {0}
IsRising from (Wave place jobs ∷ legs) = (from ≤ place) × IsRising (place + jobs) legs
IsRising from (Page place view rows ∷ legs) = (from ≤ place) × IsRising place legs

-- from this place on, Comps stand where these waves have jobs, and nowhere else
abbrev pub Covers : List Expression → ℕ → List Leg → Type 0
Covers list from [] = (p : ℕ) → from ≤ p → ¬ (IsCompAt list p)
Covers list from (Wave place jobs ∷ legs) =
    ((p : ℕ) → from ≤ p → p < place → ¬ (IsCompAt list p)) × ((j : ℕ) → j < jobs → IsCompAt list (place + j)) × Covers list (place + jobs) legs
Covers list from (Page place view rows ∷ legs) = ((p : ℕ) → from ≤ p → p ≤ place → ¬ (IsCompAt list p)) × Covers list (place + 1) legs

-- each wave of a strategy has a job
AllHaveJobs : List Stage → Type 0
AllHaveJobs [] = Unit {0}
AllHaveJobs (stage.Wave jobs ∷ stages) = (1 ≤ length jobs) × AllHaveJobs stages
AllHaveJobs (stage.Inst v ∷ stages) = AllHaveJobs stages

wave_first : (jobs : List Job) (stages : List Stage) → AllHaveJobs stages → AllHaveJobs (wave_of jobs ++ stages)
unfolding AllHaveJobs
wave_first [] stages h = h
wave_first (j ∷ jobs) stages h = (omega arith, h)

stages_have_jobs : (jobs : List Job) (list : List Expression) → AllHaveJobs (stages_after jobs list)
unfolding AllHaveJobs stages_after
stages_have_jobs [] [] = tt
stages_have_jobs (j ∷ jobs) [] = (omega arith, tt)
stages_have_jobs jobs (Inst v ∷ list) = wave_first jobs (stage.Inst v ∷ stages_after [] list) (stages_have_jobs [] list)
stages_have_jobs jobs (Comp v ys ∷ list) = elim (is_target_among ys jobs) as (λ b. AllHaveJobs (cond b (wave_of jobs ++ stages_after (record { view = v; from = ys } ∷ []) list) (stages_after (jobs ++ record { view = v; from = ys } ∷ []) list))) [
  | true ↦ wave_first jobs (stages_after (record { view = v; from = ys } ∷ []) list) (stages_have_jobs (record { view = v; from = ys } ∷ []) list)
  | false ↦ stages_have_jobs (jobs ++ record { view = v; from = ys } ∷ []) list
]

pages_first : (place v : ℕ) (pages : List Counted) (later : List Leg) → HaveJobs later → HaveJobs (map (Page place v) pages ++ later)
pages_first place v [] later h = h
pages_first place v (p ∷ pages) later h = pages_first place v pages later h

rises_later : (a b : ℕ) (legs : List Leg) → a ≤ b → IsRising b legs → IsRising a legs
rises_later a b [] l r = tt
rises_later a b (Wave place jobs ∷ legs) l r = let f = r.0 in (omega (arith, f, l), r.1)
rises_later a b (Page place v rows ∷ legs) l r = let f = r.0 in (omega (arith, f, l), r.1)

pages_rise : (place v : ℕ) (pages : List Counted) (legs : List Leg) → IsRising place legs → IsRising place (map (Page place v) pages ++ legs)
pages_rise place v [] legs r = r
pages_rise place v (p ∷ pages) legs r = (omega arith, pages_rise place v pages legs r)

module _ (g : ViewGraph) (changes : ℕ → Bag) (keys : ℕ) where
  legs_have_jobs : (place : ℕ) (s : State) (stages : List Stage) → AllHaveJobs stages → HaveJobs (legs_after g changes keys place s stages)
  unfolding AllHaveJobs legs_after
  legs_have_jobs place s [] h = tt
  legs_have_jobs place s (stage.Wave jobs ∷ stages) h = (h.0, legs_have_jobs (place + length jobs) _ stages h.1)
  legs_have_jobs place s (stage.Inst v ∷ stages) h = pages_first place v (inst_pages g changes keys s v) _ (legs_have_jobs (place + 1) _ stages h)

  legs_rise : (place : ℕ) (s : State) (stages : List Stage) → IsRising place (legs_after g changes keys place s stages)
  unfolding legs_after
  legs_rise place s [] = tt
  legs_rise place s (stage.Wave jobs ∷ stages) = (omega arith, legs_rise (place + length jobs) _ stages)
  legs_rise place s (stage.Inst v ∷ stages) = pages_rise place v (inst_pages g changes keys s v) _ (rises_later place (place + 1) _ (omega arith) (legs_rise (place + 1) _ stages))

pub have_jobs : (n : Night) → HaveJobs (legs_of n)
have_jobs n = legs_have_jobs (graph_of n.catalog) n.changes n.keys 0 (at_first n.tables) (stages_of n.list) (stages_have_jobs [] n.list)

pub are_rising : (n : Night) → IsRising 0 (legs_of n)
are_rising n = legs_rise (graph_of n.catalog) n.changes n.keys 0 (at_first n.tables) (stages_of n.list)

-- ---- Comps are the jobs of waves

get-behind : {A : Type 0} (xs ys : List A) (j : ℕ) → slice_get (xs ++ ys) (length xs + j) ≡ slice_get ys j
get-behind [] ys j = let e : 0 + j ≡ j = omega arith in ap (slice_get ys) e
get-behind (x ∷ xs) ys j = let e : suc (length xs) + j ≡ suc (length xs + j) = omega arith in ap (slice_get (x ∷ xs ++ ys)) e ∙ get-behind xs ys j

pub get-within : {A : Type 0} (xs : List A) (p : ℕ) (x : A) → slice_get xs p ≡ Some x → p < length xs
get-within [] p x e = cc
get-within (y ∷ xs) zero x e = omega arith
get-within (y ∷ xs) (suc p) x e = let l = get-within xs p x e in omega (arith, l)

job-at : (jobs : List Job) (rest : List Expression) (j : ℕ) → j < length jobs → (v : ℕ) × (ys : List ℕ) × (slice_get (map comp_of jobs ++ rest) j ≡ Some (Comp v ys))
job-at [] rest j l = absurd (omega (arith, l))
job-at (x ∷ jobs) rest zero l = (x.view, x.from, refl)
job-at (x ∷ jobs) rest (suc j) l = job-at jobs rest j (omega (arith, l))

-- from the place of an Inst on, the Comps stand as from the place behind it
covers-earlier : (list : List Expression) (place : ℕ) (legs : List Leg) → ¬ (IsCompAt list place) → Covers list (place + 1) legs → Covers list place legs
covers-earlier list place [] no_comp c = λ p l. ⊎_elim (λ m. let e : place ≡ p = omega (arith, m, l) in subst (λ q. ¬ (IsCompAt list q)) e no_comp) (λ m. c p m) (cases_lt p (place + 1))
covers-earlier list place (Wave q jobs ∷ legs) no_comp c = (
  λ p l m. ⊎_elim (λ k. let e : place ≡ p = omega (arith, k, l) in subst (λ q. ¬ (IsCompAt list q)) e no_comp) (λ k. c.0 p k m) (cases_lt p (place + 1)),
  c.1,
  c.2,
)
covers-earlier list place (Page q v rows ∷ legs) no_comp c = (
  λ p l m. ⊎_elim (λ k. let e : place ≡ p = omega (arith, k, l) in subst (λ q. ¬ (IsCompAt list q)) e no_comp) (λ k. c.0 p k m) (cases_lt p (place + 1)),
  c.1,
)

more_pages : (list : List Expression) (place v : ℕ) (pages : List Counted) (later : List Leg) → Covers list (place + 1) later → Covers list (place + 1) (map (Page place v) pages ++ later)
more_pages list place v [] later c = c
more_pages list place v (p ∷ pages) later c = (λ q l m. absurd (omega (arith, l, m)), more_pages list place v pages later c)

inst_pages-cover : (list : List Expression) (place v : ℕ) (pages : List Counted) (later : List Leg) → ¬ (IsCompAt list place) → Covers list (place + 1) later → Covers list place (map (Page place v) pages ++ later)
inst_pages-cover list place v [] later no_comp c = covers-earlier list place later no_comp c
inst_pages-cover list place v (p ∷ pages) later no_comp c = (
  λ q l m. let e : place ≡ q = omega (arith, l, m) in subst (λ q. ¬ (IsCompAt list q)) e no_comp,
  more_pages list place v pages later c,
)

module _ (g : ViewGraph) (changes : ℕ → Bag) (keys : ℕ) (list : List Expression) where
  legs_cover : (before : List Expression) (place : ℕ) (s : State) (stages : List Stage) → list ≡ before ++ flat_map expressions_of stages → length before ≡ place
      → Covers list place (legs_after g changes keys place s stages)
  unfolding legs_after
  legs_cover before place s [] is len = λ p l c.
      let w = get-within list p (Comp c.0 c.1) c.2 in
      let all : length list ≡ length before = ap length (is ∙ append-nil before) in
      omega (arith, w, all, len, l)
  legs_cover before place s (stage.Wave jobs ∷ stages) is len = (
    λ p l m. absurd (omega (arith, l, m)),
    λ j l.
        let r = job-at jobs (flat_map expressions_of stages) j l in
        (r.0, r.1, (λ i. slice_get (is i) (sym len i + j)) ∙ get-behind before (map comp_of jobs ++ flat_map expressions_of stages) j ∙ r.2),
    legs_cover (before ++ map comp_of jobs) (place + length jobs) _ stages (is ∙ sym (append_assoc before (map comp_of jobs) (flat_map expressions_of stages)))
        (let a = length-append before (map comp_of jobs) in let m = length-map jobs comp_of in omega (arith, a, m, len)),
  )
  legs_cover before place s (stage.Inst v ∷ stages) is len =
      inst_pages-cover list place v (inst_pages g changes keys s v) _
      (λ c.
      let e : place ≡ length before + 0 = omega (arith, len) in
      let inst : slice_get list place ≡ Some (Inst v) = (λ i. slice_get (is i) (e i)) ∙ get-behind before (Inst v ∷ flat_map expressions_of stages) 0 in
      let both : Some (Inst v) ≡ Some (Comp c.0 c.1) = sym inst ∙ c.2 in
      cc)
      (legs_cover (before ++ Inst v ∷ []) (place + 1) _ stages (is ∙ sym (append_assoc before (Inst v ∷ []) (flat_map expressions_of stages)))
      (let a = length-append before (Inst v ∷ []) in omega (arith, a, len)))

pub are_covered : (n : Night) → Covers n.list 0 (legs_of n)
are_covered n = legs_cover (graph_of n.catalog) n.changes n.keys n.list [] 0 (at_first n.tables) (stages_of n.list) (sym (stages_join [] n.list)) refl
