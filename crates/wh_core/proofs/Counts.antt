-- How many Comps and pages a strategy and the legs of its night have.
use Rattle.std.proofs.Common.{◌≡◌, refl, sym, ap, ◌∙◌, subst, ℕ, zero, suc, ◌+◌, ◌<◌, ◌≤◌, List, [], ◌∷◌, ◌++◌, map, length, drop, take, arith, Some}
use Rattle.std.specs.Prelude.{slice_get}
use Rattle.std.specs.List.{flat_map}
use Rattle.std.proofs.lemmas.List.{length-append, length-map}
use Rattle.wh_row.specs.Bag.{Bag, count, difference_of, sum_of, written}
use Rattle.wh_row.specs.Weigh.{Counted}
use Rattle.wh_maint.specs.Definition.{graph_of}
use Rattle.wh_maint.specs.View.{ViewGraph}
use Rattle.wh_strategy.specs.declared.expression.Expression.{Expression}
use Rattle.wh_strategy.specs.declared.expression.Expression.TheVariants.{Comp, Inst}
use Rattle.wh_strategy.specs.Expression.{At}
use Rattle.wh_store.specs.Operations.{Operation, Writes}
use Rattle.wh_store.specs.Pages.{Contents}
use Rattle.wh_store.specs.Versions.{table_in}
use Rattle.wh_carry.specs.declared.stages.Job.{Job}
use Rattle.wh_carry.specs.declared.stages.Stage.{Stage}
use Rattle.wh_carry.specs.declared.stages.Stage.TheVariants as stage
use Rattle.wh_carry.specs.Carry.{State, at_first, carried, change_in, step}
use Rattle.wh_carry.specs.NightList.{inst_pages, new_counts, pages_of, pages_within, puts_of}
use Rattle.wh_carry.specs.Night.{Night}
use Rattle.wh_carry.specs.Waves.{comp_of, expressions_of, stages_of}
use Rattle.wh_carry.specs.Legs.{Leg, Wave, Page, legs_after, legs_of}
use Rattle.wh_core.specs.Headline.{before_comp, comps, pages_for}
use Rattle.wh_core.proofs.Stages.{stages_join}

-- ---- Comps

-- how many jobs these legs have
abbrev pub jobs_of : List Leg → ℕ
jobs_of [] = 0
jobs_of (Wave place jobs ∷ legs) = jobs + jobs_of legs
jobs_of (Page place view rows ∷ legs) = jobs_of legs

pub jobs-append : (a b : List Leg) → jobs_of (a ++ b) ≡ jobs_of a + jobs_of b
jobs-append [] b = let z : jobs_of b ≡ 0 + jobs_of b = omega arith in z
jobs-append (Wave place jobs ∷ a) b = let r = jobs-append a b in omega (arith, r)
jobs-append (Page place view rows ∷ a) b = jobs-append a b

pub no_jobs : (place v : ℕ) (pages : List Counted) (later : List Leg) → jobs_of (map (Page place v) pages ++ later) ≡ jobs_of later
no_jobs place v [] later = refl
no_jobs place v (p ∷ pages) later = no_jobs place v pages later

pub only_pages : (place v : ℕ) (pages : List Counted) → jobs_of (map (Page place v) pages) ≡ 0
only_pages place v [] = refl
only_pages place v (p ∷ pages) = only_pages place v pages

pub comps-append : (a b : List Expression) → comps (a ++ b) ≡ comps a + comps b
comps-append [] b = let z : comps b ≡ 0 + comps b = omega arith in z
comps-append (Comp v ys ∷ a) b = let r = comps-append a b in omega (arith, r)
comps-append (Inst v ∷ a) b = comps-append a b

pub comps-jobs : (jobs : List Job) → comps (map comp_of jobs) ≡ length jobs
comps-jobs [] = refl
comps-jobs (j ∷ jobs) = let r = comps-jobs jobs in omega (arith, r)

jobs_are : (g : ViewGraph) (changes : ℕ → Bag) (keys place : ℕ) (s : State) (stages : List Stage) → jobs_of (legs_after g changes keys place s stages) ≡ comps (flat_map expressions_of stages)
unfolding legs_after
jobs_are g changes keys place s [] = refl
jobs_are g changes keys place s (stage.Wave jobs ∷ stages) =
    let r = jobs_are g changes keys (place + length jobs) (carried g changes (map comp_of jobs) s) stages in
    let a = comps-append (map comp_of jobs) (flat_map expressions_of stages) in
    let b = comps-jobs jobs in
    omega (arith, r, a, b)
jobs_are g changes keys place s (stage.Inst v ∷ stages) =
    no_jobs place v (inst_pages g changes keys s v) _ ∙ jobs_are g changes keys (place + 1) (step g changes (Inst v) s) stages

-- the jobs of a night are the Comps of its strategy
pub jobs_are_comps : (n : Night) → jobs_of (legs_of n) ≡ comps n.list
jobs_are_comps n = jobs_are (graph_of n.catalog) n.changes n.keys 0 (at_first n.tables) (stages_of n.list) ∙ ap comps (stages_join [] n.list)

pub before_front : (front back : List Expression) → before_comp (comps front) (front ++ back) ≡ front ++ before_comp 0 back
before_front [] back = refl
before_front (Inst v ∷ front) back = ap (λ l. Inst v ∷ l) (before_front front back)
before_front (Comp v ys ∷ front) back =
    let e : comps front + 1 ≡ suc (comps front) = omega arith in
    ap (λ k. before_comp k (Comp v ys ∷ front ++ back)) e ∙ ap (λ l. Comp v ys ∷ l) (before_front front back)

-- ---- pages

pub pages_for-append : (keys : ℕ) (old new : Contents) (a b : List Expression) → pages_for keys old new (a ++ b) ≡ pages_for keys old new a + pages_for keys old new b
pages_for-append keys old new [] b = let z : pages_for keys old new b ≡ 0 + pages_for keys old new b = omega arith in z
pages_for-append keys old new (Comp v ys ∷ a) b = pages_for-append keys old new a b
pages_for-append keys old new (Inst v ∷ a) b = let r = pages_for-append keys old new a b in omega (arith, r)

dropped : (k : ℕ) (xs ys : Counted) → length xs ≡ length ys → length (drop k xs) ≡ length (drop k ys)
dropped zero xs ys e = e
dropped (suc k) [] [] e = refl
dropped (suc k) [] (y ∷ ys) e = cc
dropped (suc k) (x ∷ xs) [] e = cc
dropped (suc k) (x ∷ xs) (y ∷ ys) e = dropped k xs ys (omega (arith, e))

as_many : (n keys : ℕ) (xs ys : Counted) → length xs ≡ length ys → length (pages_within n keys xs) ≡ length (pages_within n keys ys)
as_many zero keys xs ys e = refl
as_many (suc n) keys [] [] e = refl
as_many (suc n) keys [] (y ∷ ys) e = cc
as_many (suc n) keys (x ∷ xs) [] e = cc
as_many (suc n) keys (x ∷ xs) (y ∷ ys) e = ap suc (as_many n keys (drop keys (x ∷ xs)) (drop keys (y ∷ ys)) (dropped keys (x ∷ xs) (y ∷ ys) e))

-- as many rows fill as many pages, whatever they count
pages_alike : (keys : ℕ) (xs ys : Counted) → length xs ≡ length ys → length (pages_of keys xs) ≡ length (pages_of keys ys)
pages_alike keys xs ys e = as_many (length xs) keys xs ys e ∙ ap (λ n. length (pages_within n keys ys)) e

-- each Inst of a list that is carried out from this state installs what its view's new table has otherwise than its old one
abbrev pub AreDifferences : ViewGraph → (ℕ → Bag) → Contents → Contents → List Expression → State → Type 0
AreDifferences g changes old new list s =
    (p v : ℕ) → At list p (Inst v) → change_in g changes (carried g changes (take p list) s) v ≡ difference_of (table_in new v) (table_in old v)

module _ (g : ViewGraph) (changes : ℕ → Bag) (keys : ℕ) (old new : Contents) where
  of_inst : (s : State) (v : ℕ) → change_in g changes s v ≡ difference_of (table_in new v) (table_in old v)
      → length (map (Writes v) (inst_pages g changes keys s v)) ≡ length (pages_of keys (written (difference_of (table_in new v) (table_in old v))))
  of_inst s v e =
      let c : Bag = change_in g changes s v in
      length-map (inst_pages g changes keys s v) (Writes v)
      ∙ pages_alike keys (new_counts (s.tables v) c) (written c) (length-map (written c) _)
      ∙ ap (λ b. length (pages_of keys (written b))) e

  pub puts_count : (list : List Expression) (s : State) → AreDifferences g changes old new list s → length (puts_of g changes keys list s) ≡ pages_for keys old new list
  unfolding puts_of carried
  puts_count [] s h = refl
  puts_count (Comp v ys ∷ list) s h = puts_count list (step g changes (Comp v ys) s) (λ p u at. h (suc p) u at)
  puts_count (Inst v ∷ list) s h =
      let a = length-append (map (Writes v) (inst_pages g changes keys s v)) (puts_of g changes keys list (step g changes (Inst v) s)) in
      let b = of_inst s v (h 0 v refl) in
      let c = puts_count list (step g changes (Inst v) s) (λ p u at. h (suc p) u at) in
      omega (arith, a, b, c)

  at_front : (front back : List Expression) (p : ℕ) (e : Expression) → At front p e → At (front ++ back) p e × (take p (front ++ back) ≡ take p front)
  at_front [] back p e at = cc
  at_front (x ∷ front) back zero e at = (at, refl)
  at_front (x ∷ front) back (suc p) e at = let r = at_front front back p e at in (r.0, ap (λ l. x ∷ l) r.1)

  pub front_differences : (front back : List Expression) (s : State) → AreDifferences g changes old new (front ++ back) s → AreDifferences g changes old new front s
  front_differences front back s h p v at =
      let r = at_front front back p (Inst v) at in
      ap (λ l. change_in g changes (carried g changes l s) v) (sym r.1) ∙ h p v r.0
