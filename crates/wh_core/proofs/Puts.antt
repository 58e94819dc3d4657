-- What the pages among the legs of a night publish is what its list does.
use Rattle.std.proofs.Common.{◌≡◌, refl, sym, ap, ◌∙◌, subst, ℕ, zero, suc, ◌+◌, ◌-◌, ◌<◌, ◌≤◌, List, [], ◌∷◌, ◌++◌, map, length, Bool, true, false, arith, cond, ⊎_elim}
use mathlib.Core.Logic.{◌⊎◌, inl, inr}
use Rattle.std.specs.Prelude.{take}
use Rattle.std.specs.List.{flat_map}
use Rattle.std.proofs.lemmas.List.{append-nil, append_assoc, length-append, length-map}
use Rattle.wh_row.specs.Bag.{Bag}
use Rattle.wh_row.specs.Weigh.{Counted}
use Rattle.wh_maint.specs.View.{ViewGraph}
use Rattle.wh_strategy.specs.declared.expression.Expression.{Expression}
use Rattle.wh_strategy.specs.declared.expression.Expression.TheVariants.{Comp, Inst}
use Rattle.wh_store.specs.Operations.{Operation, Opens, Writes, Commits, Gives_up}
use Rattle.wh_carry.specs.declared.stages.Job.{Job}
use Rattle.wh_carry.specs.declared.stages.Stage.{Stage}
use Rattle.wh_carry.specs.declared.stages.Stage.TheVariants as stage
use Rattle.wh_carry.specs.Carry.{State, carried, step}
use Rattle.wh_carry.specs.Waves.{comp_of, expressions_of}
use Rattle.wh_carry.specs.NightList.{inst_pages, puts_at, puts_of}
use Rattle.wh_carry.specs.Legs.{Leg, Wave, Page, legs_after}
use Rattle.wh_core.specs.Headline.{comps}
use Rattle.wh_core.proofs.Counts.{comps-append, comps-jobs, jobs_of, no_jobs, only_pages}
use Rattle.wh_core.proofs.Underway.{come_to, ops_of, ops-append}

-- ---- pages of an Inst among the legs

-- legs that begin with the pages of an Inst, cut in two: within the pages, or behind them
data IsCut (place v : ℕ) (pages : List Counted) (legs over rest : List Leg) : Type 0 where
  in_pages : (before after : List Counted) (page : Counted) → pages ≡ before ++ page ∷ after → over ≡ map (Page place v) before → rest ≡ Page place v page ∷ map (Page place v) after ++ legs → IsCut place v pages legs over rest
  behind : (more : List Leg) → over ≡ map (Page place v) pages ++ more → legs ≡ more ++ rest → IsCut place v pages legs over rest

cut_pages : (place v : ℕ) (pages : List Counted) (legs over rest : List Leg) → map (Page place v) pages ++ legs ≡ over ++ rest → IsCut place v pages legs over rest
cut_pages place v [] legs over rest e = behind over refl e
cut_pages place v (p ∷ pages) legs [] rest e = in_pages [] pages p refl refl (sym e)
cut_pages place v (p ∷ pages) legs (x ∷ over) rest e =
    let head : Page place v p ≡ x = cc in
    let tail : map (Page place v) pages ++ legs ≡ over ++ rest = cc in
    elim (cut_pages place v pages legs over rest tail) [
      | in_pages before after page a b c ↦ in_pages (p ∷ before) after page (ap (λ l. p ∷ l) a) (λ i. sym head i ∷ b i) c
      | behind more b c ↦ behind more (λ i. sym head i ∷ b i) c
    ]

ops-pages : (place v : ℕ) (pages : List Counted) → ops_of (map (Page place v) pages) ≡ map (Writes v) pages
ops-pages place v [] = refl
ops-pages place v (p ∷ pages) = ap (λ l. Writes v p ∷ l) (ops-pages place v pages)

writes-append : (v : ℕ) (a b : List Counted) → map (Writes v) (a ++ b) ≡ map (Writes v) a ++ map (Writes v) b
writes-append v [] b = refl
writes-append v (x ∷ a) b = ap (λ l. Writes v x ∷ l) (writes-append v a b)

-- ---- puts

module _ (g : ViewGraph) (changes : ℕ → Bag) (keys : ℕ) where
  pub puts-append : (a b : List Expression) (s : State) → puts_of g changes keys (a ++ b) s ≡ puts_of g changes keys a s ++ puts_of g changes keys b (carried g changes a s)
  unfolding puts_of carried
  puts-append [] b s = refl
  puts-append (e ∷ a) b s = ap (λ l. puts_at g changes keys s e ++ l) (puts-append a b (step g changes e s)) ∙ sym (append_assoc (puts_at g changes keys s e) _ _)

  no_puts : (jobs : List Job) (s : State) → puts_of g changes keys (map comp_of jobs) s ≡ []
  unfolding puts_of
  no_puts [] s = refl
  no_puts (j ∷ jobs) s = no_puts jobs (step g changes (comp_of j) s)

  -- a beginning of the list that has the Comps of these legs and publishes what they do, and perhaps some pages more
  pub record IsFront (place : ℕ) (s : State) (list : List Expression) (over rest : List Leg) : Type 0 where
    pub front : List Expression
    pub back : List Expression
    pub split : list ≡ front ++ back
    pub reached : place + length front ≡ come_to (place + length list) rest
    pub more : List Operation
    pub puts : puts_of g changes keys front s ≡ ops_of over ++ more
    pub exact : rest ≡ [] → more ≡ []
    pub comps_are : comps front ≡ jobs_of over

  pub front_of : (place : ℕ) (s : State) (stages : List Stage) (over rest : List Leg) → legs_after g changes keys place s stages ≡ over ++ rest
      → IsFront place s (flat_map expressions_of stages) over rest
  unfolding legs_after puts_of carried
  front_of place s [] [] rest e = record {
    front = [];
    back = [];
    split = refl;
    reached = ap (come_to (place + 0)) e;
    more = [];
    puts = refl;
    exact = λ t. refl;
    comps_are = refl;
  }
  front_of place s [] (x ∷ over) rest e = cc
  front_of place s (stage.Wave jobs ∷ stages) [] rest e = record {
    front = [];
    back = flat_map expressions_of (stage.Wave jobs ∷ stages);
    split = refl;
    reached = (let z : place + 0 ≡ place = omega arith in z) ∙ ap (come_to (place + length (flat_map expressions_of (stage.Wave jobs ∷ stages)))) e;
    more = [];
    puts = refl;
    exact = λ t. refl;
    comps_are = refl;
  }
  front_of place s (stage.Wave jobs ∷ stages) (x ∷ over) rest e =
      let later : List Leg = legs_after g changes keys (place + length jobs) (carried g changes (map comp_of jobs) s) stages in
      let head : Wave place (length jobs) ≡ x = cc in
      let tail : later ≡ over ++ rest = cc in
      let r = front_of (place + length jobs) (carried g changes (map comp_of jobs) s) stages over rest tail in
      let a = length-append (map comp_of jobs) r.front in
      let b = length-append (map comp_of jobs) (flat_map expressions_of stages) in
      let c = length-map jobs comp_of in
      let end : place + length jobs + length (flat_map expressions_of stages) ≡ place + length (map comp_of jobs ++ flat_map expressions_of stages) = omega (arith, b, c) in
      let begin : place + length (map comp_of jobs ++ r.front) ≡ place + length jobs + length r.front = omega (arith, a, c) in
      record {
        front = map comp_of jobs ++ r.front;
        back = r.back;
        split = ap (λ l. map comp_of jobs ++ l) r.split ∙ sym (append_assoc (map comp_of jobs) r.front r.back);
        reached = begin ∙ r.reached ∙ ap (λ k. come_to k rest) end;
        more = r.more;
        puts = puts-append (map comp_of jobs) r.front s ∙ (λ i. no_puts jobs s i ++ r.puts i) ∙ ap (λ y. ops_of (y ∷ over) ++ r.more) head;
        exact = r.exact;
        comps_are = (let p = comps-append (map comp_of jobs) r.front in let q = comps-jobs jobs in let o = r.comps_are in let z : comps (map comp_of jobs ++ r.front) ≡ length jobs + jobs_of over = omega (arith, p, q, o) in z)
            ∙ ap (λ y. jobs_of (y ∷ over)) head;
      }
  front_of place s (stage.Inst v ∷ stages) over rest e =
      let after_it : State = step g changes (Inst v) s in
      let pages : List Counted = inst_pages g changes keys s v in
      let later : List Leg = legs_after g changes keys (place + 1) after_it stages in
      elim (cut_pages place v pages later over rest e) [
        | in_pages before after page a b c ↦ record {
          front = Inst v ∷ [];
          back = flat_map expressions_of stages;
          split = refl;
          reached = ap (come_to (place + length (flat_map expressions_of (stage.Inst v ∷ stages)))) (sym c);
          more = map (Writes v) (page ∷ after);
          puts = append-nil (map (Writes v) pages) ∙ ap (map (Writes v)) a ∙ writes-append v before (page ∷ after) ∙ ap (λ l. l ++ map (Writes v) (page ∷ after)) (sym (ap ops_of b ∙ ops-pages place v before));
          exact = λ t. absurd (cons_not_nil (sym c ∙ t));
          comps_are = sym (ap jobs_of b ∙ only_pages place v before);
        }
        | behind more b c ↦
            let r = front_of (place + 1) after_it stages more rest c in
            let ends : place + 1 + length (flat_map expressions_of stages) ≡ place + length (Inst v ∷ flat_map expressions_of stages) = omega arith in
            let begin : place + length (Inst v ∷ r.front) ≡ place + 1 + length r.front = omega arith in
            record {
              front = Inst v ∷ r.front;
              back = r.back;
              split = ap (λ l. Inst v ∷ l) r.split;
              reached = begin ∙ r.reached ∙ ap (λ k. come_to k rest) ends;
              more = r.more;
              puts = (λ i. map (Writes v) pages ++ r.puts i) ∙ sym (append_assoc (map (Writes v) pages) (ops_of more) r.more)
                  ∙ ap (λ l. l ++ r.more) (sym (ap ops_of b ∙ ops-append (map (Page place v) pages) more ∙ ap (λ l. l ++ ops_of more) (ops-pages place v pages)));
              exact = r.exact;
              comps_are = r.comps_are ∙ sym (ap jobs_of b ∙ no_jobs place v pages more);
            }
      ]
    where
      cons_not_nil : {x : Leg} {xs : List Leg} → ¬ (x ∷ xs ≡ [])
      cons_not_nil e = cc
