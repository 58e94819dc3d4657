-- The parts of legs, leg by leg.
use Rattle.std.proofs.Common.{◌≡◌, ◌≢◌, refl, sym, ap, subst, ◌∙◌, ℕ, zero, suc, ◌+◌, ◌-◌, ◌<◌, ◌≤◌, List, [], ◌∷◌, ◌++◌, length, take, drop, map, Bool, true, false, eqb, Option, Some, None, ⊎_elim, inl, inr, arith}
use Rattle.std.specs.Prelude.{slice_get, is_none}
use Rattle.std.specs.List.{flat_map, list_all, range_with_len}
use Rattle.std.proofs.lemmas.Bool.{cases_Bool, false≢true}
use Rattle.std.proofs.lemmas.List.{append-nil, append_assoc}
use Rattle.std.specs.Global.{Vec}
use Rattle.wh_carry.specs.declared.course.Course.{Course}
use Rattle.std.proofs.lemmas.List.Elements.{All-append, All-cons, All-nil}
use Rattle.std.proofs.lemmas.Option.{same_Some}
use Rattle.wh_dag.specs.Catalog.{CatalogOf, IsCatalog}
use Rattle.wh_strategy.specs.declared.expression.Expression.{Expression}
use Rattle.wh_strategy.specs.declared.expression.Expression.TheVariants.{Inst}
use Rattle.wh_strategy.specs.Expression.{At}
use Rattle.wh_row.specs.Bag.{Bag}
use Rattle.wh_row.specs.Weigh.{Counted}
use Rattle.wh_maint.specs.declared.fault.MaintFault.{MaintFault}
use Rattle.wh_maint.specs.declared.fault.MaintFault.TheVariants as fault
use Rattle.wh_maint.specs.Comp.{bag_at}
use Rattle.wh_maint.specs.Definition.{graph_of}
use Rattle.wh_maint.specs.Finishing.{kind_in}
use Rattle.wh_maint.specs.Refused.{IsInstallFault}
use Rattle.wh_maint.specs.View.{ViewGraph}
use Rattle.wh_carry.specs.declared.stages.Job.{Job}
use Rattle.wh_carry.specs.declared.stages.Stage.{Stage}
use Rattle.wh_carry.specs.declared.stages.Stage.TheVariants as stage
use Rattle.wh_carry.specs.Carry.{State, before, carried, step}
use Rattle.wh_carry.specs.Kept.{IsFirst, Kept, finished, installed}
use Rattle.wh_carry.specs.NightList.{inst_pages, new_counts, pages_of}
use Rattle.wh_carry.specs.Refused.{IsPassed}
use Rattle.wh_carry.specs.Inner.Refused.{IsPassedIn, IsStepFaultIn}
use Rattle.wh_carry.specs.Waves.{comp_of, expressions_of, stages_of}
use Rattle.wh_carry.proofs.Agreeing.{agrees_first, inst_done}
use Rattle.wh_carry.proofs.AnyOrder.{carried_on}
use Rattle.wh_carry.proofs.Nights.{agrees_next, expression_of}
use Rattle.wh_carry.proofs.Prefixes.{before_next}
use Rattle.wh_carry.proofs.Reasons.{inst_reason}
use Rattle.wh_carry.proofs.Refusals.{passed_here, same_fit, told_first, told_next, unfinished}
use Rattle.wh_carry.proofs.StageLaws.{lists_have_one_stages, waves_are_side_by_side}
use Rattle.wh_strategy.specs.Rules.{IsCorrect}
use Rattle.wh_carry.proofs.Sources.{job_at}
use Rattle.wh_carry.proofs.CourseEnds.{some_refused}
use Rattle.wh_carry.proofs.CourseWaves.{split_at}
use Rattle.wh_carry.specs.declared.course.Part.{Part}
use Rattle.wh_carry.specs.declared.course.Part.TheVariants as part
use Rattle.wh_carry.specs.Night.{Night, ArePassedAt, IsFaultAt, IsFirstFaultOf, IsPassedAt, places_from, state_at}
use Rattle.wh_carry.specs.Legs.{Leg, Page, legs_after, legs_of}
use Rattle.wh_carry.proofs.Places.{places_are}
use Rattle.wh_carry.specs.Course.{AreParts, IsOutcome, IsStop, start_of}
use Rattle.wh_carry.specs.Stages.{place_behind}
use Rattle.wh_carry.specs.Standing.{IsStageIn}
use Rattle.wh_carry.specs.Inner.Standing.{ArePages, GoesPast, IsWaveAt, PutsPages, StandsAt, legs_at}

-- ---- places

range_split : (k m from : ℕ) → range_with_len from (k + m) ≡ range_with_len from k ++ range_with_len (from + k) m
range_split zero m from =
    let a : 0 + m ≡ m = omega arith in
    let b : from ≡ from + 0 = omega arith in
    λ i. range_with_len (b i) (a i)
range_split (suc k) m from =
    let a : suc k + m ≡ suc (k + m) = omega arith in
    let b : from + 1 + k ≡ from + suc k = omega arith in
    ap (range_with_len from) a ∙ ap (λ ps. from ∷ ps) (range_split k m (from + 1) ∙ ap (λ q. range_with_len (from + 1) k ++ range_with_len q m) b)

places_split : (a b c : ℕ) → a ≤ b → b ≤ c → places_from a c ≡ places_from a b ++ places_from b c
places_split a b c l m =
    let x : c - a ≡ (b - a) + (c - b) = omega arith in
    let y : a + (b - a) ≡ b = omega arith in
    places_are a c
    ∙ ap (range_with_len a) x
    ∙ range_split (b - a) (c - b) a
    ∙ ap (λ q. range_with_len a (b - a) ++ range_with_len q (c - b)) y
    ∙ sym (λ i. places_are a b i ++ places_are b c i)

no_places : (a : ℕ) → places_from a a ≡ []
no_places a = let e : a - a ≡ 0 = omega arith in places_are a a ∙ ap (range_with_len a) e

first_place : (a b : ℕ) → a < b → places_from a b ≡ a ∷ places_from (a + 1) b
first_place a b l = let e : b - a ≡ suc (b - (a + 1)) = omega arith in places_are a b ∙ ap (range_with_len a) e ∙ ap (λ ps. a ∷ ps) (sym (places_are (a + 1) b))

none_passed : (n : Night) (a : ℕ) → ArePassedAt n (places_from a a)
none_passed n a = subst (ArePassedAt n) (sym (no_places a)) (All-nil (IsPassedAt n))

one_passed : (n : Night) (a : ℕ) → IsPassedAt n a → ArePassedAt n (places_from a (a + 1))
one_passed n a h = subst (ArePassedAt n) (sym (first_place a (a + 1) (omega arith))) (All-cons (IsPassedAt n) a (places_from (a + 1) (a + 1)) h (none_passed n (a + 1)))

more_faults : (n : Night) (ps qs : List ℕ) (f : MaintFault) → ArePassedAt n ps → IsFirstFaultOf n qs f → IsFirstFaultOf n (ps ++ qs) f
more_faults n ps qs f h g = record {
  earlier = ps ++ g.earlier;
  place = g.place;
  later = g.later;
  split = ap (λ q. ps ++ q) g.split ∙ sym (append_assoc ps g.earlier (g.place ∷ g.later));
  passed = All-append (IsPassedAt n) ps g.earlier h g.passed;
  refused = g.refused;
}

more_stop : (n : Night) (ps qs : List ℕ) (stop : Option MaintFault) → ArePassedAt n ps → IsStop n qs stop → IsStop n (ps ++ qs) stop
more_stop n ps qs None h g = All-append (IsPassedAt n) ps qs h g
more_stop n ps qs (Some f) h g = more_faults n ps qs f h g

-- ---- legs

-- where the first of these legs is in turn, or the end is come to
abbrev pub first_start : ℕ → List Leg → ℕ
first_start end [] = end
first_start end (leg ∷ legs) = start_of leg

-- expressions that are passed before the parts begin
absorb : (n : Night) (from p : ℕ) (legs : List Leg) (parts : List Part) (stop : Option MaintFault) → from ≤ p → p ≤ first_start (length n.list) legs → ArePassedAt n (places_from from p) → AreParts n p legs parts stop → AreParts n from legs parts stop
unfolding AreParts
absorb n from p [] [] stop l m h are = subst (λ ps. IsStop n ps stop) (sym (places_split from p (length n.list) l m)) (more_stop n (places_from from p) (places_from p (length n.list)) stop h are)
absorb n from p [] (x ∷ parts) stop l m h are = are
absorb n from p (leg ∷ legs) [] stop l m h are =
    (are.0, are.1, subst (λ ps. IsFirstFaultOf n ps are.0) (sym (places_split from p (start_of leg) l m)) (more_faults n (places_from from p) (places_from p (start_of leg)) are.0 h are.2))
absorb n from p (leg ∷ legs) (x ∷ parts) stop l m h are =
    (subst (ArePassedAt n) (sym (places_split from p (start_of leg) l m)) (All-append (IsPassedAt n) (places_from from p) (places_from p (start_of leg)) h are.0), are.1, are.2)

-- an expression that is refused before the parts begin
fault_stops : (n : Night) (p : ℕ) (legs : List Leg) (f : MaintFault) → p < first_start (length n.list) legs → IsFaultAt n p f → AreParts n p legs [] (Some f)
unfolding AreParts
fault_stops n p [] f l h = subst (λ ps. IsFirstFaultOf n ps f) (sym (first_place p (length n.list) l)) (record { earlier = []; place = p; later = places_from (p + 1) (length n.list); split = refl; passed = All-nil (IsPassedAt n); refused = h })
fault_stops n p (leg ∷ legs) f l h =
    (f, refl, subst (λ ps. IsFirstFaultOf n ps f) (sym (first_place p (start_of leg) l)) (record { earlier = []; place = p; later = places_from (p + 1) (start_of leg); split = refl; passed = All-nil (IsPassedAt n); refused = h }))

-- pages of an expression that is passed
pages_parts : (n : Night) (p v : ℕ) (pages : List Counted) (added : List Part) (legs : List Leg) (rest : List Part) (stop : Option MaintFault) → ArePages v pages added → AreParts n (p + 1) legs rest stop
    → AreParts n (p + 1) (map (Page p v) pages ++ legs) (added ++ rest) stop
unfolding AreParts
pages_parts n p v [] [] legs rest stop h are = are
pages_parts n p v [] (x ∷ added) legs rest stop h are = absurd h
pages_parts n p v (page ∷ pages) [] legs rest stop h are = absurd h
pages_parts n p v (page ∷ pages) (part.Page op ∷ added) legs rest stop h are = (none_passed n (p + 1), h.0, λ e. pages_parts n p v pages added legs rest stop h.1 are)
pages_parts n p v (page ∷ pages) (part.Wave outcomes ∷ added) legs rest stop h are = absurd h

after_pages : (place v : ℕ) (pages : List Counted) (legs : List Leg) (end : ℕ) → place + 1 ≤ first_start end legs → place ≤ first_start end (map (Page place v) pages ++ legs)
after_pages place v [] legs end l = omega arith
after_pages place v (page ∷ pages) legs end l = omega arith

-- the legs of stages begin at their place or later
legs_start : (g : ViewGraph) (changes : ℕ → Bag) (keys place : ℕ) (s : State) (stages : List Stage) (end : ℕ) → place + length (flat_map expressions_of stages) ≤ end → place ≤ first_start end (legs_after g changes keys place s stages)
unfolding legs_after
legs_start g changes keys place s [] end l = omega arith
legs_start g changes keys place s (stage.Wave jobs ∷ stages) end l = omega arith
legs_start g changes keys place s (stage.Inst v ∷ stages) end l =
    after_pages place v (inst_pages g changes keys s v) (legs_after g changes keys (place + 1) (step g changes (Inst v) s) stages) end (legs_start g changes keys (place + 1) (step g changes (Inst v) s) stages end (omega arith))

past_pages : (n : Night) (p v : ℕ) (pages : List Counted) (legs : List Leg) → p + 1 ≤ first_start (length n.list) legs → p + 1 ≤ first_start (length n.list) (map (Page p v) pages ++ legs)
past_pages n p v [] legs l = l
past_pages n p v (page ∷ pages) legs l = omega arith

-- ---- stages of a list

flat_append : (xs ys : List Stage) → flat_map expressions_of (xs ++ ys) ≡ flat_map expressions_of xs ++ flat_map expressions_of ys
flat_append [] ys = refl
flat_append (x ∷ xs) ys = ap (λ es. expressions_of x ++ es) (flat_append xs ys) ∙ sym (append_assoc (expressions_of x) (flat_map expressions_of xs) (flat_map expressions_of ys))

length_append : {A : Type 0} (xs ys : List A) → length (xs ++ ys) ≡ length xs + length ys
length_append [] ys = omega arith
length_append (x ∷ xs) ys = let e = length_append xs ys in omega arith

map_length : (jobs : List Job) → length (map comp_of jobs) ≡ length jobs
map_length [] = refl
map_length (job ∷ jobs) = ap suc (map_length jobs)

pub place_next : (before : List Stage) (x : Stage) → place_behind (before ++ x ∷ []) ≡ place_behind before + length (expressions_of x)
place_next before x =
    let a = ap length (flat_append before (x ∷ [])) in
    let b = length_append (flat_map expressions_of before) (flat_map expressions_of (x ∷ [])) in
    let c = length_append (expressions_of x) [] in
    let d : length (flat_map expressions_of (x ∷ [])) ≡ length (expressions_of x) = c ∙ (let z : length (expressions_of x) + 0 ≡ length (expressions_of x) = omega arith in z) in
    a ∙ b ∙ ap (λ k. place_behind before + k) d

module _ (n : Night) (before after : List Stage) (x : Stage) (split : stages_of n.list ≡ before ++ x ∷ after) where
  joined : flat_map expressions_of before ++ (expressions_of x ++ flat_map expressions_of after) ≡ n.list
  joined = sym (flat_append before (x ∷ after)) ∙ ap (flat_map expressions_of) (sym split) ∙ (lists_have_one_stages n.list).0.joined

  -- what is left fits behind
  pub fits_behind : place_behind before + length (expressions_of x) + length (flat_map expressions_of after) ≤ length n.list
  fits_behind =
      let a = ap length joined in
      let b = length_append (flat_map expressions_of before) (expressions_of x ++ flat_map expressions_of after) in
      let c = length_append (expressions_of x) (flat_map expressions_of after) in
      omega (arith, a, b, c)

at_place : (es fs : List Expression) (e : Expression) → slice_get (es ++ e ∷ fs) (length es) ≡ Some e
at_place [] fs e = refl
at_place (x ∷ es) fs e = at_place es fs e

-- ---- a wave

pub wave_at : (n : Night) (before after : List Stage) (jobs : List Job) (k : Kept) → StandsAt n (place_behind before) k → stages_of n.list ≡ before ++ stage.Wave jobs ∷ after → IsWaveAt n.catalog jobs n (place_behind before)
wave_at n before after jobs k stands split =
    let law = waves_are_side_by_side n.catalog.views.children n.list stands.correct before after jobs split in
    record { same = refl; are = law.0; side = law.1 }

module _ (n : Night) (before after : List Stage) (jobs : List Job) (k : Kept) (stands : StandsAt n (place_behind before) k) (split : stages_of n.list ≡ before ++ stage.Wave jobs ∷ after) where
  wave_end : place_behind (before ++ stage.Wave jobs ∷ []) ≡ place_behind before + length jobs
  wave_end = place_next before (stage.Wave jobs) ∙ ap (λ m. place_behind before + m) (map_length jobs)

  pub stands_behind_wave : (next : Kept) → StandsAt n (place_behind before + length jobs) next → StandsAt n (place_behind (before ++ stage.Wave jobs ∷ [])) next
  stands_behind_wave next s = subst (λ p. StandsAt n p next) (sym wave_end) s

  wave_state : carried (graph_of n.catalog) n.changes (map comp_of jobs) (state_at n (place_behind before)) ≡ state_at n (place_behind (before ++ stage.Wave jobs ∷ []))
  wave_state =
      let wave = wave_at n before after jobs k stands split in
      ap (λ es. carried (graph_of n.catalog) n.changes es (state_at n (place_behind before))) (sym wave.are) ∙ carried_on (graph_of n.catalog) n.changes n.list n.tables (place_behind before) (length jobs) ∙ ap (state_at n) (sym wave_end)

  pub wave_goes : (next : Kept) (was is : Course) (outcomes : Vec (Option MaintFault)) (goes : Bool) → length outcomes.items ≡ length jobs
      → ((j : ℕ) (o : Option MaintFault) → slice_get outcomes.items j ≡ Some o → IsOutcome n (place_behind before + j) o) → (list_all is_none outcomes.items ≡ true → StandsAt n (place_behind before + length jobs) next)
      → goes ≡ list_all is_none outcomes.items → is.parts.items ≡ was.parts.items ++ part.Wave outcomes ∷ [] → is.stop ≡ was.stop → GoesPast n before (stage.Wave jobs) after goes k next was is
  unfolding AreParts legs_after
  wave_goes next was is outcomes goes each outcome stand goes_is parts stop =
      let p : ℕ = place_behind before in
      let g : ViewGraph = graph_of n.catalog in
      record {
        stands = λ s t. stands_behind_wave next (stand (sym goes_is ∙ t));
        added = part.Wave outcomes ∷ [];
        parts = parts;
        stop = λ t. stop;
        going = λ s t rest stop are. (
          none_passed n p,
          (each, outcome),
          λ passed. subst (λ q. AreParts n q (legs_after g n.changes n.keys q (carried g n.changes (map comp_of jobs) (state_at n p)) after) rest stop) wave_end
              (subst (λ st. AreParts n (place_behind (before ++ stage.Wave jobs ∷ [])) (legs_after g n.changes n.keys (place_behind (before ++ stage.Wave jobs ∷ [])) st after) rest stop) (sym wave_state) are),
        );
        ending = λ s t. (none_passed n p, (each, outcome), λ passed. absurd (false≢true (sym t ∙ goes_is ∙ passed)));
        refused = λ s t. let r = some_refused outcomes.items (sym goes_is ∙ t) in record { place = p + r.0; fault = r.1; refused = outcome r.0 (Some r.1) r.2 };
      }

-- ---- an Inst

module _ (n : Night) (before after : List Stage) (v : ℕ) (k : Kept) (stands : StandsAt n (place_behind before) k) (split : stages_of n.list ≡ before ++ stage.Inst v ∷ after) where
  pub inst_at : At n.list (place_behind before) (Inst v)
  inst_at = subst (λ l. At l (place_behind before) (Inst v)) (joined n before after (stage.Inst v) split) (at_place (flat_map expressions_of before) (flat_map expressions_of after) (Inst v))

  inst_end : place_behind (before ++ stage.Inst v ∷ []) ≡ place_behind before + 1
  inst_end = place_next before (stage.Inst v)

  behind : (place_behind before + 1) + length (flat_map expressions_of after) ≤ length n.list
  behind = fits_behind n before after (stage.Inst v) split

  inst_state : step (graph_of n.catalog) n.changes (Inst v) (state_at n (place_behind before)) ≡ state_at n (place_behind before + 1)
  inst_state =
      let e : suc (place_behind before) ≡ place_behind before + 1 = omega arith in
      sym (before_next (graph_of n.catalog) n.changes n.list n.tables (place_behind before) (Inst v) inst_at) ∙ ap (state_at n) e

  later : place_behind before + 1 ≤ first_start (length n.list) (legs_after (graph_of n.catalog) n.changes n.keys (place_behind before + 1) (step (graph_of n.catalog) n.changes (Inst v) (state_at n (place_behind before))) after)
  later = legs_start (graph_of n.catalog) n.changes n.keys (place_behind before + 1) (step (graph_of n.catalog) n.changes (Inst v) (state_at n (place_behind before))) after (length n.list) behind

  pub inst_passes : (next : Kept) (was is : Course) → IsPassedIn n.catalog k (Inst v) → next ≡ installed v (finished n.catalog (λ u. eqb v u) k)
      → PutsPages v (pages_of n.keys (new_counts (k.tables v) ((finished n.catalog (λ u. eqb v u) k).changes v))) was.parts.items is.parts.items → is.stop ≡ was.stop → GoesPast n before (stage.Inst v) after true k next was is
  unfolding AreParts legs_after
  inst_passes next was is passed done puts stop =
      let p : ℕ = place_behind before in
      let g : ViewGraph = graph_of n.catalog in
      let cat = n.catalog in
      let here : IsPassedAt n p = λ e a. subst (IsPassed cat n.changes (state_at n p)) (same_Some (Inst v) e (sym inst_at ∙ a)) (passed_here cat n.list n.tables n.changes stands.catalogue stands.correct p (Inst v) k inst_at stands.agrees stands.told passed) in
      let change = (inst_done cat n.list n.tables n.changes stands.catalogue stands.correct p v k inst_at stands.agrees).1 in
      let pages : pages_of n.keys (new_counts (k.tables v) ((finished cat (λ u. eqb v u) k).changes v)) ≡ inst_pages g n.changes n.keys (state_at n p) v =
      (λ i. pages_of n.keys (new_counts (stands.agrees.tables v i) (change i))) in
      record {
        stands = λ s t. subst (λ q. StandsAt n q next) (sym inst_end) (record {
          catalogue = stands.catalogue;
          correct = stands.correct;
          agrees = agrees_next cat n.list n.tables n.changes stands.catalogue stands.correct p (Inst v) k next inst_at stands.agrees done;
          told = told_next cat n.list n.tables n.changes stands.catalogue stands.correct p (Inst v) k next inst_at stands.agrees stands.told passed done;
        });
        added = puts.added;
        parts = puts.is;
        stop = λ t. stop;
        going = λ s t rest stop are.
            let legs : List Leg = legs_after g n.changes n.keys (p + 1) (step g n.changes (Inst v) (state_at n p)) after in
            let left : AreParts n (p + 1) legs rest stop =
            subst (λ st. AreParts n (p + 1) (legs_after g n.changes n.keys (p + 1) st after) rest stop) (sym inst_state) (subst (λ q. AreParts n q (legs_at n q after) rest stop) inst_end are) in
            absorb n p (p + 1) (map (Page p v) (inst_pages g n.changes n.keys (state_at n p) v) ++ legs) (puts.added ++ rest) stop (omega arith) (past_pages n p v (inst_pages g n.changes n.keys (state_at n p) v) legs later) (one_passed n p here)
            (pages_parts n p v (inst_pages g n.changes n.keys (state_at n p) v) puts.added legs rest stop (subst (λ ps. ArePages v ps puts.added) pages puts.are) left);
        ending = λ s t. absurd (false≢true (sym t));
        refused = λ s t. absurd (false≢true (sym t));
      }

  inst_fault : (f : MaintFault) → f ≢ fault.Memory → IsStepFaultIn n.catalog k (Inst v) f → IsFaultAt n (place_behind before) f
  inst_fault f other h =
      let p : ℕ = place_behind before in
      let cat = n.catalog in
      let s : State = state_at n p in
      let done = inst_done cat n.list n.tables n.changes stands.catalogue stands.correct p v k inst_at stands.agrees in
      let inside = stands.correct.views p v inst_at in
      ⊎_elim (λ m. absurd (other m)) (λ r. record { expression = Inst v; there = inst_at; refused = r })
      (inst_reason cat n.changes s v f (⊎_elim
      (λ u. inl (unfinished cat n.list n.tables n.changes stands.catalogue stands.correct p s k stands.agrees v inside f u))
      (λ r. inr (
        λ derived. ⊎_elim
            (λ y. stands.told p v inst_at y derived)
            (λ unknown. same_fit (kind_in cat v) (k.tables v) (s.tables v) (bag_at (k.pending v)) (s.pending v) (stands.agrees.tables v) (λ i j. stands.agrees.pending v inside j i) (r.0 unknown))
            (cases_Bool (k.known v)),
        subst (λ b. IsInstallFault v (s.tables v) b f) done.1 (subst (λ b. IsInstallFault v b ((finished cat (λ u. eqb v u) k).changes v) f) (stands.agrees.tables v) r.1),
      ))
      h))

  pub inst_stops : (next : Kept) (was is : Course) (f : MaintFault) → f ≢ fault.Memory → IsStepFaultIn n.catalog k (Inst v) f → is.parts.items ≡ was.parts.items → is.stop ≡ Some f → GoesPast n before (stage.Inst v) after false k next was is
  unfolding legs_after
  inst_stops next was is f other h parts stop = record {
    stands = λ s t. absurd (false≢true t);
    added = [];
    parts = parts ∙ sym (append-nil was.parts.items);
    stop = λ t. absurd (false≢true t);
    going = λ s t. absurd (false≢true t);
    ending = λ s t. subst (λ st. AreParts n (place_behind before) (legs_at n (place_behind before) (stage.Inst v ∷ after)) [] st) (sym stop)
        (fault_stops n (place_behind before) (map (Page (place_behind before) v) (inst_pages (graph_of n.catalog) n.changes n.keys (state_at n (place_behind before)) v) ++ legs_after (graph_of n.catalog) n.changes n.keys (place_behind before + 1) (step (graph_of n.catalog) n.changes (Inst v) (state_at n (place_behind before))) after) f
        (let l = past_pages n (place_behind before) v (inst_pages (graph_of n.catalog) n.changes n.keys (state_at n (place_behind before)) v) (legs_after (graph_of n.catalog) n.changes n.keys (place_behind before + 1) (step (graph_of n.catalog) n.changes (Inst v) (state_at n (place_behind before))) after) later in omega arith)
        (inst_fault f other h));
    refused = λ s t. record { place = place_behind before; fault = f; refused = inst_fault f other h };
  }

-- ---- all stages

pub starts_so : (n : Night) (stages : List Stage) (rest : List Part) (stop : Option MaintFault) → stages ≡ stages_of n.list → AreParts n 0 (legs_at n 0 stages) rest stop → AreParts n 0 (legs_of n) rest stop
unfolding carried
starts_so n stages rest stop e are = subst (λ xs. AreParts n 0 (legs_after (graph_of n.catalog) n.changes n.keys 0 (state_at n 0) xs) rest stop) e are

pub drop_stage : {A : Type 0} (xs : List A) (i : ℕ) (x : A) → slice_get xs i ≡ Some x → drop i xs ≡ x ∷ drop (i + 1) xs
drop_stage [] i x e = cc
drop_stage (y ∷ ys) zero x e = let f : y ≡ x = same_Some y x e in ap (λ z. z ∷ ys) f
drop_stage (y ∷ ys) (suc i) x e = let f : suc (i + 1) ≡ suc i + 1 = omega arith in drop_stage ys i x e ∙ ap (λ k. x ∷ drop k (y ∷ ys)) f

pub ends_so : (n : Night) (stages : List Stage) → stages ≡ stages_of n.list → AreParts n (place_behind stages) (legs_at n (place_behind stages) []) [] None
unfolding AreParts legs_after
ends_so n stages e =
    let whole : place_behind stages ≡ length n.list = ap length (ap (flat_map expressions_of) e ∙ (lists_have_one_stages n.list).0.joined) in
    subst (λ p. ArePassedAt n (places_from (place_behind stages) p)) whole (none_passed n (place_behind stages))

-- each stage is one of the catalogue's views
pub stages_in : (catalog : CatalogOf) (list : List Expression) → IsCorrect catalog.views.children list → (stages : List Stage) → stages ≡ stages_of list → (i : ℕ) (x : Stage) → slice_get stages i ≡ Some x → IsStageIn catalog x
stages_in catalog list ok stages e i x here = by_stage x (sym e ∙ sym (split_at stages i x here))
  where
    by_stage : (x : Stage) → stages_of list ≡ take i stages ++ x ∷ drop (suc i) stages → IsStageIn catalog x
    by_stage (stage.Wave jobs) split = λ j job is.
        let law = waves_are_side_by_side catalog.views.children list ok (take i stages) (drop (suc i) stages) jobs split in
        expression_of catalog list ok (place_behind (take i stages) + j) (comp_of job) (job_at list (place_behind (take i stages)) jobs law.0 j job is)
    by_stage (stage.Inst v) split =
        let whole : flat_map expressions_of (take i stages) ++ (Inst v ∷ flat_map expressions_of (drop (suc i) stages)) ≡ list =
        sym (flat_append (take i stages) (stage.Inst v ∷ drop (suc i) stages)) ∙ ap (flat_map expressions_of) (sym split) ∙ (lists_have_one_stages list).0.joined in
        ok.views (place_behind (take i stages)) v (subst (λ l. At l (place_behind (take i stages)) (Inst v)) whole (at_place (flat_map expressions_of (take i stages)) (flat_map expressions_of (drop (suc i) stages)) (Inst v)))

pub stands_first : (catalog : CatalogOf) (list : List Expression) (tables changes : ℕ → Bag) (keys : ℕ) (k : Kept) → IsCatalog catalog → IsCorrect catalog.views.children list → IsFirst catalog tables changes k
    → StandsAt (record { catalog = catalog; list = list; tables = tables; changes = changes; keys = keys }) 0 k
stands_first catalog list tables changes keys k is ok first = record {
  catalogue = is;
  correct = ok;
  agrees = agrees_first catalog list tables changes is ok k first;
  told = told_first catalog list tables changes is ok k first;
}
