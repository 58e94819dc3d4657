-- A wave, job by job: those that are not refused are added until the first that is.
use Rattle.std.proofs.Common.{◌≡◌, ◌≢◌, refl, sym, ap, subst, ◌∙◌, ℕ, zero, suc, ◌+◌, ◌-◌, ◌<◌, ◌≤◌, List, [], ◌∷◌, ◌++◌, length, map, take, drop, Bool, true, false, cond, Option, Some, None, ◌⊎◌, ⊎_elim, inl, get_or, arith}
use Rattle.std.specs.Prelude.{slice_get, option_map, is_none, ◌&&◌}
use Rattle.std.specs.List.Sorted.{IsPermutation}
use Rattle.std.specs.List.{list_all}
use Rattle.std.proofs.lemmas.Bool.{false≢true, or_left, or_right}
use Rattle.std.proofs.lemmas.List.Sorted.{IsPermutation-append_right, IsPermutation-middle, IsPermutation-refl}
use Rattle.std.proofs.lemmas.Option.{same_Some, slice_get-get_or, slice_get-map, slice_get_within}
use Rattle.wh_dag.specs.Shape.{has, children_of}
use Rattle.wh_dag.specs.Catalog.{CatalogOf, IsCatalog, definition_of}
use Rattle.wh_strategy.specs.declared.expression.Expression.{Expression}
use Rattle.wh_strategy.specs.declared.expression.Expression.TheVariants.{Comp}
use Rattle.wh_strategy.specs.Expression.{At}
use Rattle.wh_strategy.specs.Rules.{IsCorrect}
use Rattle.wh_maint.specs.declared.fault.MaintFault.{MaintFault}
use Rattle.wh_maint.specs.declared.fault.MaintFault.TheVariants as fault
use Rattle.wh_maint.specs.Comp.{comp_columns}
use Rattle.wh_maint.specs.Definition.{graph_of, view_of}
use Rattle.wh_maint.specs.Refused.{MergedFit}
use Rattle.wh_carry.specs.declared.stages.Job.{Job}
use Rattle.wh_carry.specs.AnyOrder.{IsSameAt, expressions_from}
use Rattle.wh_carry.specs.Carry.{carried}
use Rattle.wh_carry.specs.Kept.{Kept, AreKnown, CanFinish}
use Rattle.wh_carry.specs.Inner.Kept.{computed}
use Rattle.wh_row.specs.Bag.{Bag}
use Rattle.wh_maint.specs.Fit.{IsFitTable}
use Rattle.wh_maint.specs.Finishing.{kind_in}
use Rattle.wh_carry.specs.Refused.{CanBeComputed, IsPassed, IsStepFault}
use Rattle.wh_carry.specs.Inner.Refused.{IsAddFaultIn}
use Rattle.wh_carry.specs.Waves.{comp_of}
use Rattle.wh_carry.specs.Inner.Agreeing.{Agrees, AreTold}
use Rattle.wh_carry.proofs.Amid.{IsSource, next_amid, passed_amid, refused_amid, source_in, wave_over, waves_have_no_order}
use Rattle.wh_carry.proofs.AnyOrder.{carried_on}
use Rattle.wh_carry.proofs.Reasons.{comp_reason}
use Rattle.wh_carry.specs.declared.wave.Refusal.{Refusal}
use Rattle.wh_carry.specs.declared.wave.Refusal.TheVariants as refusal
use Rattle.wh_carry.specs.Night.{Night, state_at}
use Rattle.wh_carry.specs.Course.{IsOutcome}
use Rattle.wh_carry.specs.Standing.{is_source}
use Rattle.wh_carry.specs.Inner.Standing.{IsAmid, IsFirstOf, IsSourceOutcome, IsWaveAt, StandsAt, answer_of}
use Rattle.wh_carry.proofs.Sources.{job_at, source_finishes}

-- ---- lists

pub take_drop : {A : Type 0} (q : ℕ) (xs : List A) → take q xs ++ drop q xs ≡ xs
take_drop zero xs = refl
take_drop (suc q) [] = refl
take_drop (suc q) (x ∷ xs) = ap (λ ys. x ∷ ys) (take_drop q xs)

pub get_drop : {A : Type 0} (q j : ℕ) (xs : List A) → slice_get (drop q xs) j ≡ slice_get xs (q + j)
get_drop zero j xs = let e : j ≡ 0 + j = omega arith in ap (slice_get xs) e
get_drop (suc q) j [] = let e : suc q + j ≡ suc (q + j) = omega arith in sym (ap (slice_get []) e)
get_drop (suc q) j (x ∷ xs) = let e : suc q + j ≡ suc (q + j) = omega arith in get_drop q j xs ∙ sym (ap (slice_get (x ∷ xs)) e)

pub split_at : {A : Type 0} (xs : List A) (j : ℕ) (x : A) → slice_get xs j ≡ Some x → take j xs ++ x ∷ drop (suc j) xs ≡ xs
split_at [] j x e = cc
split_at (y ∷ ys) zero x e = let f : y ≡ x = same_Some y x e in ap (λ z. z ∷ ys) (sym f)
split_at (y ∷ ys) (suc j) x e = ap (λ zs. y ∷ zs) (split_at ys j x e)

pub take_next : {A : Type 0} (xs : List A) (j : ℕ) (x : A) → slice_get xs j ≡ Some x → take (j + 1) xs ≡ take j xs ++ x ∷ []
take_next [] j x e = cc
take_next (y ∷ ys) zero x e = let f : y ≡ x = same_Some y x e in ap (λ z. z ∷ []) f
take_next (y ∷ ys) (suc j) x e = let f : suc j + 1 ≡ suc (j + 1) = omega arith in ap (λ k. take k (y ∷ ys)) f ∙ ap (λ zs. y ∷ zs) (take_next ys j x e)

pub take_take : {A : Type 0} (j n : ℕ) (xs : List A) → j ≤ n → take j (take n xs) ≡ take j xs
take_take zero n xs l = refl
take_take (suc j) zero xs l = absurd (omega arith)
take_take (suc j) (suc n) [] l = refl
take_take (suc j) (suc n) (x ∷ xs) l = ap (λ ys. x ∷ ys) (take_take j n xs (omega arith))

pub take_all : {A : Type 0} (n : ℕ) (xs : List A) → length xs ≤ n → take n xs ≡ xs
take_all zero [] l = refl
take_all zero (x ∷ xs) l = absurd (omega arith)
take_all (suc n) [] l = refl
take_all (suc n) (x ∷ xs) l = ap (λ ys. x ∷ ys) (take_all n xs (omega arith))

-- an item can be drawn forward
pub drawn_forward : {A : Type 0} (xs : List A) (q j : ℕ) (x : A) → q ≤ j → slice_get xs j ≡ Some x → (left : List A) × IsPermutation xs (take q xs ++ x ∷ left)
drawn_forward xs q j x l e =
    let i : ℕ = j - q in
    let back : q + i ≡ j = omega arith in
    let there : slice_get (drop q xs) i ≡ Some x = get_drop q i xs ∙ ap (slice_get xs) back ∙ e in
    let mid = take i (drop q xs) in
    let rest = drop (suc i) (drop q xs) in
    let whole : take q xs ++ (mid ++ x ∷ rest) ≡ xs = ap (λ ys. take q xs ++ ys) (split_at (drop q xs) i x there) ∙ take_drop q xs in
    (mid ++ rest, subst (λ ys. IsPermutation ys (take q xs ++ x ∷ (mid ++ rest))) whole (IsPermutation-append_right (take q xs) (mid ++ x ∷ rest) (x ∷ (mid ++ rest)) (IsPermutation-middle mid x rest)))

not_memory : (r : Refusal) → answer_of r ≢ fault.Memory
not_memory (refusal.Large v) e = cc
not_memory (refusal.Range v) e = cc

-- ---- one job

module _ (n : Night) (place : ℕ) (jobs : List Job) (wave : IsWaveAt n.catalog jobs n place) (is : IsCatalog n.catalog) (ok : IsCorrect n.catalog.views.children n.list) (j : ℕ) (job : Job) (here : slice_get jobs j ≡ Some job) where
  abbrev comps : List Expression
  comps = map comp_of jobs

  within : j < length jobs
  within = slice_get_within jobs j job here

  pub at : At n.list (place + j) (comp_of job)
  at = job_at n.list place jobs wave.are j job here

  there : slice_get (map comp_of jobs) j ≡ Some (comp_of job)
  there = slice_get-map comp_of jobs j ∙ ap (option_map comp_of) here

  -- what it is refused for before the wave, it is refused for at its own place
  same : IsSameAt n.catalog n.changes (state_at n (place + j)) (state_at n place) (comp_of job)
  same =
      let law = waves_have_no_order n.catalog n.list n.tables n.changes is ok place (length jobs) wave.side in
      let split : take j (map comp_of jobs) ++ comp_of job ∷ drop (suc j) (map comp_of jobs) ≡ map comp_of jobs = split_at (map comp_of jobs) j (comp_of job) there in
      let perm : IsPermutation (expressions_from n.list place (length jobs)) (take j (map comp_of jobs) ++ comp_of job ∷ drop (suc j) (map comp_of jobs)) =
      subst (λ es. IsPermutation es (take j (map comp_of jobs) ++ comp_of job ∷ drop (suc j) (map comp_of jobs))) (split ∙ sym wave.are) (IsPermutation-refl (take j (map comp_of jobs) ++ comp_of job ∷ drop (suc j) (map comp_of jobs))) in
      let first : take j (map comp_of jobs) ≡ expressions_from n.list place j = ap (take j) (sym wave.are) ∙ take_take j (length jobs) (drop place n.list) (let w = within in omega arith) in
      subst (λ s. IsSameAt n.catalog n.changes s (state_at n place) (comp_of job)) (ap (λ es. carried (graph_of n.catalog) n.changes es (state_at n place)) first ∙ carried_on (graph_of n.catalog) n.changes n.list n.tables place j)
      (law.amid (take j (map comp_of jobs)) (drop (suc j) (map comp_of jobs)) (comp_of job) perm)

  pub passed_here : IsPassed n.catalog n.changes (state_at n place) (comp_of job) → IsOutcome n (place + j) None
  passed_here h e a = subst (IsPassed n.catalog n.changes (state_at n (place + j))) (same_Some (comp_of job) e (sym at ∙ a)) (same.passed.1 h)

  pub refused_here : (r : Refusal) → (answer_of r ≡ fault.Memory) ⊎ IsStepFault n.catalog n.changes (state_at n place) (comp_of job) (answer_of r) → IsOutcome n (place + j) (Some (answer_of r))
  refused_here r h = ⊎_elim (λ m. absurd (not_memory r m)) (λ f. record { expression = comp_of job; there = at; refused = (same.refused (answer_of r)).1 f }) h

  -- a source of it
  its_source : (u : ℕ) → has job.from u ≡ true → IsSource n.list place (length jobs) u
  its_source u m = record { job = j; view = job.view; sources = job.from; within = within; there = at; among = m }

  -- the first of its sources that is refused
  pub source_refused : (refusals : List (Option Refusal)) (k : Kept) (r : Refusal) → length refusals ≡ length n.catalog.views.children → StandsAt n place k
      → ((u : ℕ) (o : Option Refusal) → has job.from u ≡ true → slice_get refusals u ≡ Some o → IsSourceOutcome n place k u o) → IsFirstOf refusals job.from r → IsOutcome n (place + j) (Some (answer_of r))
  source_refused refusals k r each stands outcomes first =
      refused_here r (comp_reason n.catalog n.changes (state_at n place) job.view job.from (answer_of r) (inl (record {
        view = first.view;
        among = first.among;
        lower = λ u l m.
            let inside : u < length n.catalog.views.children = source_in n.catalog n.list n.tables n.changes is ok place (length jobs) wave.side u (its_source u m) in
            let is_there : slice_get refusals u ≡ Some (get_or refusals u None) = slice_get-get_or refusals u None (omega (arith, each, inside)) in
            let none : get_or refusals u None ≡ None = first.lower u (get_or refusals u None) l m is_there in
            let known : k.known u ≡ true = outcomes u None m (is_there ∙ ap Some none) in
            source_finishes n.catalog n.list n.tables n.changes is ok place (length jobs) wave.side u (its_source u m) k stands.agrees stands.told (λ no. absurd (false≢true (sym no ∙ known)));
        refused = outcomes first.view (Some r) first.among first.is;
      })))

  -- where some are added and its sources are known
  module _ (q : ℕ) (few : q ≤ j) (k : Kept) (agrees : Agrees n.catalog n.list n.tables n.changes place (carried (graph_of n.catalog) n.changes (take q (map comp_of jobs)) (state_at n place)) k)
      (told : AreTold n.catalog n.list n.tables n.changes k) (known : AreKnown k job.from) where
    forward : (left : List Expression) × IsPermutation (map comp_of jobs) (take q (map comp_of jobs) ++ comp_of job ∷ left)
    forward = drawn_forward (map comp_of jobs) q j (comp_of job) few there

    perm : IsPermutation (expressions_from n.list place (length jobs)) (take q (map comp_of jobs) ++ Comp job.view job.from ∷ forward.0)
    perm = subst (λ es. IsPermutation es (take q (map comp_of jobs) ++ comp_of job ∷ forward.0)) (sym wave.are) forward.1

    pub job_passed : CanBeComputed (view_of (definition_of n.catalog job.view)) (children_of n.catalog.views.children job.view) job.from k.tables k.changes
        → MergedFit (k.pending job.view) (comp_columns (view_of (definition_of n.catalog job.view)) (children_of n.catalog.views.children job.view) job.from k.tables k.changes) → IsOutcome n (place + j) None
    job_passed can fit = passed_here (passed_amid n.catalog n.list n.tables n.changes is ok place (length jobs) wave.side (take q (map comp_of jobs)) forward.0 j job.view job.from within at perm k agrees known told can fit)

    pub job_refused : (r : Refusal) → IsAddFaultIn n.catalog k job.view job.from (answer_of r) → IsOutcome n (place + j) (Some (answer_of r))
    job_refused r f = refused_here r (refused_amid n.catalog n.list n.tables n.changes is ok place (length jobs) wave.side (take q (map comp_of jobs)) forward.0 j job.view job.from within at perm k agrees known told (answer_of r) f)

    pub job_added : q ≡ j → Agrees n.catalog n.list n.tables n.changes place (carried (graph_of n.catalog) n.changes (take (j + 1) (map comp_of jobs)) (state_at n place)) (computed n.catalog job.view job.from k)
    job_added e =
        subst (λ es. Agrees n.catalog n.list n.tables n.changes place (carried (graph_of n.catalog) n.changes es (state_at n place)) (computed n.catalog job.view job.from k))
        (ap (λ i. take i (map comp_of jobs) ++ comp_of job ∷ []) e ∙ sym (take_next (map comp_of jobs) j (comp_of job) there))
        (next_amid n.catalog n.list n.tables n.changes is ok place (length jobs) wave.side (take q (map comp_of jobs)) forward.0 j job.view job.from within at perm k agrees known)

-- ---- after one job

-- it is added, where all before it were, or nothing has changed
pub data Tried (catalog : CatalogOf) (job : Job) (keeps : Bool) (k next : Kept) : Option Refusal → Type 0 where
  passed : CanBeComputed (view_of (definition_of catalog job.view)) (children_of catalog.views.children job.view) job.from k.tables k.changes
      → MergedFit (k.pending job.view) (comp_columns (view_of (definition_of catalog job.view)) (children_of catalog.views.children job.view) job.from k.tables k.changes)
      → next ≡ cond keeps (computed catalog job.view job.from k) k → Tried catalog job keeps k next None
  refused : (r : Refusal) → next ≡ k → IsAddFaultIn catalog k job.view job.from (answer_of r) → Tried catalog job keeps k next (Some r)

pub tried_so : (catalog : CatalogOf) (job : Job) (keeps : Bool) (k next : Kept) (o : Option Refusal)
    → (o ≡ None → CanBeComputed (view_of (definition_of catalog job.view)) (children_of catalog.views.children job.view) job.from k.tables k.changes)
    → (o ≡ None → MergedFit (k.pending job.view) (comp_columns (view_of (definition_of catalog job.view)) (children_of catalog.views.children job.view) job.from k.tables k.changes))
    → (o ≡ None → next ≡ cond keeps (computed catalog job.view job.from k) k) → ((r : Refusal) → o ≡ Some r → next ≡ k) → ((r : Refusal) → o ≡ Some r → IsAddFaultIn catalog k job.view job.from (answer_of r))
    → Tried catalog job keeps k next o
tried_so catalog job keeps k next None c f e s r = passed (c refl) (f refl) (e refl)
tried_so catalog job keeps k next (Some x) c f e s r = refused x (s x refl) (r x refl)

same_known : (catalog : CatalogOf) (v : ℕ) (ys : List ℕ) (keeps : Bool) (k : Kept) → (cond keeps (computed catalog v ys k) k).known ≡ k.known
same_known catalog v ys true k = refl
same_known catalog v ys false k = refl

same_tables : (catalog : CatalogOf) (v : ℕ) (ys : List ℕ) (keeps : Bool) (k : Kept) → (cond keeps (computed catalog v ys k) k).tables ≡ k.tables
same_tables catalog v ys true k = refl
same_tables catalog v ys false k = refl

pub known_tried : (catalog : CatalogOf) (job : Job) (keeps : Bool) (k next : Kept) (o : Option Refusal) → Tried catalog job keeps k next o → next.known ≡ k.known
known_tried catalog job keeps k next None (passed c f e) = ap (λ (k : Kept). k.known) e ∙ same_known catalog job.view job.from keeps k
known_tried catalog job keeps k next (Some r) (refused r' s f) = ap (λ (k : Kept). k.known) s

pub fit_tried : (catalog : CatalogOf) (job : Job) (keeps : Bool) (k next : Kept) (o : Option Refusal) → CanFinish catalog k → Tried catalog job keeps k next o → CanFinish catalog next
fit_tried catalog job keeps k next None fit (passed c f e) = λ v l unknown.
    subst (λ (ts : ℕ → Bag). IsFitTable (kind_in catalog v) (ts v)) (sym (ap (λ (k : Kept). k.tables) e ∙ same_tables catalog job.view job.from keeps k))
    (fit v l (sym (ap (λ (k : Kept). k.known v) e ∙ ap (λ (f : ℕ → Bool). f v) (same_known catalog job.view job.from keeps k)) ∙ unknown))
fit_tried catalog job keeps k next (Some r) fit (refused r' s f) = subst (CanFinish catalog) (sym s) fit

module _ (n : Night) (place : ℕ) (jobs : List Job) (wave : IsWaveAt n.catalog jobs n place) (is : IsCatalog n.catalog) (ok : IsCorrect n.catalog.views.children n.list) (j : ℕ) (job : Job) (here : slice_get jobs j ≡ Some job)
    (keeps : Bool) (k : Kept) (amid : IsAmid n place jobs j keeps k) where
  pub outcome_tried : (next : Kept) (o : Option Refusal) → AreKnown k job.from → Tried n.catalog job keeps k next o → IsOutcome n (place + j) (option_map answer_of o)
  outcome_tried next None known (passed c f e) = job_passed n place jobs wave is ok j job here amid.added amid.few k amid.agrees amid.told known c f
  outcome_tried next (Some r) known (refused r' s f) = job_refused n place jobs wave is ok j job here amid.added amid.few k amid.agrees amid.told known r f

  unmoved : (next : Kept) → next ≡ k → (clean : Bool) → clean ≡ false → IsAmid n place jobs (j + 1) clean next
  unmoved next e clean stopped =
      let few = amid.few in
      subst (IsAmid n place jobs (j + 1) clean) (sym e) (record { added = amid.added; few = omega (arith, few); all = λ yes. absurd (false≢true (sym stopped ∙ yes)); agrees = amid.agrees; told = amid.told })

  moved : (next : Kept) → next ≡ computed n.catalog job.view job.from k → AreKnown k job.from → amid.added ≡ j → IsAmid n place jobs (j + 1) (true && true) next
  moved next e known q =
      subst (IsAmid n place jobs (j + 1) (true && true)) (sym e) (record {
        added = j + 1;
        few = omega arith;
        all = λ yes. refl;
        agrees = job_added n place jobs wave is ok j job here amid.added amid.few k amid.agrees amid.told known q;
        told = amid.told;
      })

  pub amid_tried : (next : Kept) (o : Option Refusal) → AreKnown k job.from → Tried n.catalog job keeps k next o → IsAmid n place jobs (j + 1) (keeps && is_none o) next
  amid_tried next None known (passed c f e) = by_kept keeps refl
    where
      by_kept : (b : Bool) → keeps ≡ b → IsAmid n place jobs (j + 1) (keeps && true) next
      by_kept true y = subst (λ b. IsAmid n place jobs (j + 1) (b && true) next) (sym y) (moved next (e ∙ ap (λ b. cond b (computed n.catalog job.view job.from k) k) y) known (amid.all y))
      by_kept false y = subst (λ b. IsAmid n place jobs (j + 1) (b && true) next) (sym y) (unmoved next (e ∙ ap (λ b. cond b (computed n.catalog job.view job.from k) k) y) (false && true) refl)
  amid_tried next (Some r) known (refused r' s f) = unmoved next s (keeps && false) (and_false keeps)
    where
      and_false : (b : Bool) → (b && false) ≡ false
      and_false true = refl
      and_false false = refl

  pub amid_refused : (r : Refusal) → IsAmid n place jobs (j + 1) (keeps && is_none (Some r)) k
  amid_refused r = unmoved k refl (keeps && false) (and_false keeps)
    where
      and_false : (b : Bool) → (b && false) ≡ false
      and_false true = refl
      and_false false = refl

-- ---- the whole wave

map_length : (jobs : List Job) → length (map comp_of jobs) ≡ length jobs
map_length [] = refl
map_length (job ∷ jobs) = ap suc (map_length jobs)

pub starts_amid : (n : Night) (place : ℕ) (jobs : List Job) (k : Kept) → StandsAt n place k → IsAmid n place jobs 0 true k
unfolding carried
starts_amid n place jobs k stands = record { added = 0; few = omega arith; all = λ yes. refl; agrees = stands.agrees; told = stands.told }

pub source_among : (jobs : List Job) (j : ℕ) (job : Job) → slice_get jobs j ≡ Some job → (u : ℕ) → has job.from u ≡ true → is_source jobs u ≡ true
source_among [] j job e u m = cc
source_among (x ∷ jobs) zero job e u m = let f : x ≡ job = same_Some x job e in or_left (has x.from u) (is_source jobs u) (ap (λ (y : Job). has y.from u) f ∙ m)
source_among (x ∷ jobs) (suc j) job e u m = or_right (has x.from u) (is_source jobs u) (source_among jobs j job e u m)

pub all_of : (all : List (Option MaintFault)) (o : Option Refusal) → list_all is_none (all ++ option_map answer_of o ∷ []) ≡ (list_all is_none all && is_none o)
all_of [] None = refl
all_of [] (Some r) = refl
all_of (x ∷ all) o = ap (λ b. is_none x && b) (all_of all o) ∙ sym (and_assoc (is_none x) (list_all is_none all) (is_none o))
  where
    and_assoc : (a b c : Bool) → ((a && b) && c) ≡ (a && (b && c))
    and_assoc true b c = refl
    and_assoc false b c = refl

pub stands_over : (n : Night) (place : ℕ) (jobs : List Job) → IsWaveAt n.catalog jobs n place → (k : Kept) → IsCatalog n.catalog → IsCorrect n.catalog.views.children n.list → IsAmid n place jobs (length jobs) true k
    → StandsAt n (place + length jobs) k
stands_over n place jobs wave k is ok amid =
    let whole : take amid.added (map comp_of jobs) ≡ expressions_from n.list place (length jobs) =
    ap (λ i. take i (map comp_of jobs)) (amid.all refl) ∙ take_all (length jobs) (map comp_of jobs) (let e = map_length jobs in omega arith) ∙ sym wave.are in
    record {
      catalogue = is;
      correct = ok;
      agrees = wave_over n.catalog n.list n.tables n.changes is ok place (length jobs) wave.side (take amid.added (map comp_of jobs)) k
          (subst (IsPermutation (expressions_from n.list place (length jobs))) (sym whole) (IsPermutation-refl (expressions_from n.list place (length jobs)))) amid.agrees;
      told = amid.told;
    }
