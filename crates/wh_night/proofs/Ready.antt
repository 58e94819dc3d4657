-- Jobs that can be run, one by one.
use Rattle.std.proofs.Common.{◌≡◌, ◌↔◌, ℕ, zero, suc, ◌-◌, ◌<◌, ◌≤◌, ◌||◌, List, [], ◌∷◌, length, get_or, take, drop, Bool, true, false, sym, refl, ap, subst, ◌∙◌, eqb, IsTrue, ⊎_elim, arith}
use Rattle.std.proofs.lemmas.Bool.{eqb-true, false≢true, or_cases, or_left, or_right}
use Rattle.std.proofs.lemmas.Option.{same_Some}
use Rattle.std.proofs.lemmas.List.{take_all}
use Rattle.wh_dag.specs.Shape.{has}
use Rattle.wh_dag.specs.Catalog.{CatalogOf}
use Rattle.wh_maint.proofs.Telescope.{has-cons, has_first, has_rest}
use Rattle.wh_carry.specs.Kept.{AreKnown, Kept, is_known}
use Rattle.wh_carry.specs.declared.stages.Job.{Job}
use Rattle.wh_carry.specs.declared.stages.Stage.TheVariants as stage
use Rattle.wh_carry.specs.Standing.{IsStageIn, is_source}
use Rattle.wh_night.specs.Inner.RefusedWaves.{IsReady}
use Rattle.wh_night.specs.Underway.{SourcesAreKnown}

-- a list that is matched as its first item and the rest
pub first_and_rest : {A : Type 0} (xs : List A) (x : A) → 1 ≤ length xs → x ≡ get_or xs 0 x → xs ≡ x ∷ take (length xs - 1) (drop 1 xs)
first_and_rest [] x l e = absurd (omega arith)
first_and_rest (y ∷ ys) x l e = let all = take_all (suc (length ys) - 1) ys (omega arith) in (λ i. sym e i ∷ sym all i)

known_first : (k : Kept) (v : ℕ) (vs : List ℕ) → AreKnown k (v ∷ vs) → k.known v ≡ true
known_first k v vs h = h v (has_first v vs)

known_rest : (k : Kept) (v : ℕ) (vs : List ℕ) → AreKnown k (v ∷ vs) → AreKnown k vs
known_rest k v vs h u m = h u (has_rest v vs u m)

known_more : (k : Kept) (v : ℕ) (vs : List ℕ) → k.known v ≡ true → AreKnown k vs → AreKnown k (v ∷ vs)
known_more k v vs first rest u m = go (eqb v u) refl
  where
    go : (b : Bool) → eqb v u ≡ b → k.known u ≡ true
    go true e = subst (λ w. k.known w ≡ true) (eqb-true v u e) first
    go false e = rest u (sym (ap (λ b. b || has vs u) e) ∙ (sym (has-cons v vs u) ∙ m))

-- of a view, and of those behind it
pub known_then : (k : Kept) (xs : List ℕ) (r : Bool) → 1 ≤ length xs → k.known (get_or xs 0 0) ≡ true → (IsTrue r ↔ AreKnown k (take (length xs - 1) (drop 1 xs))) → IsTrue r ↔ AreKnown k xs
known_then k xs r l first rest =
    let is = first_and_rest xs (get_or xs 0 0) l (head xs l) in
    (λ t. subst (AreKnown k) (sym is) (known_more k (get_or xs 0 0) (take (length xs - 1) (drop 1 xs)) first (rest.0 t)), λ h. rest.1 (known_rest k (get_or xs 0 0) (take (length xs - 1) (drop 1 xs)) (subst (AreKnown k) is h)))
  where
    head : (xs : List ℕ) → 1 ≤ length xs → get_or xs 0 0 ≡ get_or xs 0 (get_or xs 0 0)
    head [] l = absurd (omega arith)
    head (x ∷ xs) l = refl

pub known_else : (k : Kept) (xs : List ℕ) → 1 ≤ length xs → k.known (get_or xs 0 0) ≡ false → IsTrue false ↔ AreKnown k xs
known_else k [] l not_first = absurd (omega arith)
known_else k (x ∷ xs) l not_first = (λ t. absurd (false≢true t), λ h. absurd (false≢true (sym not_first ∙ known_first k x xs h)))

has_none : (u : ℕ) → has [] u ≡ false
unfolding has
has_none u = refl

pub known_none : (k : Kept) (xs : List ℕ) → length xs < 1 → IsTrue true ↔ AreKnown k xs
known_none k [] l = (λ t u m. absurd (false≢true (sym (has_none u) ∙ m)), λ h. refl)
known_none k (x ∷ xs) l = absurd (omega arith)

-- a view that there is not
pub known_past : (known : List Bool) (v : ℕ) → length known ≤ v → is_known known v ≡ false
known_past [] v l = refl
known_past (b ∷ bs) zero l = absurd (omega arith)
known_past (b ∷ bs) (suc v) l = known_past bs v (omega arith)

abbrev AllReady : CatalogOf → Kept → List Job → Type 0
AllReady catalog k jobs = IsStageIn catalog (stage.Wave jobs) × SourcesAreKnown k jobs

all_more : (catalog : CatalogOf) (k : Kept) (job : Job) (jobs : List Job) → IsReady catalog k job → AllReady catalog k jobs → AllReady catalog k (job ∷ jobs)
all_more catalog k job jobs ready all = (comps, known)
  where
    comps : IsStageIn catalog (stage.Wave (job ∷ jobs))
    comps zero other e = (subst (λ x. IsReady catalog k x) (same_Some job other e) ready).0
    comps (suc j) other e = all.0 j other e

    known : SourcesAreKnown k (job ∷ jobs)
    known u m = ⊎_elim (λ h. ready.1 u h) (λ h. all.1 u h) (or_cases (has job.from u) (is_source jobs u) m)

all_first : (catalog : CatalogOf) (k : Kept) (job : Job) (jobs : List Job) → AllReady catalog k (job ∷ jobs) → IsReady catalog k job
all_first catalog k job jobs all = (all.0 zero job refl, λ u m. all.1 u (or_left (has job.from u) (is_source jobs u) m))

all_rest : (catalog : CatalogOf) (k : Kept) (job : Job) (jobs : List Job) → AllReady catalog k (job ∷ jobs) → AllReady catalog k jobs
all_rest catalog k job jobs all = (λ j other e. all.0 (suc j) other e, λ u m. all.1 u (or_right (has job.from u) (is_source jobs u) m))

pub ready_then : (catalog : CatalogOf) (k : Kept) (jobs : List Job) (job : Job) (r : Bool) → 1 ≤ length jobs → job ≡ get_or jobs 0 job → IsReady catalog k job
    → (IsTrue r ↔ AllReady catalog k (take (length jobs - 1) (drop 1 jobs))) → IsTrue r ↔ AllReady catalog k jobs
ready_then catalog k jobs job r l e ready rest =
    let is = first_and_rest jobs job l e in
    let more = take (length jobs - 1) (drop 1 jobs) in
    (λ t. subst (AllReady catalog k) (sym is) (all_more catalog k job more ready (rest.0 t)), λ h. rest.1 (all_rest catalog k job more (subst (AllReady catalog k) is h)))

pub ready_else : (catalog : CatalogOf) (k : Kept) (jobs : List Job) (job : Job) (r : Bool) → 1 ≤ length jobs → job ≡ get_or jobs 0 job → r ≡ false → (IsTrue r ↔ IsReady catalog k job) → IsTrue r ↔ AllReady catalog k jobs
ready_else catalog k jobs job r l e unready tells =
    let is = first_and_rest jobs job l e in
    let more = take (length jobs - 1) (drop 1 jobs) in
    (λ t. absurd (false≢true (sym unready ∙ t)), λ h. tells.1 (all_first catalog k job more (subst (AllReady catalog k) is h)))
