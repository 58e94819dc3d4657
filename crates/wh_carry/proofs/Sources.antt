-- The sources of a wave are finished before its Comps.
use Rattle.std.proofs.Common.{◌≡◌, refl, sym, ap, subst, ◌∙◌, ℕ, suc, ◌+◌, ◌-◌, ◌<◌, ◌≤◌, List, [], ◌∷◌, length, map, drop, true, eqb, ◌||◌, Option, Some, None, ⊎_elim, arith}
use Rattle.std.specs.Prelude.{slice_get}
use Rattle.std.proofs.lemmas.Bool.{cases_Bool, cases_lt, eqb-true, eq-eqb, false≢true, both_ways, or_right, or_cases}
use Rattle.std.proofs.lemmas.Option.{slice_get-map}
use Rattle.wh_dag.specs.Shape.{has}
use Rattle.wh_dag.specs.Catalog.{CatalogOf, IsCatalog}
use Rattle.wh_strategy.specs.declared.expression.Expression.{Expression}
use Rattle.wh_strategy.specs.declared.expression.Expression.TheVariants.{Comp, Inst}
use Rattle.wh_strategy.specs.Expression.{At}
use Rattle.wh_strategy.specs.Rules.{IsCorrect}
use Rattle.wh_row.specs.Bag.{Bag}
use Rattle.wh_maint.specs.Comp.{bag_at}
use Rattle.wh_maint.specs.Definition.{graph_of}
use Rattle.wh_maint.specs.Finishing.{kind_in}
use Rattle.wh_carry.specs.declared.stages.Job.{Job}
use Rattle.wh_carry.specs.AnyOrder.{AreSideBySide, expressions_from}
use Rattle.wh_carry.specs.Carry.{State, before}
use Rattle.wh_carry.specs.Kept.{Kept, CanFinish, finished}
use Rattle.wh_carry.specs.Refused.{CanBeFinishedIn, IsUnfinishedIn}
use Rattle.wh_carry.proofs.Storing.{can_finish_after}
use Rattle.wh_carry.specs.Waves.{comp_of}
use Rattle.wh_carry.proofs.Agreeing.{source_within}
use Rattle.wh_carry.specs.Inner.Agreeing.{Agrees, AreTold}
use Rattle.wh_carry.proofs.Amid.{IsSource, source_in, sources_finished}
use Rattle.wh_carry.proofs.AnyOrder.{at_drop, at_take}
use Rattle.wh_carry.specs.Inner.Reasons.{CanBeFinished}
use Rattle.wh_carry.proofs.Refusals.{same_fit, unfinished}
use Rattle.wh_carry.proofs.StepRows.{whole_at}
use Rattle.wh_carry.specs.Night.{Night, state_at}
use Rattle.wh_carry.specs.Standing.{is_source}
use Rattle.wh_carry.specs.Inner.Standing.{IsSourceOutcome, IsWaveAt, StandsAt, answer_of}
use Rattle.wh_carry.specs.declared.wave.Refusal.{Refusal}

-- a job of the wave stands in the list
pub job_at : (list : List Expression) (place : ℕ) (jobs : List Job) → expressions_from list place (length jobs) ≡ map comp_of jobs → (j : ℕ) (job : Job) → slice_get jobs j ≡ Some job → At list (place + j) (comp_of job)
job_at list place jobs are j job is =
    let there : slice_get (expressions_from list place (length jobs)) j ≡ Some (comp_of job) = ap (λ es. slice_get es j) are ∙ slice_get-map comp_of jobs j ∙ ap (λ o. some o) is in
    at_drop list place j (comp_of job) (at_take (length jobs) (drop place list) j (comp_of job) there).1
  where
    some : Option Job → Option Expression
    some None = None
    some (Some job) = Some (comp_of job)

-- of some job a source is a source
pub its_job : (jobs : List Job) (u : ℕ) → is_source jobs u ≡ true → (j : ℕ) × (job : Job) × (slice_get jobs j ≡ Some job) × (has job.from u ≡ true) × (j < length jobs)
its_job [] u e = absurd (false≢true e)
its_job (job ∷ jobs) u e = ⊎_elim
    (λ h. (0, job, refl, h, omega arith))
    (λ h. let r = its_job jobs u h in (suc r.0, r.1, r.2, r.3, (let l = r.4 in omega arith)))
    (or_cases (has job.from u) (is_source jobs u) e)

pub source_of : (n : Night) (place : ℕ) (jobs : List Job) → expressions_from n.list place (length jobs) ≡ map comp_of jobs → (u : ℕ) → is_source jobs u ≡ true → IsSource n.list place (length jobs) u
source_of n place jobs are u e =
    let r = its_job jobs u e in
    record { job = r.0; view = r.1.view; sources = r.1.from; within = r.4; there = job_at n.list place jobs are r.0 r.1 r.2; among = r.3 }

module _ (catalog : CatalogOf) (list : List Expression) (old given : ℕ → Bag) (is : IsCatalog catalog) (ok : IsCorrect catalog.views.children list)
    (p n : ℕ) (s : AreSideBySide list p n) where
  -- all Comps of a source stand before the wave
  pub all_before : (u : ℕ) → IsSource list p n u → (c : ℕ) (zs : List ℕ) → At list c (Comp u zs) → c < p
  all_before u r c zs a =
      let l : c < p + r.job = ok.changes_first c (p + r.job) u r.view zs r.sources a r.there r.among in
      ⊎_elim (λ h. h)
      (λ h.
      let k : ℕ = c - p in
      let e : p + k ≡ c = omega arith in
      let small = r.within in
      absurd (both_ways (has r.sources u) (s.apart r.job k r.view u r.sources zs r.within (omega arith) r.there (subst (λ q. At list q (Comp u zs)) (sym e) a)) r.among))
      (cases_lt c p)

  pub its_inst : (u : ℕ) → IsSource list p n u → (q : ℕ) × At list q (Inst u) × (p ≤ q)
  its_inst u r =
      let i = ok.an_inst u (source_within catalog list old given is ok (p + r.job) r.view r.sources r.there u r.among) in
      let l : p + r.job < i.0 = ok.before_inst (p + r.job) i.0 r.view u r.sources r.there r.among i.1 in
      (i.0, i.1, omega arith)

  -- a source that can be finished as it is kept, or is finished, can be finished by the definition
  pub source_finishes : (u : ℕ) → IsSource list p n u → (k : Kept) → Agrees catalog list old given p (before (graph_of catalog) given list old p) k → AreTold catalog list old given k
      → CanBeFinishedIn catalog k u → CanBeFinished catalog (before (graph_of catalog) given list old p) u
  source_finishes u r k a told can derived =
      let i = its_inst u r in
      let here : State = before (graph_of catalog) given list old p in
      let there : State = before (graph_of catalog) given list old i.0 in
      let whole = whole_at catalog.views.children (graph_of catalog).views list old given ok p i.0 u i.1 i.2 (all_before u r) in
      ⊎_elim
      (λ y. same_fit (kind_in catalog u) (there.tables u) (here.tables u) (there.pending u) (here.pending u) (sym whole.0) (sym whole.1) (told i.0 u i.1 y derived))
      (λ no. same_fit (kind_in catalog u) (k.tables u) (here.tables u) (bag_at (k.pending u)) (here.pending u) (a.tables u) (λ i j. a.pending u (source_in catalog list old given is ok p n s u r) j i) (can no))
      (cases_Bool (k.known u))

  -- finished, it is told
  pub source_told : (u : ℕ) → IsSource list p n u → (k : Kept) → Agrees catalog list old given p (before (graph_of catalog) given list old p) k → AreTold catalog list old given k
      → CanBeFinishedIn catalog k u → AreTold catalog list old given (finished catalog (λ w. eqb u w) k)
  source_told u r k a told can q w inst known derived =
      ⊎_elim
      (λ m.
      let same : u ≡ w = eqb-true u w m in
      let i = its_inst u r in
      let here : State = before (graph_of catalog) given list old p in
      let there : State = before (graph_of catalog) given list old q in
      let own : At list q (Inst u) = inst ∙ ap (λ x. Some (Inst x)) (sym same) in
      let later : p ≤ q = subst (λ x. p ≤ x) (ok.one_inst i.0 q u i.1 own) i.2 in
      let whole = whole_at catalog.views.children (graph_of catalog).views list old given ok p q u own later (all_before u r) in
      subst (λ x. CanBeFinished catalog there x) same (λ derived. same_fit (kind_in catalog u) (here.tables u) (there.tables u) (here.pending u) (there.pending u) whole.0 whole.1 (source_finishes u r k a told can derived)) derived)
      (λ y. told q w inst y derived)
      (or_cases (eqb u w) (k.known w) known)

-- where carrying out stands, it stands when a source is finished
pub stands_finished : (n : Night) (place : ℕ) (jobs : List Job) (k : Kept) (u : ℕ) → IsWaveAt n.catalog jobs n place → StandsAt n place k → is_source jobs u ≡ true → CanBeFinishedIn n.catalog k u
    → StandsAt n place (finished n.catalog (λ w. eqb u w) k)
stands_finished n place jobs k u wave stands source can =
    let r = source_of n place jobs wave.are u source in
    record {
      catalogue = stands.catalogue;
      correct = stands.correct;
      agrees = sources_finished n.catalog n.list n.tables n.changes stands.catalogue stands.correct place (length jobs) wave.side k (λ w. eqb u w)
          (λ w m. subst (IsSource n.list place (length jobs)) (eqb-true u w m) r) stands.agrees;
      told = source_told n.catalog n.list n.tables n.changes stands.catalogue stands.correct place (length jobs) wave.side u r k stands.agrees stands.told can;
    }

-- ---- after one source

-- it is finished, or refused and nothing has changed
pub data After (catalog : CatalogOf) (k next : Kept) (v : ℕ) : Option Refusal → Type 0 where
  done : next ≡ finished catalog (λ u. eqb v u) k → CanBeFinishedIn catalog k v → After catalog k next v None
  stays : (r : Refusal) → next ≡ k → IsUnfinishedIn catalog k v (answer_of r) → After catalog k next v (Some r)

pub after_source : (catalog : CatalogOf) (k next : Kept) (v : ℕ) (refusal : Option Refusal) → (refusal ≡ None → next ≡ finished catalog (λ u. eqb v u) k) → (refusal ≡ None → CanBeFinishedIn catalog k v)
    → ((r : Refusal) → refusal ≡ Some r → next ≡ k) → ((r : Refusal) → refusal ≡ Some r → IsUnfinishedIn catalog k v (answer_of r)) → After catalog k next v refusal
after_source catalog k next v None d p s f = done (d refl) (p refl)
after_source catalog k next v (Some r) d p s f = stays r (s r refl) (f r refl)

pub fit_after : (catalog : CatalogOf) (k next : Kept) (v : ℕ) (refusal : Option Refusal) → CanFinish catalog k → After catalog k next v refusal → CanFinish catalog next
fit_after catalog k next v None fit (done d p) = can_finish_after catalog k next (λ u. eqb v u) fit d
fit_after catalog k next v (Some r) fit (stays r' s f) = subst (CanFinish catalog) (sym s) fit

pub known_after : (catalog : CatalogOf) (k next : Kept) (v : ℕ) (refusal : Option Refusal) → After catalog k next v refusal → (u : ℕ) → k.known u ≡ true → next.known u ≡ true
known_after catalog k next v None (done d p) u e = ap (λ (k : Kept). k.known u) d ∙ or_right (eqb v u) (k.known u) e
known_after catalog k next v (Some r) (stays r' s f) u e = ap (λ (k : Kept). k.known u) s ∙ e

pub stands_after : (catalog : CatalogOf) (jobs : List Job) (k next : Kept) (v : ℕ) (refusal : Option Refusal) → is_source jobs v ≡ true → After catalog k next v refusal → (n : Night) (place : ℕ) → IsWaveAt catalog jobs n place → StandsAt n place k → StandsAt n place next
stands_after catalog jobs k next v None source (done d p) n place wave stands =
    subst (StandsAt n place) (sym (d ∙ ap (λ c. finished c (λ u. eqb v u) k) (sym wave.same)))
    (stands_finished n place jobs k v (record { same = refl; are = wave.are; side = wave.side }) stands source (subst (λ c. CanBeFinishedIn c k v) (sym wave.same) p))
stands_after catalog jobs k next v (Some r) source (stays r' s f) n place wave stands = subst (StandsAt n place) (sym s) stands

pub outcome_after : (catalog : CatalogOf) (jobs : List Job) (k next : Kept) (v : ℕ) (refusal : Option Refusal) → v < length catalog.views.children → After catalog k next v refusal → (n : Night) (place : ℕ) → IsWaveAt catalog jobs n place → StandsAt n place k
    → IsSourceOutcome n place next v refusal
outcome_after catalog jobs k next v None l (done d p) n place wave stands = ap (λ (k : Kept). k.known v) d ∙ ap (λ b. b || k.known v) (eq-eqb v v refl)
outcome_after catalog jobs k next v (Some r) l (stays r' s f) n place wave stands =
    unfinished n.catalog n.list n.tables n.changes stands.catalogue stands.correct place (state_at n place) k stands.agrees v (subst (λ (c : CatalogOf). v < length c.views.children) (sym wave.same) l) (answer_of r)
    (subst (λ c. IsUnfinishedIn c k v (answer_of r)) (sym wave.same) f)

-- an outcome stays when more is known
pub outcome_stays : (n : Night) (place : ℕ) (k next : Kept) (u : ℕ) (refusal : Option Refusal) → ((w : ℕ) → k.known w ≡ true → next.known w ≡ true) → IsSourceOutcome n place k u refusal → IsSourceOutcome n place next u refusal
outcome_stays n place k next u None more h = more u h
outcome_stays n place k next u (Some r) more h = h

pub source_known : (catalog : CatalogOf) (k next : Kept) (v : ℕ) (refusal : Option Refusal) → After catalog k next v refusal → refusal ≡ None → next.known v ≡ true
source_known catalog k next v None (done d p) e = ap (λ (k : Kept). k.known v) d ∙ ap (λ b. b || k.known v) (eq-eqb v v refl)
source_known catalog k next v (Some r) (stays r' s f) e = cc
