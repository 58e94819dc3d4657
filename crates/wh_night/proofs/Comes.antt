-- How far a night comes, wave by wave and Inst by Inst.
use Rattle.std.proofs.Common.{◌≡◌, refl, sym, ap, subst, ◌∙◌, ℕ, zero, suc, ◌+◌, ◌<◌, ◌≤◌, true, false, cond, not, ◌&&◌, ◌||◌, List, [], ◌∷◌, ◌++◌, map, length, take, drop, Option, Some, None, ◌⊎◌, inl, inr, ⊎_elim, arith}
use Rattle.std.specs.Prelude.{slice_get}
use Rattle.std.specs.List.Sorted.{IsPermutation}
use Rattle.std.proofs.lemmas.Bool.{false≢true, or_cases}
use Rattle.std.proofs.lemmas.List.Sorted.{IsPermutation-refl}
use Rattle.std.proofs.lemmas.Option.{slice_get-map, slice_get_within}
use Rattle.wh_dag.specs.Shape.{has, children_of}
use Rattle.wh_dag.specs.Catalog.{CatalogOf, IsCatalog, definition_of}
use Rattle.wh_strategy.specs.declared.expression.Expression.{Expression}
use Rattle.wh_strategy.specs.declared.expression.Expression.TheVariants.{Comp}
use Rattle.wh_strategy.specs.Expression.{At}
use Rattle.wh_strategy.specs.Rules.{IsCorrect}
use Rattle.wh_maint.specs.declared.fault.MaintFault.{MaintFault}
use Rattle.wh_maint.specs.declared.fault.MaintFault.TheVariants.{Large, Range, Memory, Absent}
use Rattle.wh_maint.specs.Comp.{PendingOf, comp_columns}
use Rattle.wh_maint.specs.Definition.{graph_of, view_of}
use Rattle.wh_maint.specs.Finishing.{kind_in}
use Rattle.wh_maint.specs.Refused.{IsMergeFault, MergedFit}
use Rattle.wh_maint.specs.Size.{IsTooLarge}
use Rattle.wh_carry.specs.declared.stages.Job.{Job}
use Rattle.wh_carry.specs.AnyOrder.{IsSameAt, expressions_from}
use Rattle.wh_carry.specs.Carry.{State, carried, change_in}
use Rattle.wh_carry.specs.Kept.{Kept, AreKnown, finished}
use Rattle.wh_carry.specs.Inner.Kept.{computed, rows_in}
use Rattle.wh_carry.specs.Refused.{CanAllBeFinishedIn, CanBeComputed, CanBeFinishedIn, CompIsLarge, CompMeetsNoValue, IsCompFaultIn, IsFirstUnfinishedIn, IsRuledOut, PendingIsLarge}
use Rattle.wh_carry.specs.Inner.Refused.{IsPassedIn}
use Rattle.wh_carry.specs.Inner.Steps.{AreFirstSteps}
use Rattle.wh_carry.specs.Waves.{comp_of}
use Rattle.wh_carry.proofs.Agreeing.{comp_done, same_reach}
use Rattle.wh_carry.proofs.Amid.{IsSource, source_due, source_in, sources_finished, waves_have_no_order}
use Rattle.wh_carry.proofs.AnyOrder.{carried_on}
use Rattle.wh_carry.proofs.Nights.{agrees_next, passed_next, rows_right, steps_next}
use Rattle.wh_carry.specs.Inner.Reasons.{CanBeFinished}
use Rattle.wh_carry.proofs.Refusals.{added, computes, same_fit, told_next, unfinished}
use Rattle.wh_carry.specs.Inner.Agreeing.{AreTold}
use Rattle.wh_carry.proofs.Storing.{merge_refused}
use Rattle.wh_carry.proofs.StepRows.{whole_at}
use Rattle.wh_carry.specs.Night.{Night, state_at}
use Rattle.wh_carry.specs.Standing.{is_source}
use Rattle.wh_carry.specs.Inner.Standing.{IsWaveAt, StandsAt}
use Rattle.wh_carry.proofs.Sources.{all_before, its_inst, its_job, job_at, source_finishes, source_of}
use Rattle.wh_carry.proofs.CourseWaves.{source_among, split_at}
use Rattle.wh_night.specs.Refusals.{IsWaveFault}
use Rattle.wh_night.specs.Tonight.{made_by}
use Rattle.wh_night.specs.Underway.{AreAdded, CanCompute, IsFirstUncomputed, SourcesAreKnown}
use Rattle.wh_night.specs.Inner.Underway.{HasCome, Reports, SourcesFinish}
use Rattle.wh_night.proofs.Puts.{item}
use Rattle.wh_night.proofs.WaveFaults.{large_fault, pending_fault, range_fault, source_fault}

-- views that are known are finished
pub finished_known : (catalog : CatalogOf) (k : Kept) (ys : List ℕ) → AreKnown k ys → finished catalog (has ys) k ≡ k
finished_known catalog k ys known = λ i. record { tables = k.tables; pending = k.pending; changes = λ u. same_change u i; known = λ u. same_known u i }
  where
    same_change : (u : ℕ) → (finished catalog (has ys) k).changes u ≡ k.changes u
    same_change u = elim (has ys u) as (λ t. has ys u ≡ t → cond (t && not (k.known u)) ((finished catalog (λ _. true) (record { tables = k.tables; pending = k.pending; changes = k.changes; known = λ _. false })).changes u) (k.changes u) ≡ k.changes u) [
      | true ↦ λ t. ap (λ b. cond (not b) ((finished catalog (λ _. true) (record { tables = k.tables; pending = k.pending; changes = k.changes; known = λ _. false })).changes u) (k.changes u)) (known u t)
      | false ↦ λ t. refl
    ] refl

    same_known : (u : ℕ) → (has ys u || k.known u) ≡ k.known u
    same_known u = elim (has ys u) as (λ t. has ys u ≡ t → (t || k.known u) ≡ k.known u) [ true ↦ λ t. sym (known u t) | false ↦ λ t. refl ] refl

module _ (n : Night) (place : ℕ) (jobs : List Job) (wave : IsWaveAt n.catalog jobs n place) where
  -- ---- sources

  module _ (views : List ℕ) (same : (u : ℕ) → has views u ≡ is_source jobs u) (k : Kept) (stands : StandsAt n place k) where
    its_source : (u : ℕ) → has views u ≡ true → IsSource n.list place (length jobs) u
    its_source u m = source_of n place jobs wave.are u (sym (same u) ∙ m)

    finishes : (u : ℕ) → has views u ≡ true → CanBeFinishedIn n.catalog k u → CanBeFinished n.catalog (state_at n place) u
    finishes u m can = source_finishes n.catalog n.list n.tables n.changes stands.catalogue stands.correct place (length jobs) wave.side u (its_source u m) k stands.agrees stands.told can

    -- what is finished can be finished where its Inst stands
    told_finished : CanAllBeFinishedIn n.catalog k views → AreTold n.catalog n.list n.tables n.changes (finished n.catalog (has views) k)
    told_finished can q w inst known derived =
        ⊎_elim
        (λ m.
        let r = its_source w m in
        let i = its_inst n.catalog n.list n.tables n.changes stands.catalogue stands.correct place (length jobs) wave.side w r in
        let here : State = state_at n place in
        let there : State = state_at n q in
        let later : place ≤ q = subst (λ x. place ≤ x) (stands.correct.one_inst i.0 q w i.1 inst) i.2 in
        let whole = whole_at n.catalog.views.children (graph_of n.catalog).views n.list n.tables n.changes stands.correct place q w inst later
        (all_before n.catalog n.list n.tables n.changes stands.catalogue stands.correct place (length jobs) wave.side w r) in
        same_fit (kind_in n.catalog w) (here.tables w) (there.tables w) (here.pending w) (there.pending w) whole.0 whole.1 (finishes w m (can w m) derived))
        (λ y. stands.told q w inst y derived)
        (or_cases (has views w) (k.known w) known)

    pub sources_stand : CanAllBeFinishedIn n.catalog k views → StandsAt n place (finished n.catalog (has views) k) × SourcesFinish n place jobs
    sources_stand can = (
      record {
        catalogue = stands.catalogue;
        correct = stands.correct;
        agrees = sources_finished n.catalog n.list n.tables n.changes stands.catalogue stands.correct place (length jobs) wave.side k (has views) its_source stands.agrees;
        told = told_finished can;
      },
      λ u m. let e : has views u ≡ true = same u ∙ m in finishes u e (can u e),
    )

    pub sources_refused : (fault : MaintFault) → IsFirstUnfinishedIn n.catalog k views fault → (fault ≡ Memory) ⊎ IsWaveFault n place jobs fault
    sources_refused fault f =
        let source : is_source jobs f.view ≡ true = sym (same f.view) ∙ f.among in
        let job = its_job jobs f.view source in
        source_fault n place jobs wave stands.catalogue stands.correct f.view job.0 job.1 job.2 job.3
        (λ w l m. let e : has views w ≡ true = same w ∙ m in finishes w e (f.lower w l e)) fault
        (unfinished n.catalog n.list n.tables n.changes stands.catalogue stands.correct place (state_at n place) k stands.agrees f.view
        (source_in n.catalog n.list n.tables n.changes stands.catalogue stands.correct place (length jobs) wave.side f.view (its_source f.view f.among)) fault f.refused)

  -- ---- jobs

  module _ (k : Kept) (stands : StandsAt n place k) (known : SourcesAreKnown k jobs) where
    module _ (j : ℕ) (job : Job) (here : slice_get jobs j ≡ Some job) where
      at : At n.list (place + j) (comp_of job)
      at = job_at n.list place jobs wave.are j job here

      inside : job.view < length n.catalog.views.children
      inside = (stands.correct.allowed (place + j) job.view job.from at).0

      due : (u : ℕ) → has job.from u ≡ true → k.changes u ≡ change_in (graph_of n.catalog) n.changes (state_at n place) u
      due u m =
          let source : is_source jobs u ≡ true = source_among jobs j job here u m in
          let r = source_of n place jobs wave.are u source in
          stands.agrees.known u (source_in n.catalog n.list n.tables n.changes stands.catalogue stands.correct place (length jobs) wave.side u r) (known u source)
          ∙ sym (source_due n.catalog n.list n.tables n.changes stands.catalogue stands.correct place (length jobs) wave.side u r)

      pub computable : CanCompute n.catalog k job → IsRuledOut n.catalog n.changes (state_at n place) (CompIsLarge job.view job.from) × IsRuledOut n.catalog n.changes (state_at n place) (CompMeetsNoValue job.view job.from)
      computable can =
          let c = computes n.catalog n.list n.tables n.changes stands.catalogue stands.correct place job.view job.from (state_at n place) k inside stands.agrees due (view_of (definition_of n.catalog job.view)) can in
          (c.few, c.values)

      too_large : IsTooLarge (children_of n.catalog.views.children job.view) job.from k.tables k.changes
          → IsTooLarge (children_of n.catalog.views.children job.view) job.from (state_at n place).tables (change_in (graph_of n.catalog) n.changes (state_at n place))
      too_large big =
          let us : List ℕ = children_of n.catalog.views.children job.view in
          let s : State = state_at n place in
          same_reach us job.from s.tables k.changes (change_in (graph_of n.catalog) n.changes s) due (subst (λ ts. IsTooLarge us job.from ts k.changes) (λ i u. stands.agrees.tables u i) big)

      uncomputed : SourcesFinish n place jobs → ((i : ℕ) (other : Job) → i < j → slice_get jobs i ≡ Some other
          → IsRuledOut n.catalog n.changes (state_at n place) (CompIsLarge other.view other.from) × IsRuledOut n.catalog n.changes (state_at n place) (CompMeetsNoValue other.view other.from))
          → (fault : MaintFault) → IsCompFaultIn n.catalog k job.view job.from fault → (fault ≡ Memory) ⊎ IsWaveFault n place jobs fault
      uncomputed all below (Large w) f = inr (large_fault n place jobs wave stands.catalogue stands.correct all j job here w f.0 below (λ few. few (too_large f.1)))
      uncomputed all below (Range w) f =
          let r = added n.catalog n.list n.tables n.changes stands.catalogue stands.correct place job.view job.from (state_at n place) k inside stands.agrees due (Range w) f in
          inr (range_fault n place jobs wave stands.catalogue stands.correct all j job here w f.0 below r.1 r.2)
      uncomputed all below Memory f = inl refl
      uncomputed all below (Absent w row) f = absurd f

    pub first_uncomputed : SourcesFinish n place jobs → (fault : MaintFault) → IsFirstUncomputed n.catalog k jobs fault → (fault ≡ Memory) ⊎ IsWaveFault n place jobs fault
    first_uncomputed all fault f =
        uncomputed f.number f.job f.there all (λ i other l there. computable i other there (f.earlier i other l there)) fault f.refused

    pub all_computable : (added : List PendingOf) → AreAdded n.catalog k jobs added → (i : ℕ) (other : Job) → i < length jobs → slice_get jobs i ≡ Some other
        → IsRuledOut n.catalog n.changes (state_at n place) (CompIsLarge other.view other.from) × IsRuledOut n.catalog n.changes (state_at n place) (CompMeetsNoValue other.view other.from)
    all_computable added are i other l there =
        let p = item added i (let e = are.each in omega (arith, l, e)) in
        computable i other there (are.are i other p.0 there p.1).can

  -- ---- a job at its own place

  take_take : {A : Type 0} (i m : ℕ) (xs : List A) → i ≤ m → take i (take m xs) ≡ take i xs
  take_take zero m xs l = refl
  take_take (suc i) zero xs l = absurd (omega arith)
  take_take (suc i) (suc m) [] l = refl
  take_take (suc i) (suc m) (x ∷ xs) l = ap (λ ys. x ∷ ys) (take_take i m xs (omega arith))

  -- it is refused there for what it is refused for before the wave
  pub same_place : IsCatalog n.catalog → IsCorrect n.catalog.views.children n.list → (j : ℕ) (job : Job) → slice_get jobs j ≡ Some job → IsSameAt n.catalog n.changes (state_at n (place + j)) (state_at n place) (comp_of job)
  same_place is ok j job here =
      let comps : List Expression = map comp_of jobs in
      let law = waves_have_no_order n.catalog n.list n.tables n.changes is ok place (length jobs) wave.side in
      let there : slice_get comps j ≡ Some (comp_of job) = slice_get-map comp_of jobs j ∙ ap (λ o. some o) here in
      let split : take j comps ++ comp_of job ∷ drop (suc j) comps ≡ comps = split_at comps j (comp_of job) there in
      let perm : IsPermutation (expressions_from n.list place (length jobs)) (take j comps ++ comp_of job ∷ drop (suc j) comps) =
      subst (λ es. IsPermutation es (take j comps ++ comp_of job ∷ drop (suc j) comps)) (split ∙ sym wave.are) (IsPermutation-refl (take j comps ++ comp_of job ∷ drop (suc j) comps)) in
      let within : j < length jobs = slice_get_within jobs j job here in
      let first : take j comps ≡ expressions_from n.list place j = ap (take j) (sym wave.are) ∙ take_take j (length jobs) (drop place n.list) (omega (arith, within)) in
      subst (λ s. IsSameAt n.catalog n.changes s (state_at n place) (comp_of job)) (ap (λ es. carried (graph_of n.catalog) n.changes es (state_at n place)) first ∙ carried_on (graph_of n.catalog) n.changes n.list n.tables place j)
      (law.amid (take j comps) (drop (suc j) comps) (comp_of job) perm)
    where
      some : Option Job → Option Expression
      some None = None
      some (Some job) = Some (comp_of job)

  module _ (j : ℕ) (job : Job) (here : slice_get jobs j ≡ Some job) (k : Kept) (steps : List (Expression × ℕ)) (come : HasCome n (place + j) k steps) (known : AreKnown k job.from) where
    abbrev v : ℕ
    v = job.view

    abbrev ys : List ℕ
    ys = job.from

    own_at : At n.list (place + j) (Comp v ys)
    own_at = job_at n.list place jobs wave.are j job here

    all_known : finished n.catalog (has ys) k ≡ k
    all_known = finished_known n.catalog k ys known

    its_rows : rows_in n.catalog (Comp v ys) k ≡ rows_in n.catalog (comp_of job) k
    its_rows = refl

    passes : CanCompute n.catalog k job
        → MergedFit (k.pending v) (comp_columns (view_of (definition_of n.catalog v)) (children_of n.catalog.views.children v) ys k.tables k.changes) → IsPassedIn n.catalog k (Comp v ys)
    passes can fits = (
      λ u m unknown. absurd (false≢true (sym unknown ∙ known u m)),
      subst (λ (c : Kept). CanBeComputed (view_of (definition_of n.catalog v)) (children_of n.catalog.views.children v) ys k.tables c.changes) (sym all_known) can,
      subst (λ (c : Kept). MergedFit (k.pending v) (comp_columns (view_of (definition_of n.catalog v)) (children_of n.catalog.views.children v) ys k.tables c.changes)) (sym all_known) fits,
    )

    -- one job more
    pub job_comes : CanCompute n.catalog k job
        → MergedFit (k.pending v) (comp_columns (view_of (definition_of n.catalog v)) (children_of n.catalog.views.children v) ys k.tables k.changes)
        → (next : Kept) → next ≡ computed n.catalog v ys k → (more : List (Expression × ℕ)) → Reports (rows_in n.catalog (comp_of job) k) (comp_of job) steps more → HasCome n (place + (j + 1)) next more
    job_comes can fits next done more report =
        let s = come.stands in
        let pass = passes can fits in
        let after : next ≡ computed n.catalog v ys (finished n.catalog (has ys) k) = done ∙ ap (computed n.catalog v ys) (sym all_known) in
        let e : (place + j) + 1 ≡ place + (j + 1) = omega arith in
        subst (λ p. HasCome n p next more) e (record {
          stands = record {
            catalogue = s.catalogue;
            correct = s.correct;
            agrees = agrees_next n.catalog n.list n.tables n.changes s.catalogue s.correct (place + j) (Comp v ys) k next own_at s.agrees after;
            told = told_next n.catalog n.list n.tables n.changes s.catalogue s.correct (place + j) (Comp v ys) k next own_at s.agrees s.told pass after;
          };
          passed = passed_next n.catalog n.list n.tables n.changes s.catalogue s.correct (place + j) (Comp v ys) k own_at s.agrees s.told come.passed pass;
          reported = subst (AreFirstSteps n.catalog.views.children n.list n.tables (made_by n) ((place + j) + 1)) (sym report.steps)
              (steps_next n.catalog.views.children n.list n.tables (made_by n) (place + j) steps (Comp v ys) report.told come.reported own_at
              (rows_right n.catalog n.list n.tables n.changes s.catalogue s.correct (place + j) (Comp v ys) k report.told own_at s.agrees report.is report.few));
        })

    -- it is not added
    pub not_added : SourcesFinish n place jobs
        → ((i : ℕ) (other : Job) → i < length jobs → slice_get jobs i ≡ Some other
        → IsRuledOut n.catalog n.changes (state_at n place) (CompIsLarge other.view other.from) × IsRuledOut n.catalog n.changes (state_at n place) (CompMeetsNoValue other.view other.from))
        → CanCompute n.catalog k job → (fault : MaintFault)
        → IsMergeFault v (k.pending v) (comp_columns (view_of (definition_of n.catalog v)) (children_of n.catalog.views.children v) ys k.tables k.changes) fault → (fault ≡ Memory) ⊎ IsWaveFault n place jobs fault
    not_added all every can fault f = by fault f
      where
        s : StandsAt n (place + j) k
        s = come.stands

        inside : v < length n.catalog.views.children
        inside = (s.correct.allowed (place + j) v ys own_at).0

        due : (u : ℕ) → has ys u ≡ true → k.changes u ≡ change_in (graph_of n.catalog) n.changes (state_at n (place + j)) u
        due u m = ap (λ (c : Kept). c.changes u) (sym all_known) ∙ (comp_done n.catalog n.list n.tables n.changes s.catalogue s.correct (place + j) v ys k own_at s.agrees).1 u m

        by : (fault : MaintFault) → IsMergeFault v (k.pending v) (comp_columns (view_of (definition_of n.catalog v)) (children_of n.catalog.views.children v) ys k.tables k.changes) fault → (fault ≡ Memory) ⊎ IsWaveFault n place jobs fault
        by (Large w) f =
            let r = added n.catalog n.list n.tables n.changes s.catalogue s.correct (place + j) v ys (state_at n (place + j)) k inside s.agrees due (Large w) (merge_refused n.catalog k v ys (Large w) can f) in
            let fine = computes n.catalog n.list n.tables n.changes s.catalogue s.correct (place + j) v ys (state_at n (place + j)) k inside s.agrees due (view_of (definition_of n.catalog v)) can in
            inr (pending_fault n place jobs wave s.catalogue s.correct all j job here w f.0 every
            (λ i other l there.
            let at = job_at n.list place jobs wave.are i other there in
            (same_place s.catalogue s.correct i other there).passed.0 (come.passed (place + i) (comp_of other) (omega arith) at) (PendingIsLarge other.view other.from) (refl, refl))
            (λ out. ⊎_elim
            (λ big. fine.few big)
            (λ no. no.1 (((same_place s.catalogue s.correct j job here).ruled_out (PendingIsLarge v ys) (refl, refl)).1 out))
            r.1))
        by (Range w) f = absurd f
        by Memory f = inl refl
        by (Absent w row) f = absurd f
