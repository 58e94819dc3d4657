-- What the code refuses is what the definition of a refused night says.
use Rattle.std.proofs.Common.{◌≡◌, ℕ, suc, ◌<◌, refl, sym, ap, subst, ◌∙◌, ◌+ℤ◌, true, eqb, List, length, Some, ◌⊎◌, inl, inr, ⊎_elim, FitsSigned}
use Rattle.std.specs.Int.{w64, w128}
use Rattle.std.proofs.lemmas.Bool.{cases_Bool, eqb-true, or_cases, false≢true}
use Rattle.wh_dag.specs.Shape.{has, children_of}
use Rattle.wh_dag.specs.Catalog.{CatalogOf, IsCatalog, definition_of}
use Rattle.wh_strategy.specs.declared.expression.Expression.{Expression}
use Rattle.wh_strategy.specs.declared.expression.Expression.TheVariants.{Comp, Inst}
use Rattle.wh_strategy.specs.Expression.{At}
use Rattle.wh_strategy.specs.Rules.{IsCorrect}
use Rattle.wh_row.specs.Bag.{Bag, SumFits, count}
use Rattle.wh_maint.specs.declared.fault.MaintFault.{MaintFault}
use Rattle.wh_maint.specs.declared.fault.MaintFault.TheVariants.{Large, Range, Memory, Absent}
use Rattle.wh_maint.specs.View.{View, Kind, column}
use Rattle.wh_maint.specs.Definition.{graph_of, view_of}
use Rattle.wh_maint.specs.Comp.{bag_at, comp, comp_columns, TermsHaveValues}
use Rattle.wh_maint.specs.Size.{IsTooLarge}
use Rattle.wh_maint.specs.Finishing.{kind_in}
use Rattle.wh_maint.specs.Refused.{IsFinishFault, IsInstallFault, MergedFit}
use Rattle.wh_carry.specs.Carry.{State, change_in, before}
use Rattle.wh_carry.specs.Kept.{Kept, IsFirst, finished}
use Rattle.wh_carry.specs.Inner.Kept.{stepped}
use Rattle.wh_carry.specs.Refused.{AddedFit, CanHaveChange, CanBeComputed, RowIsLacking, BaseIsLarge, ChangeIsLarge, ChangeHasNoValue, CompIsLarge, CompMeetsNoValue, PendingIsLarge, TableIsLarge, IsRuledOut, IsPassed, ArePassedBelow, IsStepFault, IsListFault, CanBeFinishedIn, IsUnfinishedIn}
use Rattle.wh_carry.specs.Inner.Refused.{IsPassedIn, IsAddFaultIn, IsStepFaultIn}
use Rattle.wh_carry.proofs.Reasons.{comp_reason, inst_reason}
use Rattle.wh_carry.specs.Inner.Reasons.{CanBeFinished, CanAllBeFinished, IsAddFault, IsUnfinished}
use Rattle.wh_carry.proofs.StepRows.{whole_at_inst, whole_at_comp}
use Rattle.wh_carry.proofs.Agreeing.{columns_at, comp_done, inst_done, source_within, same_reach, same_values}
use Rattle.wh_carry.specs.Inner.Agreeing.{Agrees, AreTold}

pub same_fit : (kind : Kind) (table other : Bag) (pending others : ℕ → Bag) → table ≡ other → pending ≡ others → CanHaveChange kind table pending → CanHaveChange kind other others
same_fit kind table other pending others e f c = subst (CanHaveChange kind other) f (subst (λ b. CanHaveChange kind b pending) e c)

module _ (catalog : CatalogOf) (list : List Expression) (old given : ℕ → Bag) (is : IsCatalog catalog) (ok : IsCorrect catalog.views.children list) where
  pub unfinished : (p : ℕ) (s : State) (k : Kept) → Agrees catalog list old given p s k → (u : ℕ) → u < length catalog.views.children → (fault : MaintFault) → IsUnfinishedIn catalog k u fault → IsUnfinished catalog s u fault
  unfinished p s k a u l fault f =
      ((a.unknown u l f.0).0, subst (λ b. IsFinishFault u (kind_in catalog u) (s.tables u) b fault) (λ i j. a.pending u l j i) (subst (λ b. IsFinishFault u (kind_in catalog u) b (bag_at (k.pending u)) fault) (a.tables u) f.1))

  -- a view that can be finished as it is kept, or that was finished before, can be finished by the definition
  finishes : (p q u : ℕ) (k : Kept) → At list q (Inst u) → Agrees catalog list old given p (before (graph_of catalog) given list old p) k → AreTold catalog list old given k
      → ((before (graph_of catalog) given list old p).tables u ≡ (before (graph_of catalog) given list old q).tables u)
      → ((before (graph_of catalog) given list old p).pending u ≡ (before (graph_of catalog) given list old q).pending u)
      → CanBeFinishedIn catalog k u → CanBeFinished catalog (before (graph_of catalog) given list old p) u
  finishes p q u k inst a told t c can = λ derived.
      let here : State = before (graph_of catalog) given list old p in
      let there : State = before (graph_of catalog) given list old q in
      ⊎_elim
      (λ y. same_fit (kind_in catalog u) (there.tables u) (here.tables u) (there.pending u) (here.pending u) (sym t) (sym c) (told q u inst y derived))
      (λ n. same_fit (kind_in catalog u) (k.tables u) (here.tables u) (bag_at (k.pending u)) (here.pending u) (a.tables u) (λ i j. a.pending u (ok.views q u inst) j i) (can n))
      (cases_Bool (k.known u))

  finishes_at_comp : (p v : ℕ) (ys : List ℕ) (k : Kept) → At list p (Comp v ys) → Agrees catalog list old given p (before (graph_of catalog) given list old p) k → AreTold catalog list old given k
      → (u : ℕ) → has ys u ≡ true → CanBeFinishedIn catalog k u → CanBeFinished catalog (before (graph_of catalog) given list old p) u
  finishes_at_comp p v ys k at a told u m can =
      let inst = ok.an_inst u (source_within catalog list old given is ok p v ys at u m) in
      let whole = whole_at_comp catalog.views.children (graph_of catalog).views list old given ok p inst.0 v ys at u m inst.1 in
      finishes p inst.0 u k inst.1 a told whole.0 whole.1 can

  finishes_at_inst : (p v : ℕ) (k : Kept) → At list p (Inst v) → Agrees catalog list old given p (before (graph_of catalog) given list old p) k → AreTold catalog list old given k
      → CanBeFinishedIn catalog k v → CanBeFinished catalog (before (graph_of catalog) given list old p) v
  finishes_at_inst p v k at a told can = finishes p p v k at a told refl refl can

  -- a Comp's own part, as it is kept and by the definition
  module _ (p v : ℕ) (ys : List ℕ) (s : State) (k : Kept) (l : v < length catalog.views.children) (a : Agrees catalog list old given p s k)
      (due : (u : ℕ) → has ys u ≡ true → k.changes u ≡ change_in (graph_of catalog) given s u) where
    column_at : (j : ℕ) → bag_at (comp_columns (view_of (definition_of catalog v)) (children_of catalog.views.children v) ys k.tables k.changes) j
        ≡ comp (column (view_of (definition_of catalog v)) j) (children_of catalog.views.children v) ys s.tables (change_in (graph_of catalog) given s)
    column_at = columns_at catalog list old given is ok v ys s k.tables k.changes a.tables due

    pub fits : MergedFit (k.pending v) (comp_columns (view_of (definition_of catalog v)) (children_of catalog.views.children v) ys k.tables k.changes)
        → AddedFit (s.pending v) (λ j. comp (column (view_of (definition_of catalog v)) j) (children_of catalog.views.children v) ys s.tables (change_in (graph_of catalog) given s))
    fits fit = record {
      counts = λ row. subst (FitsSigned w64) (λ i. count (a.pending v l 0 i) row +ℤ count (column_at 0 i) row) (fit.counts row);
      sums = λ j row. subst (FitsSigned w128) (λ i. count (a.pending v l (suc j) i) row +ℤ count (column_at (suc j) i) row) (fit.sums j row);
    }

    fits_as_kept : AddedFit (s.pending v) (λ j. comp (column (view_of (definition_of catalog v)) j) (children_of catalog.views.children v) ys s.tables (change_in (graph_of catalog) given s))
        → MergedFit (k.pending v) (comp_columns (view_of (definition_of catalog v)) (children_of catalog.views.children v) ys k.tables k.changes)
    fits_as_kept fit = record {
      counts = λ row. subst (FitsSigned w64) (λ i. count (sym (a.pending v l 0) i) row +ℤ count (sym (column_at 0) i) row) (fit.counts row);
      sums = λ j row. subst (FitsSigned w128) (λ i. count (sym (a.pending v l (suc j)) i) row +ℤ count (sym (column_at (suc j)) i) row) (fit.sums j row);
    }

    too_large : IsTooLarge (children_of catalog.views.children v) ys k.tables k.changes → IsTooLarge (children_of catalog.views.children v) ys s.tables (change_in (graph_of catalog) given s)
    too_large big =
        let us : List ℕ = children_of catalog.views.children v in
        same_reach us ys s.tables k.changes (change_in (graph_of catalog) given s) due (subst (λ ts. IsTooLarge us ys ts k.changes) (λ i u. a.tables u i) big)

    too_large_as_kept : IsTooLarge (children_of catalog.views.children v) ys s.tables (change_in (graph_of catalog) given s) → IsTooLarge (children_of catalog.views.children v) ys k.tables k.changes
    too_large_as_kept big =
        let us : List ℕ = children_of catalog.views.children v in
        subst (λ ts. IsTooLarge us ys ts k.changes) (λ i u. sym (a.tables u) i) (same_reach us ys s.tables (change_in (graph_of catalog) given s) k.changes (λ u m. sym (due u m)) big)

    values : (view : View) → TermsHaveValues view (children_of catalog.views.children v) ys k.tables k.changes → TermsHaveValues view (children_of catalog.views.children v) ys s.tables (change_in (graph_of catalog) given s)
    values view h =
        let us : List ℕ = children_of catalog.views.children v in
        same_values us ys s.tables k.changes (change_in (graph_of catalog) given s) due view (subst (λ ts. TermsHaveValues view us ys ts k.changes) (λ i u. a.tables u i) h)

    values_as_kept : (view : View) → TermsHaveValues view (children_of catalog.views.children v) ys s.tables (change_in (graph_of catalog) given s) → TermsHaveValues view (children_of catalog.views.children v) ys k.tables k.changes
    values_as_kept view h =
        let us : List ℕ = children_of catalog.views.children v in
        subst (λ ts. TermsHaveValues view us ys ts k.changes) (λ i u. sym (a.tables u) i) (same_values us ys s.tables (change_in (graph_of catalog) given s) k.changes (λ u t. sym (due u t)) view h)

    pub computes : (view : View) → CanBeComputed view (children_of catalog.views.children v) ys k.tables k.changes → CanBeComputed view (children_of catalog.views.children v) ys s.tables (change_in (graph_of catalog) given s)
    computes view can = record { few = λ big. can.few (too_large_as_kept big); values = values view can.values }

    pub added : (fault : MaintFault) → IsAddFaultIn catalog k v ys fault
        → IsAddFault v (view_of (definition_of catalog v)) (children_of catalog.views.children v) ys s.tables (change_in (graph_of catalog) given s) (s.pending v) fault
    added (Large w) f = (f.0, ⊎_elim (λ big. inl (too_large big)) (λ no. inr (computes (view_of (definition_of catalog v)) no.0, λ fit. no.1 (fits_as_kept fit))) f.1)
    added (Range w) f = (f.0, λ big. f.1 (too_large_as_kept big), λ h. f.2 (values_as_kept (view_of (definition_of catalog v)) h))
    added Memory f = tt
    added (Absent w row) f = f

  -- an expression that is passed as it is kept is passed by the definition
  pub comp_passed : (v : ℕ) (ys : List ℕ) (s : State) → CanAllBeFinished catalog s ys
      → CanBeComputed (view_of (definition_of catalog v)) (children_of catalog.views.children v) ys s.tables (change_in (graph_of catalog) given s)
      → AddedFit (s.pending v) (λ j. comp (column (view_of (definition_of catalog v)) j) (children_of catalog.views.children v) ys s.tables (change_in (graph_of catalog) given s))
      → IsPassed catalog given s (Comp v ys)
  comp_passed v ys s all can fit (RowIsLacking b) asked = absurd asked
  comp_passed v ys s all can fit (BaseIsLarge b) asked = absurd asked
  comp_passed v ys s all can fit (ChangeIsLarge u) asked = λ derived. (all u asked derived).counts
  comp_passed v ys s all can fit (ChangeHasNoValue u) asked = λ derived. (all u asked derived).sums
  comp_passed v ys s all can fit (CompIsLarge w zs) asked = subst (λ r. IsRuledOut catalog given s r) (λ i. CompIsLarge (sym asked.0 i) (sym asked.1 i)) can.few
  comp_passed v ys s all can fit (CompMeetsNoValue w zs) asked = subst (λ r. IsRuledOut catalog given s r) (λ i. CompMeetsNoValue (sym asked.0 i) (sym asked.1 i)) can.values
  comp_passed v ys s all can fit (PendingIsLarge w zs) asked = subst (λ r. IsRuledOut catalog given s r) (λ i. PendingIsLarge (sym asked.0 i) (sym asked.1 i)) fit
  comp_passed v ys s all can fit (TableIsLarge w) asked = absurd asked

  inst_passed : (v : ℕ) (s : State) → CanBeFinished catalog s v → SumFits (s.tables v) (change_in (graph_of catalog) given s v) → IsPassed catalog given s (Inst v)
  inst_passed v s can fit (RowIsLacking b) asked = absurd asked
  inst_passed v s can fit (BaseIsLarge b) asked = absurd asked
  inst_passed v s can fit (ChangeIsLarge u) asked = subst (λ x. IsRuledOut catalog given s (ChangeIsLarge x)) (sym asked) (λ derived. (can derived).counts)
  inst_passed v s can fit (ChangeHasNoValue u) asked = subst (λ x. IsRuledOut catalog given s (ChangeHasNoValue x)) (sym asked) (λ derived. (can derived).sums)
  inst_passed v s can fit (CompIsLarge w zs) asked = absurd asked
  inst_passed v s can fit (CompMeetsNoValue w zs) asked = absurd asked
  inst_passed v s can fit (PendingIsLarge w zs) asked = absurd asked
  inst_passed v s can fit (TableIsLarge u) asked = subst (λ x. IsRuledOut catalog given s (TableIsLarge x)) (sym asked) fit

  pub passed_here : (p : ℕ) (e : Expression) (k : Kept) → At list p e → Agrees catalog list old given p (before (graph_of catalog) given list old p) k → AreTold catalog list old given k
      → IsPassedIn catalog k e → IsPassed catalog given (before (graph_of catalog) given list old p) e
  passed_here p (Comp v ys) k at a told h =
      let done = comp_done catalog list old given is ok p v ys k at a in
      let inside : v < length catalog.views.children = (ok.allowed p v ys at).0 in
      let s : State = before (graph_of catalog) given list old p in
      comp_passed v ys s
      (λ u m. finishes_at_comp p v ys k at a told u m (h.0 u m))
      (computes p v ys s (finished catalog (has ys) k) inside done.0 done.1 (view_of (definition_of catalog v)) h.1)
      (fits p v ys s (finished catalog (has ys) k) inside done.0 done.1 h.2)
  passed_here p (Inst v) k at a told h =
      let done = inst_done catalog list old given is ok p v k at a in
      let s : State = before (graph_of catalog) given list old p in
      inst_passed v s
      (finishes_at_inst p v k at a told h.0)
      (subst (λ b. SumFits (s.tables v) b) done.1 (subst (λ b. SumFits b ((finished catalog (λ u. eqb v u) k).changes v)) (a.tables v) h.1))

  -- the changes that it makes known could be made
  pub told_next : (p : ℕ) (e : Expression) (k after : Kept) → At list p e → Agrees catalog list old given p (before (graph_of catalog) given list old p) k → AreTold catalog list old given k
      → IsPassedIn catalog k e → after ≡ stepped catalog e k → AreTold catalog list old given after
  told_next p e k after at a told h f = subst (AreTold catalog list old given) (sym f) (next e at h)
    where
      next : (e : Expression) → At list p e → IsPassedIn catalog k e → AreTold catalog list old given (stepped catalog e k)
      next (Comp v ys) at h = λ q u inst known derived.
          let here : State = before (graph_of catalog) given list old p in
          let there : State = before (graph_of catalog) given list old q in
          ⊎_elim
          (λ m.
          let whole = whole_at_comp catalog.views.children (graph_of catalog).views list old given ok p q v ys at u m inst in
          same_fit (kind_in catalog u) (here.tables u) (there.tables u) (here.pending u) (there.pending u) whole.0 whole.1 (finishes_at_comp p v ys k at a told u m (h.0 u m) derived))
          (λ y. told q u inst y derived)
          (or_cases (has ys u) (k.known u) known)
      next (Inst v) at h = λ q u inst known derived.
          let here : State = before (graph_of catalog) given list old p in
          let there : State = before (graph_of catalog) given list old q in
          ⊎_elim
          (λ m.
          let same : v ≡ u = eqb-true v u m in
          let at_u : At list p (Inst u) = at ∙ ap (λ w. Some (Inst w)) same in
          let whole = whole_at_inst catalog.views.children (graph_of catalog).views list old given ok p q u at_u inst in
          same_fit (kind_in catalog u) (here.tables u) (there.tables u) (here.pending u) (there.pending u) whole.0 whole.1
          (finishes_at_inst p u k at_u a told (subst (CanBeFinishedIn catalog k) same h.0) derived))
          (λ y. told q u inst y derived)
          (or_cases (eqb v u) (k.known u) known)

  pub told_first : (k : Kept) → IsFirst catalog old given k → AreTold catalog list old given k
  told_first k f = λ q v inst known derived. absurd (false≢true (sym derived ∙ sym (f.known v (ok.views q v inst)) ∙ known))

  -- a refusal of this expression is one of the list
  in_list : (p : ℕ) (e : Expression) → At list p e → ArePassedBelow catalog list old given p → (fault : MaintFault)
      → (fault ≡ Memory) ⊎ IsStepFault catalog given (before (graph_of catalog) given list old p) e fault → (fault ≡ Memory) ⊎ IsListFault catalog list old given fault
  in_list p e at earlier fault f = ⊎_elim (λ m. inl m) (λ h. inr (record { place = p; expression = e; there = at; earlier = earlier; refused = h })) f

  pub comp_refused : (p v : ℕ) (ys : List ℕ) (k : Kept) → At list p (Comp v ys) → Agrees catalog list old given p (before (graph_of catalog) given list old p) k → AreTold catalog list old given k
      → ArePassedBelow catalog list old given p → (fault : MaintFault) → IsStepFaultIn catalog k (Comp v ys) fault → (fault ≡ Memory) ⊎ IsListFault catalog list old given fault
  comp_refused p v ys k at a told earlier fault f =
      let done = comp_done catalog list old given is ok p v ys k at a in
      let inside : v < length catalog.views.children = (ok.allowed p v ys at).0 in
      let s : State = before (graph_of catalog) given list old p in
      in_list p (Comp v ys) at earlier fault (comp_reason catalog given s v ys fault (⊎_elim
      (λ h. inl (record {
        view = h.view;
        among = h.among;
        lower = λ u n m. finishes_at_comp p v ys k at a told u m (h.lower u n m);
        refused = unfinished p s k a h.view (source_within catalog list old given is ok p v ys at h.view h.among) fault h.refused;
      }))
      (λ h. inr (λ u m. finishes_at_comp p v ys k at a told u m (h.0 u m), added p v ys s (finished catalog (has ys) k) inside done.0 done.1 fault h.1))
      f))

  pub inst_refused : (p v : ℕ) (k : Kept) → At list p (Inst v) → Agrees catalog list old given p (before (graph_of catalog) given list old p) k → AreTold catalog list old given k
      → ArePassedBelow catalog list old given p → (fault : MaintFault) → IsStepFaultIn catalog k (Inst v) fault → (fault ≡ Memory) ⊎ IsListFault catalog list old given fault
  inst_refused p v k at a told earlier fault f =
      let done = inst_done catalog list old given is ok p v k at a in
      let s : State = before (graph_of catalog) given list old p in
      in_list p (Inst v) at earlier fault (inst_reason catalog given s v fault (⊎_elim
      (λ h. inl (unfinished p s k a v (ok.views p v at) fault h))
      (λ h. inr (
        finishes_at_inst p v k at a told h.0,
        subst (λ b. IsInstallFault v (s.tables v) b fault) done.1 (subst (λ b. IsInstallFault v b ((finished catalog (λ u. eqb v u) k).changes v) fault) (a.tables v) h.1),
      ))
      f))
