-- Amid a wave: some of its Comps are done, in any order, and the others not.
use Rattle.std.proofs.Common.{◌≡◌, ℕ, zero, suc, ◌+◌, ◌-◌, ◌<◌, ◌≤◌, refl, sym, ap, subst, ◌∙◌, Bool, true, false, eqb, List, [], ◌∷◌, ◌++◌, length, drop, ◌⊎◌, inl, inr, ⊎_elim, arith}
use Rattle.std.specs.List.{All, sum_by}
use Rattle.std.specs.List.Sorted.{IsPermutation}
use Rattle.std.proofs.lemmas.List.Elements.{All-weaker}
use Rattle.std.proofs.lemmas.Option.{same_Some}
use Rattle.std.proofs.lemmas.Bool.{cases_lt, eqb-true, eq-eqb, false≢true, both_ways, or_left}
use Rattle.wh_dag.specs.Shape.{has, children_of}
use Rattle.wh_dag.specs.Catalog.{CatalogOf, IsCatalog, definition_of}
use Rattle.wh_strategy.specs.declared.expression.Expression.{Expression}
use Rattle.wh_strategy.specs.declared.expression.Expression.TheVariants.{Comp, Inst}
use Rattle.wh_strategy.specs.Expression.{At, is_new}
use Rattle.wh_strategy.specs.Rules.{IsCorrect}
use Rattle.wh_row.specs.Bag.{Bag}
use Rattle.wh_maint.specs.declared.fault.MaintFault.{MaintFault}
use Rattle.wh_maint.specs.declared.fault.MaintFault.TheVariants.{Memory}
use Rattle.wh_maint.specs.View.{View, ViewGraph, column}
use Rattle.wh_maint.specs.Refused.{MergedFit}
use Rattle.wh_maint.specs.Value.{NewCountsFit, ChangeHasValue, HaveValues}
use Rattle.wh_maint.specs.Definition.{graph_of, view_of}
use Rattle.wh_maint.specs.Comp.{comp, comp_columns, changed_rows, TermsHaveValues}
use Rattle.wh_maint.specs.Size.{IsTooLarge}
use Rattle.wh_maint.specs.Summary.{change_of}
use Rattle.wh_maint.specs.Contents.{if_base}
use Rattle.wh_maint.specs.Finishing.{kind_in}
use Rattle.wh_carry.specs.Carry.{State, before, carried, change_in}
use Rattle.wh_carry.specs.Refused.{AddedFit, CanBeComputed, Reason, RowIsLacking, BaseIsLarge, ChangeIsLarge, ChangeHasNoValue, CompIsLarge, CompMeetsNoValue, PendingIsLarge, TableIsLarge, IsRuledOut, IsOf, IsAnswer, IsPassed, IsStepFault, HasValueAt}
use Rattle.wh_carry.specs.Inner.Refused.{IsAddFaultIn}
use Rattle.wh_carry.specs.Kept.{Kept, AreKnown, finished}
use Rattle.wh_carry.specs.Inner.Kept.{computed}
use Rattle.wh_carry.specs.AnyOrder.{AreSideBySide, IsSameAt, WavesHaveNoOrder, expressions_from}
use Rattle.wh_carry.proofs.Prefixes.{carried-append, new_next}
use Rattle.wh_carry.proofs.StepRows.{change_at, whole_at}
use Rattle.wh_carry.proofs.Reasons.{comp_reason}
use Rattle.wh_carry.specs.Inner.Reasons.{CanAllBeFinished}
use Rattle.wh_carry.proofs.Refusals.{added, comp_passed, computes as computes_as, fits, same_fit}
use Rattle.wh_carry.specs.Inner.Agreeing.{AreTold, Agrees, gain}
use Rattle.wh_carry.proofs.Agreeing.{agrees_added, agrees_finished, same_changed, same_reach, same_values, source_within}
use Rattle.wh_carry.proofs.AnyOrder.{AreApart, IsApart, all_left, all_mid, apart_permuted, at_drop, at_take, bit, carried_on, computes, done_elsewhere, in_any_order, is_comp, one_of, pending_stays, side_by_side_apart, tables_stay, adds_same}

-- ---- a Comp is refused alike where its tables and what is pending of its sources and of its view are the same

module _ (catalog : CatalogOf) (changes : ℕ → Bag) (t s : State) (v : ℕ) (ys : List ℕ)
    (tables : t.tables ≡ s.tables) (sources : (u : ℕ) → has ys u ≡ true → t.pending u ≡ s.pending u) (own : t.pending v ≡ s.pending v) where
  due : (u : ℕ) → has ys u ≡ true → change_in (graph_of catalog) changes t u ≡ change_in (graph_of catalog) changes s u
  due u m = λ i. if_base (children_of catalog.views.children u) (changes u) (change_of (kind_in catalog u) (tables i u) (sources u m i))

  adds_here : (j : ℕ) → comp (column (view_of (definition_of catalog v)) j) (children_of catalog.views.children v) ys t.tables (change_in (graph_of catalog) changes t)
      ≡ comp (column (view_of (definition_of catalog v)) j) (children_of catalog.views.children v) ys s.tables (change_in (graph_of catalog) changes s)
  adds_here j = adds_same (graph_of catalog) changes s t (Comp v ys) tables sources j

  own_rules : (reason : Reason) → IsOf (Comp v ys) reason → IsRuledOut catalog changes t reason → IsRuledOut catalog changes s reason
  own_rules (RowIsLacking b) asked h = absurd asked
  own_rules (BaseIsLarge b) asked h = absurd asked
  own_rules (ChangeIsLarge u) asked h = λ d. subst (λ p. NewCountsFit (kind_in catalog u) (s.tables u) p) (sources u asked) (subst (λ (ts : ℕ → Bag). NewCountsFit (kind_in catalog u) (ts u) (t.pending u)) tables (h d))
  own_rules (ChangeHasNoValue u) asked h = λ d. subst (λ p. ChangeHasValue (kind_in catalog u) (s.tables u) p) (sources u asked) (subst (λ (ts : ℕ → Bag). ChangeHasValue (kind_in catalog u) (ts u) (t.pending u)) tables (h d))
  own_rules (CompIsLarge w zs) asked h = subst (IsRuledOut catalog changes s) (λ i. CompIsLarge (sym asked.0 i) (sym asked.1 i))
      (λ big.
      let us : List ℕ = children_of catalog.views.children v in
      subst (IsRuledOut catalog changes t) (λ i. CompIsLarge (asked.0 i) (asked.1 i)) h
      (same_reach us ys t.tables (change_in (graph_of catalog) changes s) (change_in (graph_of catalog) changes t) (λ u m. sym (due u m)) (subst (λ ts. IsTooLarge us ys ts (change_in (graph_of catalog) changes s)) (sym tables) big)))
  own_rules (CompMeetsNoValue w zs) asked h = subst (IsRuledOut catalog changes s) (λ i. CompMeetsNoValue (sym asked.0 i) (sym asked.1 i))
      (let us : List ℕ = children_of catalog.views.children v in
      let view : View = view_of (definition_of catalog v) in
      subst (λ ts. TermsHaveValues view us ys ts (change_in (graph_of catalog) changes s)) tables
      (same_values us ys t.tables (change_in (graph_of catalog) changes t) (change_in (graph_of catalog) changes s) due view (subst (IsRuledOut catalog changes t) (λ i. CompMeetsNoValue (asked.0 i) (asked.1 i)) h)))
  own_rules (PendingIsLarge w zs) asked h = subst (IsRuledOut catalog changes s) (λ i. PendingIsLarge (sym asked.0 i) (sym asked.1 i))
      (subst (λ f. AddedFit (s.pending v) f) (λ i j. adds_here j i)
      (subst (λ p. AddedFit p (λ j. comp (column (view_of (definition_of catalog v)) j) (children_of catalog.views.children v) ys t.tables (change_in (graph_of catalog) changes t))) own
      (subst (IsRuledOut catalog changes t) (λ i. PendingIsLarge (asked.0 i) (asked.1 i)) h)))
  own_rules (TableIsLarge w) asked h = absurd asked

  own_value : HasValueAt catalog changes t (Comp v ys) → HasValueAt catalog changes s (Comp v ys)
  own_value h =
      let us : List ℕ = children_of catalog.views.children v in
      let view : View = view_of (definition_of catalog v) in (
        λ u m. own_rules (ChangeHasNoValue u) m (h.0 u m),
        subst (λ ts. HaveValues view (changed_rows view.passes us ys ts (change_in (graph_of catalog) changes s))) tables
            (subst (HaveValues view) (same_changed us ys t.tables (change_in (graph_of catalog) changes t) (change_in (graph_of catalog) changes s) due view.passes) h.1),
      )

module _ (catalog : CatalogOf) (changes : ℕ → Bag) where
  one_fault : (t s : State) (e : Expression) → t.tables ≡ s.tables
      → ((reason : Reason) → IsOf e reason → IsRuledOut catalog changes t reason → IsRuledOut catalog changes s reason)
      → ((reason : Reason) → IsOf e reason → IsRuledOut catalog changes s reason → IsRuledOut catalog changes t reason)
      → (fault : MaintFault) → IsStepFault catalog changes t e fault → IsStepFault catalog changes s e fault
  one_fault t s e tables to from fault f = record {
    reason = f.reason;
    first = record {
      asked = f.first.asked;
      stands = λ r. f.first.stands (from f.reason f.first.asked r);
      earlier = λ other asked before. to other asked (f.first.earlier other asked before);
    };
    answer = subst (λ ts. IsAnswer ts changes f.reason fault) tables f.answer;
  }

  same_at : (t s : State) (v : ℕ) (ys : List ℕ) → t.tables ≡ s.tables → ((u : ℕ) → has ys u ≡ true → t.pending u ≡ s.pending u) → t.pending v ≡ s.pending v → IsSameAt catalog changes t s (Comp v ys)
  same_at t s v ys tables sources own =
      let back : (u : ℕ) → has ys u ≡ true → s.pending u ≡ t.pending u = λ u m. sym (sources u m) in
      let to = own_rules catalog changes t s v ys tables sources own in
      let from = own_rules catalog changes s t v ys (sym tables) back (sym own) in
      record {
        adds = adds_same (graph_of catalog) changes s t (Comp v ys) tables sources;
        ruled_out = λ reason asked. (to reason asked, from reason asked);
        passed = (λ h reason asked. to reason asked (h reason asked), λ h reason asked. from reason asked (h reason asked));
        refused = λ fault. (one_fault t s (Comp v ys) tables to from fault, one_fault s t (Comp v ys) (sym tables) from to fault);
        has_value = (own_value catalog changes t s v ys tables sources own, own_value catalog changes s t v ys (sym tables) back (sym own));
      }

-- ---- in a correct list

a_member : (ys : List ℕ) → 1 ≤ length ys → (u : ℕ) × (has ys u ≡ true)
unfolding has
a_member [] l = absurd (omega arith)
a_member (y ∷ ys) l = (y, or_left (eqb y y) (has ys y) (eq-eqb y y refl))

module _ (shape : List (List ℕ)) (list : List Expression) (ok : IsCorrect shape list) (p n : ℕ) (s : AreSideBySide list p n) where
  -- by rule S4 an Inst stands between two Comps of one view
  no_two : (j k v : ℕ) (ys zs : List ℕ) → k < n → At list (p + j) (Comp v ys) → At list (p + k) (Comp v zs) → ¬ (j < k)
  no_two j k v ys zs l at there k' =
      let m = a_member ys (ok.allowed (p + j) v ys at).1 in
      let b = ok.between (p + j) (p + k) v m.0 ys zs at there (omega arith) m.1 in
      let after : p + j < b.0 = ok.before_inst (p + j) b.0 v m.0 ys at m.1 b.1 in
      let before : b.0 < p + k = b.2 in
      let i : ℕ = b.0 - p in
      let e : p + i ≡ b.0 = omega arith in
      let c = s.comps i (omega arith) in
      let inst : At list (p + i) (Inst m.0) = subst (λ q. At list q (Inst m.0)) (sym e) b.1 in
      not_both c.0 m.0 c.1 (same_Some (Comp c.0 c.1) (Inst m.0) (sym c.2 ∙ inst))
    where
      not_both : (v w : ℕ) (ys : List ℕ) → Comp v ys ≡ Inst w → ⊥
      not_both v w ys e = cc

  pub one_target : (j k v : ℕ) (ys zs : List ℕ) → j < n → k < n → At list (p + j) (Comp v ys) → At list (p + k) (Comp v zs) → j ≡ k
  one_target j k v ys zs l m at there = ⊎_elim
      (λ a. absurd (no_two j k v ys zs m at there a))
      (λ a. ⊎_elim (λ b. absurd (no_two k j v zs ys l there at b)) (λ b. omega arith) (cases_lt k j))
      (cases_lt j k)

  computed_once : (v : ℕ) → sum_by (bit (computes v)) (expressions_from list p n) ≤ 1
  computed_once v = one_of (computes v) (expressions_from list p n) (λ j k e f at to y z.
      let a = at_take n (drop p list) j e at in
      let b = at_take n (drop p list) k f to in
      let c = the_comp e y in
      let d = the_comp f z in
      one_target j k v c.0 d.0 a.0 b.0 (subst (At list (p + j)) c.1 (at_drop list p j e a.1)) (subst (At list (p + k)) d.1 (at_drop list p k f b.1)))
    where
      the_comp : (e : Expression) → computes v e ≡ true → (ys : List ℕ) × (e ≡ Comp v ys)
      the_comp (Comp w ys) y = (ys, ap (λ x. Comp x ys) (eqb-true w v y))
      the_comp (Inst w) y = absurd (false≢true y)

  -- what is done leaves the sources and the view of what is not
  spared : (done left : List Expression) (e : Expression) → IsPermutation (expressions_from list p n) (done ++ e ∷ left) → (is_comp e ≡ true)
      × All (λ f. is_comp f ≡ true) done × All (IsApart e) done × ((v : ℕ) → computes v e ≡ true → All (λ f. computes v f ≡ false) done)
  spared done left e h =
      let a : AreApart (done ++ e ∷ left) = apart_permuted (expressions_from list p n) (done ++ e ∷ left) (side_by_side_apart list p n s) h in (
        all_mid (λ f. is_comp f ≡ true) done e left a.comps,
        all_left (λ f. is_comp f ≡ true) done (e ∷ left) a.comps,
        all_left (IsApart e) done (e ∷ left) (all_mid (λ f. All (IsApart f) (done ++ e ∷ left)) done e left a.each),
        λ v y. done_elsewhere v (expressions_from list p n) done left e (computed_once v) y h,
      )

amid_same : (catalog : CatalogOf) (list : List Expression) (changes : ℕ → Bag) (from : State) → IsCorrect catalog.views.children list → (p n : ℕ) → AreSideBySide list p n
    → (done left : List Expression) (e : Expression) → IsPermutation (expressions_from list p n) (done ++ e ∷ left) → IsSameAt catalog changes (carried (graph_of catalog) changes done from) from e
amid_same catalog list changes from ok p n s done left (Inst v) h = absurd (false≢true (spared catalog.views.children list ok p n s done left (Inst v) h).0)
amid_same catalog list changes from ok p n s done left (Comp v ys) h =
    let g : ViewGraph = graph_of catalog in
    let left_alone = spared catalog.views.children list ok p n s done left (Comp v ys) h in
    same_at catalog changes (carried g changes done from) from v ys
    (tables_stay g changes done from left_alone.1)
    (λ u m. pending_stays g changes done from u (All-weaker (IsApart (Comp v ys)) (λ f. computes u f ≡ false) (λ f apart. apart u m) done left_alone.2))
    (pending_stays g changes done from v (left_alone.3 v (eq-eqb v v refl)))

pub waves_have_no_order : WavesHaveNoOrder
waves_have_no_order = λ catalog list tables changes is ok p n s.
    let g : ViewGraph = graph_of catalog in
    let from : State = before g changes list tables p in
    record {
      targets = one_target catalog.views.children list ok p n s;
      same_end = λ order h. in_any_order g changes from (expressions_from list p n) order (side_by_side_apart list p n s) h ∙ carried_on g changes list tables p n;
      amid = amid_same catalog list changes from ok p n s;
    }

-- ---- what is kept amid a wave

-- a Comp of the wave is from this view
pub record IsSource (list : List Expression) (p n u : ℕ) : Type 0 where
  pub job : ℕ
  pub view : ℕ
  pub sources : List ℕ
  pub within : job < n
  pub there : At list (p + job) (Comp view sources)
  pub among : has sources u ≡ true

module _ (catalog : CatalogOf) (list : List Expression) (old given : ℕ → Bag) (is : IsCatalog catalog) (ok : IsCorrect catalog.views.children list)
    (p n : ℕ) (s : AreSideBySide list p n) where
  -- all Comps of a source stand before the wave
  all_before : (u : ℕ) → IsSource list p n u → (c : ℕ) (zs : List ℕ) → At list c (Comp u zs) → c < p
  all_before u r c zs a =
      let l : c < p + r.job = ok.changes_first c (p + r.job) u r.view zs r.sources a r.there r.among in
      ⊎_elim (λ h. h)
      (λ h.
      let k : ℕ = c - p in
      let e : p + k ≡ c = omega arith in
      let small = r.within in
      absurd (both_ways (has r.sources u) (s.apart r.job k r.view u r.sources zs r.within (omega arith) r.there (subst (λ q. At list q (Comp u zs)) (sym e) a)) r.among))
      (cases_lt c p)

  its_inst : (u : ℕ) → IsSource list p n u → (q : ℕ) × At list q (Inst u) × (p ≤ q)
  its_inst u r =
      let i = ok.an_inst u (source_within catalog list old given is ok (p + r.job) r.view r.sources r.there u r.among) in
      let l : p + r.job < i.0 = ok.before_inst (p + r.job) i.0 r.view u r.sources r.there r.among i.1 in
      (i.0, i.1, omega arith)

  -- so its change is there what it gains in the night
  pub source_due : (u : ℕ) → IsSource list p n u → change_in (graph_of catalog) given (before (graph_of catalog) given list old p) u ≡ gain catalog given list old u
  source_due u r = let i = its_inst u r in change_at catalog.views.children (graph_of catalog).views list old given ok p i.0 u i.1 i.2 (all_before u r)

  pub source_in : (u : ℕ) → IsSource list p n u → u < length catalog.views.children
  source_in u r = source_within catalog list old given is ok (p + r.job) r.view r.sources r.there u r.among

  -- its sources can be finished before a wave
  pub sources_finished : (k : Kept) (test : ℕ → Bool) → ((u : ℕ) → test u ≡ true → IsSource list p n u)
      → Agrees catalog list old given p (before (graph_of catalog) given list old p) k → Agrees catalog list old given p (before (graph_of catalog) given list old p) (finished catalog test k)
  sources_finished k test are a = agrees_finished catalog list old given is ok p (before (graph_of catalog) given list old p) k test a (λ u t. source_in u (are u t)) (λ u t. source_due u (are u t))

  module _ (done left : List Expression) (j v : ℕ) (ys : List ℕ) (within : j < n) (at : At list (p + j) (Comp v ys)) (h : IsPermutation (expressions_from list p n) (done ++ Comp v ys ∷ left))
      (k : Kept) (a : Agrees catalog list old given p (carried (graph_of catalog) given done (before (graph_of catalog) given list old p)) k) (known : AreKnown k ys) where
    source : (u : ℕ) → has ys u ≡ true → IsSource list p n u
    source u m = record { job = j; view = v; sources = ys; within = within; there = at; among = m }

    tables_amid : (carried (graph_of catalog) given done (before (graph_of catalog) given list old p)).tables ≡ (before (graph_of catalog) given list old p).tables
    tables_amid = tables_stay (graph_of catalog) given done (before (graph_of catalog) given list old p) (spared catalog.views.children list ok p n s done left (Comp v ys) h).1

    sources_amid : (u : ℕ) → has ys u ≡ true → (carried (graph_of catalog) given done (before (graph_of catalog) given list old p)).pending u ≡ (before (graph_of catalog) given list old p).pending u
    sources_amid u m = pending_stays (graph_of catalog) given done (before (graph_of catalog) given list old p) u
        (All-weaker (IsApart (Comp v ys)) (λ f. computes u f ≡ false) (λ f apart. apart u m) done (spared catalog.views.children list ok p n s done left (Comp v ys) h).2)

    own_amid : (carried (graph_of catalog) given done (before (graph_of catalog) given list old p)).pending v ≡ (before (graph_of catalog) given list old p).pending v
    own_amid = pending_stays (graph_of catalog) given done (before (graph_of catalog) given list old p) v ((spared catalog.views.children list ok p n s done left (Comp v ys) h).3 v (eq-eqb v v refl))

    -- the change of a source that is known is the one that it has there
    pub due_amid : (u : ℕ) → has ys u ≡ true → k.changes u ≡ change_in (graph_of catalog) given (carried (graph_of catalog) given done (before (graph_of catalog) given list old p)) u
    due_amid u m =
        a.known u (source_in u (source u m)) (known u m)
        ∙ sym (source_due u (source u m))
        ∙ sym (due catalog given (carried (graph_of catalog) given done (before (graph_of catalog) given list old p)) (before (graph_of catalog) given list old p) v ys tables_amid sources_amid own_amid u m)

    -- with what it adds one more Comp is done
    pub next_amid : Agrees catalog list old given p (carried (graph_of catalog) given (done ++ Comp v ys ∷ []) (before (graph_of catalog) given list old p)) (computed catalog v ys k)
    unfolding carried
    next_amid =
        let from : State = before (graph_of catalog) given list old p in
        subst (λ t. Agrees catalog list old given p t (computed catalog v ys k)) (sym (carried-append (graph_of catalog) given done (Comp v ys ∷ []) from))
        (agrees_added catalog list old given is ok p p v ys (carried (graph_of catalog) given done from) k (λ w. refl) (ok.allowed (p + j) v ys at).0 a due_amid)

    can_finish_amid : AreTold catalog list old given k → CanAllBeFinished catalog (carried (graph_of catalog) given done (before (graph_of catalog) given list old p)) ys
    can_finish_amid told u m derived =
        let from : State = before (graph_of catalog) given list old p in
        let amid : State = carried (graph_of catalog) given done from in
        let i = its_inst u (source u m) in
        let there : State = before (graph_of catalog) given list old i.0 in
        let whole = whole_at catalog.views.children (graph_of catalog).views list old given ok p i.0 u i.1 i.2 (all_before u (source u m)) in
        same_fit (kind_in catalog u) (there.tables u) (amid.tables u) (there.pending u) (amid.pending u)
        (sym (ap (λ (ts : ℕ → Bag). ts u) tables_amid ∙ whole.0)) (sym (sources_amid u m ∙ whole.1)) (told i.0 u i.1 (known u m) derived)

    -- it is refused as it is before the wave, and passed as it is there
    pub refused_amid : AreTold catalog list old given k → (fault : MaintFault) → IsAddFaultIn catalog k v ys fault
        → (fault ≡ Memory) ⊎ IsStepFault catalog given (before (graph_of catalog) given list old p) (Comp v ys) fault
    refused_amid told fault f =
        let from : State = before (graph_of catalog) given list old p in
        let amid : State = carried (graph_of catalog) given done from in
        ⊎_elim (λ m. inl m) (λ r. inr (((amid_same catalog list given from ok p n s done left (Comp v ys) h).refused fault).0 r))
        (comp_reason catalog given amid v ys fault (inr (can_finish_amid told, added catalog list old given is ok p v ys amid k (ok.allowed (p + j) v ys at).0 a due_amid fault f)))

    pub passed_amid : AreTold catalog list old given k → CanBeComputed (view_of (definition_of catalog v)) (children_of catalog.views.children v) ys k.tables k.changes
        → MergedFit (k.pending v) (comp_columns (view_of (definition_of catalog v)) (children_of catalog.views.children v) ys k.tables k.changes)
        → IsPassed catalog given (before (graph_of catalog) given list old p) (Comp v ys)
    passed_amid told can fit =
        let from : State = before (graph_of catalog) given list old p in
        let amid : State = carried (graph_of catalog) given done from in
        let inside : v < length catalog.views.children = (ok.allowed (p + j) v ys at).0 in
        (amid_same catalog list given from ok p n s done left (Comp v ys) h).passed.0
        (comp_passed catalog list old given is ok v ys amid (can_finish_amid told)
        (computes_as catalog list old given is ok p v ys amid k inside a due_amid (view_of (definition_of catalog v)) can)
        (fits catalog list old given is ok p v ys amid k inside a due_amid fit))

  stays_new : (m w : ℕ) → m ≤ n → is_new list (p + m) w ≡ is_new list p w
  stays_new zero w l = let e : p + 0 ≡ p = omega arith in ap (λ q. is_new list q w) e
  stays_new (suc m) w l =
      let e : p + suc m ≡ suc (p + m) = omega arith in
      let c = s.comps m (omega arith) in
      ap (λ q. is_new list q w) e ∙ new_next list (p + m) (Comp c.0 c.1) w c.2 ∙ stays_new m w (omega arith)

  -- when all are done, the wave is over
  pub wave_over : (done : List Expression) (k : Kept) → IsPermutation (expressions_from list p n) done
      → Agrees catalog list old given p (carried (graph_of catalog) given done (before (graph_of catalog) given list old p)) k
      → Agrees catalog list old given (p + n) (before (graph_of catalog) given list old (p + n)) k
  wave_over done k h a =
      let g : ViewGraph = graph_of catalog in
      let from : State = before g given list old p in
      let b = subst (λ t. Agrees catalog list old given p t k) (in_any_order g given from (expressions_from list p n) done (side_by_side_apart list p n s) h ∙ carried_on g given list old p n) a in
      record { tables = b.tables; pending = b.pending; long = b.long; known = b.known; unknown = λ w l m. let both = b.unknown w l m in (both.0, stays_new n w (omega arith) ∙ both.1) }
