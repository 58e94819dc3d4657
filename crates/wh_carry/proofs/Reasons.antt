-- The first of an expression's reasons, from what its calls refuse one after another.
use Rattle.std.proofs.Common.{◌≡◌, ℕ, ◌+◌, ◌<◌, ◌≤◌, refl, sym, ap, subst, true, List, length, ◌⊎◌, inl, inr, ⊎_elim, arith}
use Rattle.std.proofs.lemmas.Bool.{cases_lt}
use Rattle.wh_dag.specs.Shape.{has, children_of}
use Rattle.wh_dag.specs.Catalog.{CatalogOf, definition_of, is_base}
use Rattle.wh_strategy.specs.declared.expression.Expression.TheVariants.{Comp, Inst}
use Rattle.wh_row.specs.Bag.{Bag, SumFits}
use Rattle.wh_maint.specs.declared.fault.MaintFault.{MaintFault}
use Rattle.wh_maint.specs.declared.fault.MaintFault.TheVariants.{Large, Range, Memory, Absent}
use Rattle.wh_maint.specs.Definition.{graph_of, view_of}
use Rattle.wh_maint.specs.Refused.{NoneAbsent, IsChangeFault, IsInstallFault}
use Rattle.wh_carry.specs.Carry.{State, at_first, change_in}
use Rattle.wh_carry.specs.Refused.{Reason, RowIsLacking, BaseIsLarge, ChangeIsLarge, ChangeHasNoValue, CompIsLarge, CompMeetsNoValue, PendingIsLarge, TableIsLarge, IsRuledOut, IsOf, IsOfBaseBelow, IsAnswer, rank, IsEarlier, IsStepFault, IsBaseFault, AreAllowedBelow}
use Rattle.wh_carry.specs.Inner.Reasons.{CanBeFinished, CanAllBeFinished, IsAddFault, IsUnfinished, IsFirstUnfinished}

-- ---- turns

below_itself : (n : ℕ) → n < n → ⊥
below_itself n l = omega arith

-- a later stage does not come before an earlier one
past_stage : (a b : ℕ × ℕ × ℕ) → b.0 < a.0 → IsEarlier a b → ⊥
past_stage a b l e = ⊎_elim (λ m. omega arith) (λ m. let f = m.0 in omega arith) e

-- within a stage the lower view comes first, and of one view the lower number
within_stage : (a b : ℕ × ℕ × ℕ) → a.0 ≡ b.0 → IsEarlier a b → (a.1 < b.1) ⊎ ((a.1 ≡ b.1) × (a.2 < b.2))
within_stage a b f e = ⊎_elim (λ l. absurd (omega arith)) (λ m. m.1) e

within_view : (a b : ℕ × ℕ × ℕ) → a.0 ≡ b.0 → a.1 ≡ b.1 → IsEarlier a b → a.2 < b.2
within_view a b f g e = ⊎_elim (λ l. absurd (omega arith)) (λ m. m.1) (within_stage a b f e)

-- of two turns one comes before the other, or they are the same
pub turns : (a b : ℕ × ℕ × ℕ) → IsEarlier a b ⊎ (IsEarlier b a ⊎ ((a.0 ≡ b.0) × (a.1 ≡ b.1) × (a.2 ≡ b.2)))
turns a b =
    by (cases_lt a.0 b.0) (cases_lt b.0 a.0) (cases_lt a.1 b.1) (cases_lt b.1 a.1) (cases_lt a.2 b.2) (cases_lt b.2 a.2)
  where
    by : (a.0 < b.0) ⊎ (b.0 ≤ a.0) → (b.0 < a.0) ⊎ (a.0 ≤ b.0) → (a.1 < b.1) ⊎ (b.1 ≤ a.1) → (b.1 < a.1) ⊎ (a.1 ≤ b.1) → (a.2 < b.2) ⊎ (b.2 ≤ a.2) → (b.2 < a.2) ⊎ (a.2 ≤ b.2)
        → IsEarlier a b ⊎ (IsEarlier b a ⊎ ((a.0 ≡ b.0) × (a.1 ≡ b.1) × (a.2 ≡ b.2)))
    by (inl l) q c d e f = inl (inl l)
    by (inr l) (inl m) c d e f = inr (inl (inl m))
    by (inr l) (inr m) (inl c) d e f = inl (inr (omega arith, inl c))
    by (inr l) (inr m) (inr c) (inl d) e f = inr (inl (inr (omega arith, inl d)))
    by (inr l) (inr m) (inr c) (inr d) (inl e) f = inl (inr (omega arith, inr (omega arith, e)))
    by (inr l) (inr m) (inr c) (inr d) (inr e) (inl f) = inr (inl (inr (omega arith, inr (omega arith, f))))
    by (inr l) (inr m) (inr c) (inr d) (inr e) (inr f) = inr (inr (omega arith, omega arith, omega arith))

-- ---- what is ruled out before a reason

module _ (catalog : CatalogOf) (changes : ℕ → Bag) (s : State) where
  counts_of : (u w : ℕ) → w ≡ u → IsRuledOut catalog changes s (ChangeIsLarge u) → IsRuledOut catalog changes s (ChangeIsLarge w)
  counts_of u w e out = subst (λ x. IsRuledOut catalog changes s (ChangeIsLarge x)) (sym e) out

  -- a source's change: those of lower sources were made, and where its sums are asked for its counts are in range
  before_change : (v : ℕ) (ys : List ℕ) (u n : ℕ) → ((w : ℕ) → w < u → has ys w ≡ true → CanBeFinished catalog s w) → (0 < n → IsRuledOut catalog changes s (ChangeIsLarge u)) → n ≤ 1
      → (q : Reason) → IsOf (Comp v ys) q → IsEarlier (rank q) (1, u, n) → IsRuledOut catalog changes s q
  before_change v ys u n lower own few (RowIsLacking b) asked e = absurd asked
  before_change v ys u n lower own few (BaseIsLarge b) asked e = absurd asked
  before_change v ys u n lower own few (ChangeIsLarge w) asked e =
      ⊎_elim (λ l derived. (lower w l asked derived).counts) (λ m. counts_of u w m.0 (own m.1)) (within_stage (1, w, 0) (1, u, n) refl e)
  before_change v ys u n lower own few (ChangeHasNoValue w) asked e =
      ⊎_elim (λ l derived. (lower w l asked derived).sums) (λ m. absurd (let l : 1 < n = m.1 in omega arith)) (within_stage (1, w, 1) (1, u, n) refl e)
  before_change v ys u n lower own few (CompIsLarge w zs) asked e = absurd (past_stage (2, w, 0) (1, u, n) (omega arith) e)
  before_change v ys u n lower own few (CompMeetsNoValue w zs) asked e = absurd (past_stage (2, w, 1) (1, u, n) (omega arith) e)
  before_change v ys u n lower own few (PendingIsLarge w zs) asked e = absurd (past_stage (2, w, 2) (1, u, n) (omega arith) e)
  before_change v ys u n lower own few (TableIsLarge w) asked e = absurd asked

  -- a Comp's own part: all its sources' changes were made
  before_own : (v : ℕ) (ys : List ℕ) (n : ℕ) → CanAllBeFinished catalog s ys → (0 < n → IsRuledOut catalog changes s (CompIsLarge v ys)) → (1 < n → IsRuledOut catalog changes s (CompMeetsNoValue v ys)) → n ≤ 2
      → (q : Reason) → IsOf (Comp v ys) q → IsEarlier (rank q) (2, v, n) → IsRuledOut catalog changes s q
  before_own v ys n all large values few (RowIsLacking b) asked e = absurd asked
  before_own v ys n all large values few (BaseIsLarge b) asked e = absurd asked
  before_own v ys n all large values few (ChangeIsLarge w) asked e = λ derived. (all w asked derived).counts
  before_own v ys n all large values few (ChangeHasNoValue w) asked e = λ derived. (all w asked derived).sums
  before_own v ys n all large values few (CompIsLarge w zs) asked e =
      subst (λ r. IsRuledOut catalog changes s r) (λ i. CompIsLarge (sym asked.0 i) (sym asked.1 i)) (large (within_view (2, w, 0) (2, v, n) refl asked.0 e))
  before_own v ys n all large values few (CompMeetsNoValue w zs) asked e =
      subst (λ r. IsRuledOut catalog changes s r) (λ i. CompMeetsNoValue (sym asked.0 i) (sym asked.1 i)) (values (within_view (2, w, 1) (2, v, n) refl asked.0 e))
  before_own v ys n all large values few (PendingIsLarge w zs) asked e = absurd (let l : 2 < n = within_view (2, w, 2) (2, v, n) refl asked.0 e in omega arith)
  before_own v ys n all large values few (TableIsLarge w) asked e = absurd asked

  -- an Inst's change
  before_own_change : (v n : ℕ) → (0 < n → IsRuledOut catalog changes s (ChangeIsLarge v)) → n ≤ 1 → (q : Reason) → IsOf (Inst v) q → IsEarlier (rank q) (1, v, n) → IsRuledOut catalog changes s q
  before_own_change v n own few (RowIsLacking b) asked e = absurd asked
  before_own_change v n own few (BaseIsLarge b) asked e = absurd asked
  before_own_change v n own few (ChangeIsLarge w) asked e = counts_of v w asked (own (within_view (1, w, 0) (1, v, n) refl asked e))
  before_own_change v n own few (ChangeHasNoValue w) asked e = absurd (let l : 1 < n = within_view (1, w, 1) (1, v, n) refl asked e in omega arith)
  before_own_change v n own few (CompIsLarge w zs) asked e = absurd asked
  before_own_change v n own few (CompMeetsNoValue w zs) asked e = absurd asked
  before_own_change v n own few (PendingIsLarge w zs) asked e = absurd asked
  before_own_change v n own few (TableIsLarge w) asked e = absurd (past_stage (3, w, 0) (1, v, n) (omega arith) e)

  -- and its table: the change was made
  before_table : (v : ℕ) → CanBeFinished catalog s v → (q : Reason) → IsOf (Inst v) q → IsEarlier (rank q) (3, v, 0) → IsRuledOut catalog changes s q
  before_table v can (RowIsLacking b) asked e = absurd asked
  before_table v can (BaseIsLarge b) asked e = absurd asked
  before_table v can (ChangeIsLarge w) asked e = counts_of v w asked (λ derived. (can derived).counts)
  before_table v can (ChangeHasNoValue w) asked e = subst (λ x. IsRuledOut catalog changes s (ChangeHasNoValue x)) (sym asked) (λ derived. (can derived).sums)
  before_table v can (CompIsLarge w zs) asked e = absurd asked
  before_table v can (CompMeetsNoValue w zs) asked e = absurd asked
  before_table v can (PendingIsLarge w zs) asked e = absurd asked
  before_table v can (TableIsLarge w) asked e = absurd (below_itself 0 (within_view (3, w, 0) (3, v, 0) refl asked e))

  -- ---- the reason of a refusal

  unfinished_reason : (v : ℕ) (ys : List ℕ) (u : ℕ) → has ys u ≡ true → ((w : ℕ) → w < u → has ys w ≡ true → CanBeFinished catalog s w)
      → (fault : MaintFault) → IsUnfinished catalog s u fault → (fault ≡ Memory) ⊎ IsStepFault catalog changes s (Comp v ys) fault
  unfinished_reason v ys u among lower (Large w) f = inr (record {
    reason = ChangeIsLarge u;
    first = record { asked = among; stands = λ out. f.1.1 (out f.0); earlier = before_change v ys u 0 lower (λ l. absurd (below_itself 0 l)) (omega arith) };
    answer = ap Large f.1.0;
  })
  unfinished_reason v ys u among lower (Range w) f = inr (record {
    reason = ChangeHasNoValue u;
    first = record { asked = among; stands = λ out. f.1.2 (out f.0); earlier = before_change v ys u 1 lower (λ l derived. f.1.1) (omega arith) };
    answer = ap Range f.1.0;
  })
  unfinished_reason v ys u among lower Memory f = inl refl
  unfinished_reason v ys u among lower (Absent w row) f = absurd f.1

  added_reason : (v : ℕ) (ys : List ℕ) → CanAllBeFinished catalog s ys → (fault : MaintFault)
      → IsAddFault v (view_of (definition_of catalog v)) (children_of catalog.views.children v) ys s.tables (change_in (graph_of catalog) changes s) (s.pending v) fault
      → (fault ≡ Memory) ⊎ IsStepFault catalog changes s (Comp v ys) fault
  added_reason v ys all (Large w) f = inr (⊎_elim
      (λ big. record {
        reason = CompIsLarge v ys;
        first = record { asked = (refl, refl); stands = λ few. few big; earlier = before_own v ys 0 all (λ l. absurd (below_itself 0 l)) (λ l. absurd (omega arith)) (omega arith) };
        answer = ap Large f.0;
      })
      (λ no. record {
        reason = PendingIsLarge v ys;
        first = record { asked = (refl, refl); stands = no.1; earlier = before_own v ys 2 all (λ l. no.0.few) (λ l. no.0.values) (omega arith) };
        answer = ap Large f.0;
      })
      f.1)
  added_reason v ys all (Range w) f = inr (record {
    reason = CompMeetsNoValue v ys;
    first = record { asked = (refl, refl); stands = f.2; earlier = before_own v ys 1 all (λ l. f.1) (λ l. absurd (below_itself 1 l)) (omega arith) };
    answer = ap Range f.0;
  })
  added_reason v ys all Memory f = inl refl
  added_reason v ys all (Absent w row) f = absurd f

  pub comp_reason : (v : ℕ) (ys : List ℕ) (fault : MaintFault)
      → IsFirstUnfinished catalog s ys fault
      ⊎ (CanAllBeFinished catalog s ys × IsAddFault v (view_of (definition_of catalog v)) (children_of catalog.views.children v) ys s.tables (change_in (graph_of catalog) changes s) (s.pending v) fault)
      → (fault ≡ Memory) ⊎ IsStepFault catalog changes s (Comp v ys) fault
  comp_reason v ys fault f = ⊎_elim (λ h. unfinished_reason v ys h.view h.among h.lower fault h.refused) (λ h. added_reason v ys h.0 fault h.1) f

  own_change_reason : (v : ℕ) (fault : MaintFault) → IsUnfinished catalog s v fault → (fault ≡ Memory) ⊎ IsStepFault catalog changes s (Inst v) fault
  own_change_reason v (Large w) f = inr (record {
    reason = ChangeIsLarge v;
    first = record { asked = refl; stands = λ out. f.1.1 (out f.0); earlier = before_own_change v 0 (λ l. absurd (below_itself 0 l)) (omega arith) };
    answer = ap Large f.1.0;
  })
  own_change_reason v (Range w) f = inr (record {
    reason = ChangeHasNoValue v;
    first = record { asked = refl; stands = λ out. f.1.2 (out f.0); earlier = before_own_change v 1 (λ l derived. f.1.1) (omega arith) };
    answer = ap Range f.1.0;
  })
  own_change_reason v Memory f = inl refl
  own_change_reason v (Absent w row) f = absurd f.1

  table_reason : (v : ℕ) → CanBeFinished catalog s v → (fault : MaintFault) → IsInstallFault v (s.tables v) (change_in (graph_of catalog) changes s v) fault
      → (fault ≡ Memory) ⊎ IsStepFault catalog changes s (Inst v) fault
  table_reason v can (Large w) f = inr (record {
    reason = TableIsLarge v;
    first = record { asked = refl; stands = f.1; earlier = before_table v can };
    answer = ap Large f.0;
  })
  table_reason v can (Range w) f = absurd f
  table_reason v can Memory f = inl refl
  table_reason v can (Absent w row) f = absurd f

  pub inst_reason : (v : ℕ) (fault : MaintFault) → IsUnfinished catalog s v fault ⊎ (CanBeFinished catalog s v × IsInstallFault v (s.tables v) (change_in (graph_of catalog) changes s v) fault)
      → (fault ≡ Memory) ⊎ IsStepFault catalog changes s (Inst v) fault
  inst_reason v fault f = ⊎_elim (own_change_reason v fault) (λ h. table_reason v h.0 fault h.1) f

-- ---- base changes

-- one more base view is allowed
pub allowed_next : (catalog : CatalogOf) (tables changes : ℕ → Bag) (v : ℕ) → (is_base catalog v ≡ true → NoneAbsent (tables v) (changes v) × SumFits (tables v) (changes v))
    → AreAllowedBelow catalog tables changes v → AreAllowedBelow catalog tables changes (v + 1)
allowed_next catalog tables changes v here below (RowIsLacking b) asked = ⊎_elim
    (λ l. below (RowIsLacking b) (l, asked.1))
    (λ l. let e : v ≡ b = (let m = asked.0 in omega arith) in subst (λ x. NoneAbsent (tables x) (changes x)) e (here (subst (λ x. is_base catalog x ≡ true) (sym e) asked.1)).0)
    (cases_lt b v)
allowed_next catalog tables changes v here below (BaseIsLarge b) asked = ⊎_elim
    (λ l. below (BaseIsLarge b) (l, asked.1))
    (λ l. let e : v ≡ b = (let m = asked.0 in omega arith) in subst (λ x. SumFits (tables x) (changes x)) e (here (subst (λ x. is_base catalog x ≡ true) (sym e) asked.1)).1)
    (cases_lt b v)
allowed_next catalog tables changes v here below (ChangeIsLarge u) asked = absurd asked
allowed_next catalog tables changes v here below (ChangeHasNoValue u) asked = absurd asked
allowed_next catalog tables changes v here below (CompIsLarge u ys) asked = absurd asked
allowed_next catalog tables changes v here below (CompMeetsNoValue u ys) asked = absurd asked
allowed_next catalog tables changes v here below (PendingIsLarge u ys) asked = absurd asked
allowed_next catalog tables changes v here below (TableIsLarge u) asked = absurd asked

pub none_allowed : (catalog : CatalogOf) (tables changes : ℕ → Bag) → AreAllowedBelow catalog tables changes 0
none_allowed catalog tables changes (RowIsLacking b) asked = absurd (let l : b < 0 = asked.0 in omega arith)
none_allowed catalog tables changes (BaseIsLarge b) asked = absurd (let l : b < 0 = asked.0 in omega arith)
none_allowed catalog tables changes (ChangeIsLarge u) asked = absurd asked
none_allowed catalog tables changes (ChangeHasNoValue u) asked = absurd asked
none_allowed catalog tables changes (CompIsLarge u ys) asked = absurd asked
none_allowed catalog tables changes (CompMeetsNoValue u ys) asked = absurd asked
none_allowed catalog tables changes (PendingIsLarge u ys) asked = absurd asked
none_allowed catalog tables changes (TableIsLarge u) asked = absurd asked

module _ (catalog : CatalogOf) (tables changes : ℕ → Bag) (v : ℕ) (inside : v < length catalog.views.children) (base : is_base catalog v ≡ true) (below : AreAllowedBelow catalog tables changes v) where
  before_base : (n : ℕ) → (0 < n → NoneAbsent (tables v) (changes v)) → n ≤ 1 → (q : Reason) → IsOfBaseBelow catalog (length catalog.views.children) q → IsEarlier (rank q) (0, v, n)
      → IsRuledOut catalog changes (at_first tables) q
  before_base n none few (RowIsLacking b) asked e = ⊎_elim
      (λ l. below (RowIsLacking b) (l, asked.1))
      (λ m. subst (λ x. NoneAbsent (tables x) (changes x)) (sym m.0) (none m.1))
      (within_stage (0, b, 0) (0, v, n) refl e)
  before_base n none few (BaseIsLarge b) asked e = ⊎_elim
      (λ l. below (BaseIsLarge b) (l, asked.1))
      (λ m. absurd (let l : 1 < n = m.1 in omega arith))
      (within_stage (0, b, 1) (0, v, n) refl e)
  before_base n none few (ChangeIsLarge u) asked e = absurd asked
  before_base n none few (ChangeHasNoValue u) asked e = absurd asked
  before_base n none few (CompIsLarge u ys) asked e = absurd asked
  before_base n none few (CompMeetsNoValue u ys) asked e = absurd asked
  before_base n none few (PendingIsLarge u ys) asked e = absurd asked
  before_base n none few (TableIsLarge u) asked e = absurd asked

  lacking : (fault : MaintFault) → ¬ (NoneAbsent (tables v) (changes v)) → IsAnswer tables changes (RowIsLacking v) fault → IsBaseFault catalog tables changes fault
  lacking fault some answer = record {
    reason = RowIsLacking v;
    first = record { asked = (inside, base); stands = some; earlier = before_base 0 (λ l. absurd (below_itself 0 l)) (omega arith) };
    answer = answer;
  }

  pub base_reason : (fault : MaintFault) → IsChangeFault v (tables v) (changes v) fault → IsBaseFault catalog tables changes fault
  base_reason (Large w) f = record {
    reason = BaseIsLarge v;
    first = record { asked = (inside, base); stands = f.2; earlier = before_base 1 (λ l. f.1) (omega arith) };
    answer = ap Large f.0;
  }
  base_reason (Range w) f = absurd f
  base_reason Memory f = lacking Memory f refl
  base_reason (Absent w row) f = lacking (Absent w row) (λ none. none row f.1.absent) f
