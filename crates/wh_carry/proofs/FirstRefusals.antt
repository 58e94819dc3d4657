-- A night has one first refusal at most.
use Rattle.std.proofs.Common.{◌≡◌, ◌≢◌, ℕ, zero, suc, refl, sym, ap, subst, ◌∙◌, Bool, true, false, List, [], length, ◌⊎◌, ⊎_elim, arith}
use Rattle.std.specs.Prelude.{slice_get}
use Rattle.std.specs.declared.cmp.Ordering.TheVariants.{Less, Equal, Greater}
use Rattle.std.specs.Ordering.{ordering_reverse}
use Rattle.std.proofs.lemmas.Bool.{cases_lt}
use Rattle.std.proofs.lemmas.Option.{same_Some}
use Rattle.wh_dag.specs.Catalog.{CatalogOf}
use Rattle.wh_strategy.specs.declared.expression.Expression.{Expression}
use Rattle.wh_strategy.specs.declared.expression.Expression.TheVariants.{Comp, Inst}
use Rattle.wh_row.specs.Row.{Row, row_cmp}
use Rattle.wh_row.specs.Bag.{Bag}
use Rattle.wh_row.proofs.BagLaws.{rows_total, rows_exact}
use Rattle.wh_maint.specs.declared.fault.MaintFault.{MaintFault}
use Rattle.wh_maint.specs.declared.fault.MaintFault.TheVariants.{Large, Range, Memory, Absent}
use Rattle.wh_maint.specs.Definition.{graph_of}
use Rattle.wh_maint.specs.Fit.{IsFirstAbsent}
use Rattle.wh_carry.specs.Carry.{State, at_first, before}
use Rattle.wh_carry.specs.Laws.{RefusalsAreOne}
use Rattle.wh_carry.proofs.Prefixes.{place_within}
use Rattle.wh_carry.proofs.Reasons.{turns}
use Rattle.wh_carry.specs.Refused.{Reason, RowIsLacking, BaseIsLarge, ChangeIsLarge, ChangeHasNoValue, CompIsLarge, CompMeetsNoValue, PendingIsLarge, TableIsLarge, IsAnswer, IsFirstReason, IsOf, IsOfBaseBelow, rank, ComesBefore, IsPassed, ArePassedBelow, AreAllowedBelow, IsStepFault, IsListFault, IsBaseFault, IsNightFault}

-- ---- of one list of reasons

one_row : (table change : Bag) (q r : Row) → IsFirstAbsent table change q → IsFirstAbsent table change r → q ≡ r
one_row table change q r a b = elim (row_cmp q r) as (λ o. row_cmp q r ≡ o → q ≡ r) [
  | Less ↦ λ e. absurd (b.others q e a.absent)
  | Equal ↦ λ e. rows_exact q r e
  | Greater ↦ λ e. absurd (a.others r (rows_total.antisymm r q ∙ ap ordering_reverse e) b.absent)
] refl

-- a reason has one answer, memory aside
one_lacking : (tables changes : ℕ → Bag) (b : ℕ) (f g : MaintFault) → IsAnswer tables changes (RowIsLacking b) f → IsAnswer tables changes (RowIsLacking b) g → f ≢ Memory → g ≢ Memory → f ≡ g
one_lacking tables changes b (Absent w row) (Absent x other) p q m n = λ i. Absent ((p.0 ∙ sym q.0) i) (one_row (tables b) (changes b) row other p.1 q.1 i)
one_lacking tables changes b (Absent w row) (Large x) p q m n = absurd (n q)
one_lacking tables changes b (Absent w row) (Range x) p q m n = absurd (n q)
one_lacking tables changes b (Absent w row) Memory p q m n = absurd (n q)
one_lacking tables changes b (Large w) g p q m n = absurd (m p)
one_lacking tables changes b (Range w) g p q m n = absurd (m p)
one_lacking tables changes b Memory g p q m n = absurd (m p)

one_answer : (tables changes : ℕ → Bag) (r : Reason) (f g : MaintFault) → IsAnswer tables changes r f → IsAnswer tables changes r g → f ≢ Memory → g ≢ Memory → f ≡ g
one_answer tables changes (RowIsLacking b) f g p q m n = one_lacking tables changes b f g p q m n
one_answer tables changes (BaseIsLarge b) f g p q m n = p ∙ sym q
one_answer tables changes (ChangeIsLarge v) f g p q m n = p ∙ sym q
one_answer tables changes (ChangeHasNoValue v) f g p q m n = p ∙ sym q
one_answer tables changes (CompIsLarge v ys) f g p q m n = p ∙ sym q
one_answer tables changes (CompMeetsNoValue v ys) f g p q m n = p ∙ sym q
one_answer tables changes (PendingIsLarge v ys) f g p q m n = p ∙ sym q
one_answer tables changes (TableIsLarge v) f g p q m n = p ∙ sym q

-- the reason of this turn, of Comps from these sources
of_turn : List ℕ → ℕ → ℕ → ℕ → Reason
of_turn ys zero v zero = RowIsLacking v
of_turn ys zero v (suc n) = BaseIsLarge v
of_turn ys (suc zero) v zero = ChangeIsLarge v
of_turn ys (suc zero) v (suc n) = ChangeHasNoValue v
of_turn ys (suc (suc zero)) v zero = CompIsLarge v ys
of_turn ys (suc (suc zero)) v (suc zero) = CompMeetsNoValue v ys
of_turn ys (suc (suc zero)) v (suc (suc n)) = PendingIsLarge v ys
of_turn ys (suc (suc (suc k))) v n = TableIsLarge v

sources_in : Expression → List ℕ
sources_in (Comp v ys) = ys
sources_in (Inst v) = []

told_by_turn : (e : Expression) (r : Reason) → IsOf e r → r ≡ of_turn (sources_in e) (rank r).0 (rank r).1 (rank r).2
unfolding of_turn sources_in
told_by_turn (Comp v ys) (RowIsLacking b) asked = refl
told_by_turn (Comp v ys) (BaseIsLarge b) asked = refl
told_by_turn (Comp v ys) (ChangeIsLarge u) asked = refl
told_by_turn (Comp v ys) (ChangeHasNoValue u) asked = refl
told_by_turn (Comp v ys) (CompIsLarge w zs) asked = ap (CompIsLarge w) asked.1
told_by_turn (Comp v ys) (CompMeetsNoValue w zs) asked = ap (CompMeetsNoValue w) asked.1
told_by_turn (Comp v ys) (PendingIsLarge w zs) asked = ap (PendingIsLarge w) asked.1
told_by_turn (Comp v ys) (TableIsLarge u) asked = refl
told_by_turn (Inst v) (RowIsLacking b) asked = refl
told_by_turn (Inst v) (BaseIsLarge b) asked = refl
told_by_turn (Inst v) (ChangeIsLarge u) asked = refl
told_by_turn (Inst v) (ChangeHasNoValue u) asked = refl
told_by_turn (Inst v) (CompIsLarge w zs) asked = absurd asked
told_by_turn (Inst v) (CompMeetsNoValue w zs) asked = absurd asked
told_by_turn (Inst v) (PendingIsLarge w zs) asked = absurd asked
told_by_turn (Inst v) (TableIsLarge u) asked = refl

base_by_turn : (catalog : CatalogOf) (n : ℕ) (r : Reason) → IsOfBaseBelow catalog n r → r ≡ of_turn [] (rank r).0 (rank r).1 (rank r).2
unfolding of_turn
base_by_turn catalog n (RowIsLacking b) asked = refl
base_by_turn catalog n (BaseIsLarge b) asked = refl
base_by_turn catalog n (ChangeIsLarge u) asked = absurd asked
base_by_turn catalog n (ChangeHasNoValue u) asked = absurd asked
base_by_turn catalog n (CompIsLarge u ys) asked = absurd asked
base_by_turn catalog n (CompMeetsNoValue u ys) asked = absurd asked
base_by_turn catalog n (PendingIsLarge u ys) asked = absurd asked
base_by_turn catalog n (TableIsLarge u) asked = absurd asked

-- of reasons that their turns tell apart, one is the first
one_reason : (catalog : CatalogOf) (changes : ℕ → Bag) (s : State) (Asked : Reason → Type 0) (ys : List ℕ) → ((r : Reason) → Asked r → r ≡ of_turn ys (rank r).0 (rank r).1 (rank r).2)
    → (q r : Reason) → IsFirstReason catalog changes s Asked ComesBefore q → IsFirstReason catalog changes s Asked ComesBefore r → q ≡ r
one_reason catalog changes s Asked ys told q r a b = ⊎_elim
    (λ l. absurd (a.stands (b.earlier q a.asked l)))
    (λ other. ⊎_elim
    (λ l. absurd (b.stands (a.earlier r b.asked l)))
    (λ e. told q a.asked ∙ (λ i. of_turn ys (e.0 i) (e.1 i) (e.2 i)) ∙ sym (told r b.asked))
    other)
    (turns (rank q) (rank r))

-- ---- of an expression

module _ (catalog : CatalogOf) (changes : ℕ → Bag) (s : State) where
  step_passed : (e : Expression) → IsPassed catalog changes s e → (f : MaintFault) → ¬ (IsStepFault catalog changes s e f)
  step_passed e h f r = r.first.stands (h r.reason r.first.asked)

  one_step : (e : Expression) (f g : MaintFault) → IsStepFault catalog changes s e f → IsStepFault catalog changes s e g → f ≢ Memory → g ≢ Memory → f ≡ g
  one_step e f g a b m n =
      let same : a.reason ≡ b.reason = one_reason catalog changes s (IsOf e) (sources_in e) (told_by_turn e) a.reason b.reason a.first b.first in
      one_answer s.tables changes b.reason f g (subst (λ r. IsAnswer s.tables changes r f) same a.answer) b.answer m n

-- ---- of a night

module _ (catalog : CatalogOf) (list : List Expression) (tables changes : ℕ → Bag) where
  one_base : (f g : MaintFault) → IsBaseFault catalog tables changes f → IsBaseFault catalog tables changes g → f ≢ Memory → g ≢ Memory → f ≡ g
  one_base f g a b m n =
      let views : ℕ = length catalog.views.children in
      let same : a.reason ≡ b.reason = one_reason catalog changes (at_first tables) (IsOfBaseBelow catalog views) [] (base_by_turn catalog views) a.reason b.reason a.first b.first in
      one_answer tables changes b.reason f g (subst (λ r. IsAnswer tables changes r f) same a.answer) b.answer m n

  one_in_list : (f g : MaintFault) → IsListFault catalog list tables changes f → IsListFault catalog list tables changes g → f ≢ Memory → g ≢ Memory → f ≡ g
  one_in_list f g a b m n =
      ⊎_elim
      (λ l. absurd (step_passed catalog changes (before (graph_of catalog) changes list tables a.place) a.expression (b.earlier a.place a.expression l a.there) f a.refused))
      (λ l. ⊎_elim
      (λ k. absurd (step_passed catalog changes (before (graph_of catalog) changes list tables b.place) b.expression (a.earlier b.place b.expression k b.there) g b.refused))
      (λ k.
      let e : a.place ≡ b.place = omega arith in
      let same : a.expression ≡ b.expression = same_Some a.expression b.expression (sym a.there ∙ ap (slice_get list) e ∙ b.there) in
      one_step catalog changes (before (graph_of catalog) changes list tables b.place) b.expression f g
      (subst (λ x. IsStepFault catalog changes (before (graph_of catalog) changes list tables b.place) x f) same (subst (λ p. IsStepFault catalog changes (before (graph_of catalog) changes list tables p) a.expression f) e a.refused))
      b.refused m n)
      (cases_lt b.place a.place))
      (cases_lt a.place b.place)

  other : {P : Type 0} (f : MaintFault) → (f ≡ Memory) ⊎ P → f ≢ Memory → P
  other f h m = ⊎_elim (λ e. absurd (m e)) (λ p. p) h

  of_base : (f : MaintFault) → IsNightFault catalog list tables changes (record { fault = f; started = false }) → f ≢ Memory → IsBaseFault catalog tables changes f
  of_base f h m = ⊎_elim (λ e. absurd (m e.0)) (λ p. p) h

  base_allowed : AreAllowedBelow catalog tables changes (length catalog.views.children) → (f : MaintFault) → ¬ (IsBaseFault catalog tables changes f)
  base_allowed all f a = a.first.stands (all a.reason a.first.asked)

  list_passed : ArePassedBelow catalog list tables changes (length list) → (f : MaintFault) → ¬ (IsListFault catalog list tables changes f)
  list_passed all f a = step_passed catalog changes (before (graph_of catalog) changes list tables a.place) a.expression (all a.place a.expression (place_within list a.place a.expression a.there) a.there) f a.refused

  -- by what was refused, and whether the night had started
  one_night : (f g : MaintFault) (t u : Bool) → IsNightFault catalog list tables changes (record { fault = f; started = t }) → IsNightFault catalog list tables changes (record { fault = g; started = u })
      → f ≢ Memory → g ≢ Memory → (f ≡ g) × (t ≡ u)
  one_night f g true true a b m n = (one_in_list f g (other f a.1 m) (other g b.1 n) m n, refl)
  one_night f g true false a b m n = absurd (base_allowed a.0 g (of_base g b n))
  one_night f g false true a b m n = absurd (base_allowed b.0 f (of_base f a m))
  one_night f g false false a b m n = (one_base f g (of_base f a m) (of_base g b n) m n, refl)

  no_night : AreAllowedBelow catalog tables changes (length catalog.views.children) → ArePassedBelow catalog list tables changes (length list)
      → (f : MaintFault) (t : Bool) → IsNightFault catalog list tables changes (record { fault = f; started = t }) → f ≡ Memory
  no_night allowed passed f true a = ⊎_elim (λ e. e) (λ h. absurd (list_passed passed f h)) a.1
  no_night allowed passed f false a = ⊎_elim (λ e. e.0) (λ h. absurd (base_allowed allowed f h)) a

pub refusals_are_one : RefusalsAreOne
refusals_are_one = λ catalog list tables changes. record {
  one = λ f g a b m n. let both = one_night catalog list tables changes f.fault g.fault f.started g.started a b m n in λ i. record { fault = both.0 i; started = both.1 i };
  none = λ allowed passed f a. no_night catalog list tables changes allowed passed f.fault f.started a;
}
