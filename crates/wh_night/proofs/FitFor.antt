-- Tables that are fit for a night.
use Rattle.std.proofs.Common.{◌≡◌, ◌≢◌, refl, sym, subst, ◌∙◌, eqb, ℕ, pos, zero, suc, ◌<◌, ◌≤◌, List, [], ◌∷◌, length, take, cond, Bool, true, false, None, ◌⊎◌, ⊎_elim, arith}
use Rattle.std.specs.Prelude.{◌≤ℤ◌}
use Rattle.std.proofs.lemmas.Bool.{cases_lt, eqb-true, false_from_ne_true}
use Rattle.std.proofs.lemmas.Int.{ints}
use Rattle.wh_dag.specs.Catalog.{CatalogOf, IsCatalog, definition_of, is_empty}
use Rattle.wh_dag.specs.Shape.{children_of}
use Rattle.wh_row.specs.Bag.{Bag, IsTable, SumFits, count, empty, sum_of}
use Rattle.wh_strategy.specs.declared.expression.Expression.{Expression}
use Rattle.wh_strategy.specs.declared.expression.Expression.TheVariants.{Comp, Inst}
use Rattle.wh_strategy.specs.Expression.{At, is_new}
use Rattle.wh_strategy.specs.Rules.{IsCorrect}
use Rattle.wh_maint.specs.Asked.{AreBags}
use Rattle.wh_maint.specs.Comp.{bag_at}
use Rattle.wh_maint.specs.Definition.{graph_of, view_of}
use Rattle.wh_maint.specs.Finishing.{kind_in}
use Rattle.wh_maint.specs.Fit.{IsFitTable}
use Rattle.wh_maint.specs.Refused.{NoneAbsent}
use Rattle.wh_maint.specs.View.{Kind, ViewGraph}
use Rattle.wh_maint.specs.declared.fault.MaintFault.TheVariants.{Memory}
use Rattle.wh_carry.specs.Carry.{State, at_first, before, carried, change_in, step, tables_after}
use Rattle.wh_carry.specs.Fit.{AreChangesAllowed, AreFit, AreFitFor, AreFitTables}
use Rattle.wh_carry.specs.Refused.{AreAllowedBelow, ArePassedBelow, BaseIsLarge, ChangeHasNoValue, ChangeIsLarge, CompIsLarge, CompMeetsNoValue, IsBaseFault, IsListFault, IsNightFault, PendingIsLarge, RowIsLacking, TableIsLarge}
use Rattle.wh_carry.specs.declared.report.CarryFault.{CarryFault}
use Rattle.wh_carry.proofs.Agreeing.{a_base, count-empty, past}
use Rattle.wh_carry.proofs.FitNights.{before_or_end}
use Rattle.wh_carry.proofs.NewValues.{passed_have_values}
use Rattle.wh_carry.proofs.Prefixes.{take_whole}
use Rattle.wh_carry.proofs.StepRows.{table_at}

-- ---- base changes that are allowed

base_of : (us : List ℕ) → us ≡ [] → is_empty us ≡ true
base_of [] e = refl
base_of (u ∷ us) e = cc

none_there : (catalog : CatalogOf) (bags : List Bag) → AreBags catalog bags → (v : ℕ) → length catalog.views.children ≤ v → bag_at bags v ≡ empty
none_there catalog bags are v l = let e = are.each in past bags v empty (omega (arith, e, l))

nothing_absent : NoneAbsent empty empty
nothing_absent row = λ h. let e : count empty row ≡ pos 0 = count-empty row in omega (arith, ints, e, h)

nothing_large : SumFits empty empty
nothing_large row = let e : count empty row ≡ pos 0 = count-empty row in omega (arith, ints, e)

pub allowed_for : (catalog : CatalogOf) (tables changes : List Bag) → AreBags catalog tables → AreBags catalog changes
    → AreAllowedBelow catalog (bag_at tables) (bag_at changes) (length catalog.views.children) → AreChangesAllowed (graph_of catalog) (bag_at changes) (bag_at tables)
allowed_for catalog tables changes are given allowed = record {
  none_absent = λ b e. ⊎_elim
      (λ l. allowed (RowIsLacking b) (l, base_of (children_of catalog.views.children b) e))
      (λ l. subst (λ x. NoneAbsent x (bag_at changes b)) (sym (none_there catalog tables are b l)) (subst (NoneAbsent empty) (sym (none_there catalog changes given b l)) nothing_absent))
      (cases_lt b (length catalog.views.children));
  counts_fit = λ b e. ⊎_elim
      (λ l. allowed (BaseIsLarge b) (l, base_of (children_of catalog.views.children b) e))
      (λ l. subst (λ x. SumFits x (bag_at changes b)) (sym (none_there catalog tables are b l)) (subst (SumFits empty) (sym (none_there catalog changes given b l)) nothing_large))
      (cases_lt b (length catalog.views.children));
}

-- the other way: where they are allowed, none is refused
none_refused : (catalog : CatalogOf) (tables changes : ℕ → Bag) → AreChangesAllowed (graph_of catalog) changes tables → AreAllowedBelow catalog tables changes (length catalog.views.children)
none_refused catalog tables changes allowed (RowIsLacking b) asked = allowed.none_absent b (a_base (children_of catalog.views.children b) asked.1)
none_refused catalog tables changes allowed (BaseIsLarge b) asked = allowed.counts_fit b (a_base (children_of catalog.views.children b) asked.1)
none_refused catalog tables changes allowed (ChangeIsLarge v) asked = absurd asked
none_refused catalog tables changes allowed (ChangeHasNoValue v) asked = absurd asked
none_refused catalog tables changes allowed (CompIsLarge v ys) asked = absurd asked
none_refused catalog tables changes allowed (CompMeetsNoValue v ys) asked = absurd asked
none_refused catalog tables changes allowed (PendingIsLarge v ys) asked = absurd asked
none_refused catalog tables changes allowed (TableIsLarge v) asked = absurd asked

-- a night that is passed leaves tables fit that are fit for it
pub fit_behind : (catalog : CatalogOf) (list : List Expression) (tables changes : List Bag) → AreBags catalog tables → AreBags catalog changes
    → AreAllowedBelow catalog (bag_at tables) (bag_at changes) (length catalog.views.children) → ArePassedBelow catalog list (bag_at tables) (bag_at changes) (length list)
    → AreFitFor catalog (bag_at changes) list (bag_at tables) → AreFit (graph_of catalog) (tables_after (graph_of catalog) (bag_at changes) list (bag_at tables))
fit_behind catalog list tables changes are given allowed passed fit =
    let g : ViewGraph = graph_of catalog in
    subst (λ l. AreFit g (carried g (bag_at changes) l (at_first (bag_at tables))).tables) (take_whole list)
    (fit.later (allowed_for catalog tables changes are given allowed) (length list) (λ q e l at. passed_have_values catalog (bag_at changes) (before g (bag_at changes) list (bag_at tables) q) e (passed q e l at)))

-- ---- tables that are fit before a night and after it

-- there is no table behind the last view, and no Inst of one
at_front : (list : List Expression) (p q : ℕ) (e : Expression) → At (take p list) q e → At list q e
at_front [] zero q e at = at
at_front [] (suc p) q e at = at
at_front (x ∷ list) zero q e at = cc
at_front (x ∷ list) (suc p) zero e at = at
at_front (x ∷ list) (suc p) (suc q) e at = at_front list p q e at

untouched : (g : ViewGraph) (changes : ℕ → Bag) (n : ℕ) (list : List Expression) (s : State) (u : ℕ) → ((q w : ℕ) → At list q (Inst w) → w < n) → n ≤ u → (carried g changes list s).tables u ≡ s.tables u
unfolding carried
untouched g changes n [] s u within l = refl
untouched g changes n (Comp v ys ∷ list) s u within l = untouched g changes n list (step g changes (Comp v ys) s) u (λ q w at. within (suc q) w at) l
untouched g changes n (Inst v ∷ list) s u within l =
    let inside = within 0 v refl in
    let other : eqb v u ≡ false = false_from_ne_true (eqb v u) (λ t. let e = eqb-true v u t in omega (arith, e, inside, l)) in
    untouched g changes n list (step g changes (Inst v) s) u (λ q w at. within (suc q) w at) l ∙ (λ i. cond (other i) (sum_of (s.tables v) (change_in g changes s v)) (s.tables u))

either_fit : (kind : Kind) (b : Bool) (new old : Bag) → IsFitTable kind new → IsFitTable kind old → IsFitTable kind (cond b new old)
either_fit kind true new old f h = f
either_fit kind false new old f h = h

empty_table : IsTable empty
empty_table row = subst (λ n. pos 0 ≤ℤ n) (sym (count-empty row)) (omega (arith, ints))

module _ (catalog : CatalogOf) (list : List Expression) (tables : List Bag) (changes : ℕ → Bag) (is : IsCatalog catalog) (ok : IsCorrect catalog.views.children list) (are : AreBags catalog tables) (old : AreFitTables catalog tables) where
  abbrev g : ViewGraph
  g = graph_of catalog

  -- behind the last view
  behind_fit : (v : ℕ) → length catalog.views.children ≤ v → (table : Bag) → table ≡ bag_at tables v → IsFitTable (kind_in catalog v) table
  behind_fit v l table e =
      let each = is.each_definition in
      let none : definition_of catalog v ≡ None = past catalog.definitions v None (omega (arith, each, l)) in
      subst (λ d. IsFitTable (view_of d).kind table) (sym none) (subst IsTable (sym (e ∙ none_there catalog tables are v l)) empty_table)

  fit_now : AreFit g (bag_at tables)
  fit_now v = ⊎_elim (λ l. old v l) (λ l. behind_fit v l (bag_at tables v) refl) (cases_lt v (length catalog.views.children))

  pub fit_through : ((v : ℕ) → v < length catalog.views.children → IsFitTable (kind_in catalog v) (tables_after g changes list (bag_at tables) v)) → AreFitFor catalog changes list (bag_at tables)
  fit_through new = record {
    now = fit_now;
    later = λ allowed place values. before_or_end g changes list (bag_at tables) (AreFit g) (λ p within v. ⊎_elim
        (λ l. subst (IsFitTable (kind_in catalog v)) (sym (table_at catalog.views.children g.views list (bag_at tables) changes ok p v within l))
        (either_fit (kind_in catalog v) (is_new list p v) (tables_after g changes list (bag_at tables) v) (bag_at tables v) (new v l) (old v l)))
        (λ l. behind_fit v l ((before g changes list (bag_at tables) p).tables v)
        (untouched g changes (length catalog.views.children) (take p list) (at_first (bag_at tables)) v (λ q w at. ok.views q w (at_front list p q (Inst w) at)) l))
        (cases_lt v (length catalog.views.children))) place;
  }

  -- a night that is refused before it has started has a base change that is not allowed
  pub fit_where_refused : (f : CarryFault) → f.started ≡ false → f.fault ≢ Memory → IsNightFault catalog list (bag_at tables) changes f → AreFitFor catalog changes list (bag_at tables)
  fit_where_refused f not_started other why = record {
    now = fit_now;
    later = λ allowed place values. absurd (⊎_elim
        (λ m. other m.0)
        (λ (b : IsBaseFault catalog (bag_at tables) changes f.fault). b.first.stands (none_refused catalog (bag_at tables) changes allowed b.reason b.first.asked))
        (subst (λ b. cond b
        (AreAllowedBelow catalog (bag_at tables) changes (length catalog.views.children) × ((f.fault ≡ Memory) ⊎ IsListFault catalog list (bag_at tables) changes f.fault))
        (((f.fault ≡ Memory) × AreAllowedBelow catalog (bag_at tables) changes (length catalog.views.children)) ⊎ IsBaseFault catalog (bag_at tables) changes f.fault)) not_started why));
  }
