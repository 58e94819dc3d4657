-- What stands before each expression of a correct strategy: new tables where they are installed, and what the Comps so far make different.
use Rattle.std.proofs.Common.{◌≡◌, ℕ, zero, suc, ◌<◌, ◌≤◌, refl, sym, ap, subst, ◌∙◌, Bool, true, false, cond, eqb, ◌&&◌, ◌||◌, List, [], ◌∷◌, map, length, take, ⊎_elim, arith}
use Rattle.std.proofs.lemmas.Bool.{eqb-true, false≢true}
use Rattle.wh_dag.specs.Shape.{has, children_of}
use Rattle.wh_strategy.specs.declared.expression.Expression.{Expression}
use Rattle.wh_strategy.specs.declared.expression.Expression.TheVariants.{Comp, Inst}
use Rattle.wh_strategy.specs.Expression.{At, is_new}
use Rattle.wh_strategy.specs.Rules.{IsCorrect}
use Rattle.wh_strategy.specs.Tests.{is_taken}
use Rattle.wh_strategy.proofs.Found.{new_after, has-head}
use Rattle.wh_row.specs.Bag.{Bag, IsTable, sum_of}
use Rattle.wh_maint.specs.View.{View, ViewGraph, IsViewGraph, Fold, column, value}
use Rattle.wh_maint.specs.Summary.{change_of}
use Rattle.wh_maint.specs.Comp.{at_set, comp}
use Rattle.wh_maint.specs.Laws.{changed}
use Rattle.wh_maint.specs.Definition.{graph_of}
use Rattle.wh_maint.specs.Contents.{if_base, contents, AreValues}
use Rattle.wh_maint.proofs.Differences.{value_step, sum_assoc, sum-empty, same_tables}
use Rattle.wh_maint.proofs.FitTables.{whole_change}
use Rattle.wh_maint.proofs.FromScratch.{empty_or_not, based, derived, contents_are_values, values_are_tables, catalogs_are_graphs}
use Rattle.wh_carry.specs.Carry.{State, at_first, change_in, step, carried, before, tables_after}
use Rattle.wh_carry.specs.Laws.{StrategiesEndInViews}
use Rattle.wh_carry.proofs.Prefixes.{take_whole, there, place_within, before_next, new_next, taken_next, inst_is_first, inst_after_comps, source_is_old, source_after_comps, taken_is_new}

-- the new table where the test is true, else the old one
abbrev pub mixed : (ℕ → Bool) → (ℕ → Bag) → (ℕ → Bag) → ℕ → Bag
mixed test new old u = cond (test u) (new u) (old u)

abbrev pub graph : List (List ℕ) → (ℕ → View) → ViewGraph
graph shape views = record { children = children_of shape; views = views }

nested : {A : Type 0} (a b : Bool) (x z : A) → cond a x (cond b x z) ≡ cond (a || b) x z
nested true b x z = refl
nested false b x z = refl

not_empty : (ys us : List ℕ) → 1 ≤ length ys → ((u : ℕ) → has ys u ≡ true → has us u ≡ true) → ¬ (us ≡ [])
unfolding has
not_empty [] us l h = absurd (omega arith)
not_empty (y ∷ ys) us l h = λ e. false≢true (sym (ap (λ x. has x y) e) ∙ h y (has-head y ys))

pub record Stands (shape : List (List ℕ)) (views : ℕ → View) (list : List Expression) (old new : ℕ → Bag) (p : ℕ) (s : State) : Type 0 where
  pub tables : (u : ℕ) → s.tables u ≡ mixed (is_new list p) new old u
  pub pending : (v : ℕ) → ¬ (children_of shape v ≡ []) → (j : ℕ)
      → sum_of (value (column (views v) j) (map old (children_of shape v))) (s.pending v j) ≡ value (column (views v) j) (map (mixed (is_taken (take p list) v) new old) (children_of shape v))

module _ (shape : List (List ℕ)) (views : ℕ → View) (list : List Expression) (old new changes : ℕ → Bag) (isg : IsViewGraph (graph shape views)) (ok : IsCorrect shape list)
    (are_old : AreValues (graph shape views) old) (are_new : AreValues (graph shape views) new) (nonneg : (v : ℕ) → IsTable (old v))
    (bases : (b : ℕ) → children_of shape b ≡ [] → sum_of (old b) (changes b) ≡ new b) where
  -- a view all of whose Comps are done has its whole change
  complete : (p : ℕ) (s : State) → Stands shape views list old new p s → (u : ℕ) → ((w : ℕ) → has (children_of shape u) w ≡ true → is_taken (take p list) u w ≡ true)
      → sum_of (old u) (if_base (children_of shape u) (changes u) (change_of (views u).kind (old u) (s.pending u))) ≡ new u
  complete p s st u all =
      let us : List ℕ = children_of shape u in
      ⊎_elim
      (λ e. ap (sum_of (old u)) (based us (changes u) (change_of (views u).kind (old u) (s.pending u)) e) ∙ bases u e)
      (λ n.
      ap (sum_of (old u)) (derived us (changes u) (change_of (views u).kind (old u) (s.pending u)) n)
      ∙ (λ i. sum_of (are_old u n i) (change_of (views u).kind (are_old u n i) (s.pending u)))
      ∙ whole_change (views u) us old new (s.pending u) (λ w _. nonneg w)
      (λ j. st.pending u n j ∙ ap (value (column (views u) j)) (same_tables us (mixed (is_taken (take p list) u) new old) new (λ w t i. cond (all w t i) (new w) (old w))))
      ∙ sym (are_new u n))
      (empty_or_not us)

  -- with its change, the table of such a view is the new one, as long as it is not installed
  pub change_done : (p : ℕ) (s : State) → Stands shape views list old new p s → (u : ℕ) → is_new list p u ≡ false
      → ((w : ℕ) → has (children_of shape u) w ≡ true → is_taken (take p list) u w ≡ true) → sum_of (s.tables u) (change_in (graph shape views) changes s u) ≡ new u
  change_done p s st u out all =
      let is_old : s.tables u ≡ old u = st.tables u ∙ (λ i. cond (out i) (new u) (old u)) in
      (λ i. sum_of (is_old i) (if_base (children_of shape u) (changes u) (change_of (views u).kind (is_old i) (s.pending u)))) ∙ complete p s st u all

  after_inst : (p v : ℕ) (s : State) → At list p (Inst v) → Stands shape views list old new p s → Stands shape views list old new (suc p) (step (graph shape views) changes (Inst v) s)
  after_inst p v s at st = record {
    tables = λ u. elim (eqb v u) as (λ t. eqb v u ≡ t → cond t (sum_of (s.tables v) (change_in (graph shape views) changes s v)) (s.tables u) ≡ cond (t || is_new list p u) (new u) (old u)) [
      | true ↦ λ t. change_done p s st v (inst_is_first shape list ok p v at) (inst_after_comps shape list ok p v at) ∙ ap new (eqb-true v u t)
      | false ↦ λ t. st.tables u
    ] refl ∙ (λ i. cond (sym (new_next list p (Inst v) u at) i) (new u) (old u));
    pending = λ w n j. st.pending w n j ∙ (λ i. value (column (views w) j) (map (λ u. cond (sym (taken_next list p (Inst v) w u at) i) (new u) (old u)) (children_of shape w)));
  }

  after_comp : (p v : ℕ) (ys : List ℕ) (s : State) → At list p (Comp v ys) → Stands shape views list old new p s → Stands shape views list old new (suc p) (step (graph shape views) changes (Comp v ys) s)
  after_comp p v ys s at st =
      let us : List ℕ = children_of shape v in
      let may = ok.allowed p v ys at in
      let f : ℕ → Fold = λ j. column (views v) j in
      let change : ℕ → Bag = change_in (graph shape views) changes s in
      let added : ℕ → Bag = λ j. comp (f j) us ys s.tables change in
      let now : ℕ → Bool = is_taken (take p list) v in
      let here : (u : ℕ) → has us u ≡ true → s.tables u ≡ mixed now new old u = λ u m. st.tables u ∙ (λ i. cond (sym (taken_is_new shape list ok p v ys at u m) i) (new u) (old u)) in
      let are_changed : (y : ℕ) → has ys y ≡ true → new y ≡ sum_of (s.tables y) (change y) = λ y m. sym (change_done p s st y (source_is_old shape list ok p v ys at y m) (source_after_comps shape list ok p v ys at y m)) in
      let main : (j : ℕ) → sum_of (value (f j) (map old us)) (sum_of (s.pending v j) (added j)) ≡ value (f j) (map (λ u. cond (has ys u || now u) (new u) (old u)) us) = λ j.
      sum_assoc (value (f j) (map old us)) (s.pending v j) (added j)
      ∙ ap (λ x. sum_of x (added j)) (st.pending v (not_empty ys us may.1 may.3) j ∙ ap (value (f j)) (sym (same_tables us s.tables (mixed now new old) here)))
      ∙ sym (value_step (f j) us ys (isg.distinct v) may.2 may.3 s.tables change new are_changed)
      ∙ ap (value (f j)) (same_tables us (at_set ys new s.tables) (λ u. cond (has ys u || now u) (new u) (old u)) (λ u m. ap (cond (has ys u) (new u)) (here u m) ∙ nested (has ys u) (now u) (new u) (old u))) in
      record {
        tables = λ u. st.tables u ∙ (λ i. cond (sym (new_next list p (Comp v ys) u at) i) (new u) (old u));
        pending = λ w n j. elim (eqb v w) as (λ t. eqb v w ≡ t → sum_of (value (column (views w) j) (map old (children_of shape w))) (cond t (λ k. sum_of (s.pending v k) (added k)) (s.pending w) j)
            ≡ value (column (views w) j) (map (λ u. cond ((t && has ys u) || is_taken (take p list) w u) (new u) (old u)) (children_of shape w))) [
              | true ↦ λ t. let P : ℕ → Type 0 = λ x. sum_of (value (column (views x) j) (map old (children_of shape x))) (sum_of (s.pending v j) (added j)) ≡ value (column (views x) j) (map (λ u. cond (has ys u || is_taken (take p list) x u) (new u) (old u)) (children_of shape x)) in subst P (eqb-true v w t) (main j)
              | false ↦ λ t. st.pending w n j
            ] refl ∙ (λ i. value (column (views w) j) (map (λ u. cond (sym (taken_next list p (Comp v ys) w u at) i) (new u) (old u)) (children_of shape w)));
      }

  pub stands_at : (p : ℕ) → p ≤ length list → Stands shape views list old new p (before (graph shape views) changes list old p)
  unfolding carried is_new
  stands_at zero l = record {
    tables = λ u. refl;
    pending = λ v n j. sum-empty (value (column (views v) j) (map old (children_of shape v)));
  }
  stands_at (suc p) l =
      let r = there list p (omega arith) in
      subst (Stands shape views list old new (suc p)) (sym (before_next (graph shape views) changes list old p r.0 r.1)) (next p r.0 r.1 (stands_at p (omega arith)))
    where
      next : (p : ℕ) (e : Expression) → At list p e → Stands shape views list old new p (before (graph shape views) changes list old p)
          → Stands shape views list old new (suc p) (step (graph shape views) changes e (before (graph shape views) changes list old p))
      next p (Comp v ys) at st = after_comp p v ys (before (graph shape views) changes list old p) at st
      next p (Inst v) at st = after_inst p v (before (graph shape views) changes list old p) at st

  -- at its end all tables are new
  pub ends : (v : ℕ) → v < length shape → tables_after (graph shape views) changes list old v ≡ new v
  ends v l =
      let i = ok.an_inst v l in
      ap (λ l. (carried (graph shape views) changes l (at_first old)).tables v) (sym (take_whole list))
      ∙ (stands_at (length list) (omega arith)).tables v
      ∙ (λ k. cond (new_after list (length list) i.0 v i.1 (place_within list i.0 (Inst v) i.1) k) (new v) (old v))

pub strategies_end_in_views : StrategiesEndInViews
strategies_end_in_views = λ catalog list tables changes is ok base_tables are_old v l.
    let g : ViewGraph = graph_of catalog in
    let isg : IsViewGraph g = catalogs_are_graphs catalog is in
    let new : ℕ → Bag = contents g (changed tables changes) in
    let whole = contents_are_values g (changed tables changes) isg in
    ends catalog.views.children g.views list tables new changes isg ok are_old whole.values (values_are_tables g tables isg base_tables are_old) (λ b e. sym (whole.bases b e)) v l
