-- What comes before the first turn of a night: Insts of base views, which are passed where the base changes are allowed.
use Rattle.std.proofs.Common.{◌≡◌, refl, sym, ap, ◌∙◌, subst, ℕ, ◌+◌, ◌<◌, List, [], ◌∷◌, length, true, false, arith, cond}
use Rattle.std.proofs.lemmas.Bool.{false≢true}
use Rattle.std.proofs.lemmas.List.FromFn.{get_or-range_with_len, length-range_with_len}
use Rattle.wh_dag.specs.Catalog.{is_base, is_empty}
use Rattle.wh_dag.specs.Shape.{children_of, has}
use Rattle.wh_dag.proofs.Members.{has-head}
use Rattle.wh_strategy.specs.declared.expression.Expression.{Expression}
use Rattle.wh_strategy.specs.declared.expression.Expression.TheVariants.{Comp, Inst}
use Rattle.wh_strategy.specs.Expression.{At, is_new}
use Rattle.wh_strategy.specs.Rules.{IsCorrect}
use Rattle.wh_strategy.proofs.Found.{old_before}
use Rattle.wh_row.specs.Bag.{SumFits}
use Rattle.wh_maint.specs.Contents.{if_base}
use Rattle.wh_maint.specs.Definition.{graph_of}
use Rattle.wh_maint.specs.Summary.{change_of}
use Rattle.wh_maint.specs.View.{ViewGraph}
use Rattle.wh_carry.specs.Carry.{State, change_in, tables_after}
use Rattle.wh_carry.specs.Refused.{IsOf, IsRuledOut, Reason, RowIsLacking, BaseIsLarge, ChangeIsLarge, ChangeHasNoValue, CompIsLarge, CompMeetsNoValue, PendingIsLarge, TableIsLarge}
use Rattle.wh_carry.proofs.Prefixes.{place_within}
use Rattle.wh_carry.proofs.StepRows.{table_at}
use Rattle.wh_carry.specs.Night.{Night, ArePassedAt, IsPassedAt, places_from, state_at, AreAllowed}
use Rattle.wh_carry.specs.Legs.{Leg, Wave, Page, carried_up_to, legs_of, turn_of, untouched}
use Rattle.wh_core.specs.Laws.{IsCompAt}
use Rattle.wh_core.proofs.Legs.{Covers, are_covered}
use Rattle.wh_core.proofs.Underway.{come_to, reach_is}

-- no Comp stands before the first leg
none_before : (list : List Expression) (end : ℕ) (legs : List Leg) → Covers list 0 legs → (p : ℕ) → p < come_to end legs → ¬ (IsCompAt list p)
none_before list end [] c p l = c p (omega arith)
none_before list end (Wave place jobs ∷ legs) c p l = c.0 p (omega arith) l
none_before list end (Page place view rows ∷ legs) c p l = c.0 p (omega arith) (omega (arith, l))

-- up to where a night is carried out with its Begin
abbrev first_turn : Night → ℕ
first_turn n = come_to (length n.list) (legs_of n)

module _ (n : Night) (ok : IsCorrect n.catalog.views.children n.list) (allowed : AreAllowed n) where
  no_comp : (p : ℕ) → p < first_turn n → ¬ (IsCompAt n.list p)
  no_comp p l = none_before n.list (length n.list) (legs_of n) (are_covered n) p l

  -- a derived view's Inst stands behind a Comp of it
  of_base : (p v : ℕ) → p < first_turn n → At n.list p (Inst v) → children_of n.catalog.views.children v ≡ []
  of_base p v l at = by (children_of n.catalog.views.children v) refl
    where
      by : (us : List ℕ) → children_of n.catalog.views.children v ≡ us → us ≡ []
      by [] e = refl
      by (u ∷ us) e =
          let child : has (children_of n.catalog.views.children v) u ≡ true = subst (λ ws. has ws u ≡ true) (sym e) (has-head u us) in
          let r = ok.each v u child in
          let earlier : r.0 < p = ok.own_inst r.0 p v r.1 r.2 at in
          absurd (no_comp r.0 (omega (arith, earlier, l)) (v, r.1, r.2))

  base : (p v : ℕ) → p < first_turn n → At n.list p (Inst v) → is_base n.catalog v ≡ true
  base p v l at = ap is_empty (of_base p v l at)

  -- its table and its change are those that the night began with
  table_there : (p v : ℕ) → At n.list p (Inst v) → (state_at n p).tables v ≡ n.tables v
  table_there p v at =
      let inside : p < length n.list = place_within n.list p (Inst v) at in
      let old : is_new n.list p v ≡ false = old_before n.list p v (λ q other. let same : q ≡ p = ok.one_inst q p v other at in omega (arith, same)) in
      let g : ViewGraph = graph_of n.catalog in
      table_at n.catalog.views.children g.views n.list n.tables n.changes ok p v (omega (arith, inside)) (ok.views p v at)
      ∙ ap (λ b. cond b (tables_after g n.changes n.list n.tables v) (n.tables v)) old

  change_there : (p v : ℕ) → p < first_turn n → At n.list p (Inst v) → change_in (graph_of n.catalog) n.changes (state_at n p) v ≡ n.changes v
  change_there p v l at =
      let g : ViewGraph = graph_of n.catalog in
      let s : State = state_at n p in
      ap (λ us. if_base us (n.changes v) (change_of (g.views v).kind (s.tables v) (s.pending v))) (of_base p v l at)

  fits_there : (p v : ℕ) → p < first_turn n → At n.list p (Inst v) → SumFits ((state_at n p).tables v) (change_in (graph_of n.catalog) n.changes (state_at n p) v)
  fits_there p v l at =
      let first : SumFits (n.tables v) (n.changes v) = allowed (BaseIsLarge v) (ok.views p v at, base p v l at) in
      subst (λ table. SumFits table (change_in (graph_of n.catalog) n.changes (state_at n p) v)) (sym (table_there p v at))
      (subst (λ change. SumFits (n.tables v) change) (sym (change_there p v l at)) first)

  inst_passes : (p v : ℕ) → p < first_turn n → At n.list p (Inst v) → (reason : Reason) → IsOf (Inst v) reason → IsRuledOut n.catalog n.changes (state_at n p) reason
  inst_passes p v l at (ChangeIsLarge u) e = λ derived. absurd (false≢true (sym derived ∙ ap (is_base n.catalog) e ∙ base p v l at))
  inst_passes p v l at (ChangeHasNoValue u) e = λ derived. absurd (false≢true (sym derived ∙ ap (is_base n.catalog) e ∙ base p v l at))
  inst_passes p v l at (TableIsLarge u) e =
      subst (λ w. SumFits ((state_at n p).tables w) (change_in (graph_of n.catalog) n.changes (state_at n p) w)) (sym e) (fits_there p v l at)
  inst_passes p v l at (RowIsLacking b) e = absurd e
  inst_passes p v l at (BaseIsLarge b) e = absurd e
  inst_passes p v l at (CompIsLarge w ys) e = absurd e
  inst_passes p v l at (CompMeetsNoValue w ys) e = absurd e
  inst_passes p v l at (PendingIsLarge w ys) e = absurd e

  passes : (p : ℕ) → p < first_turn n → (e : Expression) → At n.list p e → (reason : Reason) → IsOf e reason → IsRuledOut n.catalog n.changes (state_at n p) reason
  passes p l (Comp v ys) at reason of = absurd (no_comp p l (v, ys, at))
  passes p l (Inst v) at reason of = inst_passes p v l at reason of

  -- so a night whose base changes are allowed begins
  pub first_passed : ArePassedAt n (places_from 0 (carried_up_to n (turn_of (untouched (legs_of n)))))
  first_passed =
      let end : ℕ = carried_up_to n (turn_of (untouched (legs_of n))) in
      let same : end ≡ first_turn n = reach_is n (legs_of n) 0 in
      λ k d l.
      let small : k < end = subst (λ m. k < m) (length-range_with_len 0 end) l in
      subst (IsPassedAt n) (sym (get_or-range_with_len 0 end k d small)) (passes (0 + k) (omega (arith, same, small)))
