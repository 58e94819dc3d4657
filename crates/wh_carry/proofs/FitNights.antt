-- The contents of a base are fit for a night.
use Rattle.std.proofs.Common.{ℕ, ◌≤◌, sym, subst, ◌∙◌, ℤ, pos, negsuc, ◌+ℤ◌, Bool, true, false, cond, List, length, ⊎_elim, arith}
use Rattle.std.specs.Prelude.{◌≤ℤ◌}
use Rattle.std.proofs.lemmas.Int.{ints}
use Rattle.std.proofs.lemmas.Bool.{cases_lt}
use Rattle.wh_strategy.specs.declared.expression.Expression.{Expression}
use Rattle.wh_strategy.specs.Expression.{is_new}
use Rattle.wh_row.specs.Bag.{Bag, IsTable, sum_of, count}
use Rattle.wh_row.proofs.BagLaws.{count-sum_of}
use Rattle.wh_maint.specs.View.{ViewGraph, IsViewGraph, Kind}
use Rattle.wh_maint.specs.Laws.{changed}
use Rattle.wh_maint.specs.Fit.{IsFitTable}
use Rattle.wh_maint.specs.Refused.{NoneAbsent}
use Rattle.wh_maint.specs.Definition.{graph_of}
use Rattle.wh_maint.specs.Contents.{contents}
use Rattle.wh_maint.proofs.FromScratch.{contents_are_values, contents_are_fit, values_are_tables, catalogs_are_graphs}
use Rattle.wh_carry.specs.Carry.{at_first, carried, before}
use Rattle.wh_carry.specs.Laws.{ContentsAreFitForNights}
use Rattle.wh_carry.proofs.Prefixes.{take_past, take_whole}
use Rattle.wh_carry.proofs.Stands.{Stands, stands_at}

not_below : (n : ℤ) → ¬ (n ≤ℤ negsuc 0) → pos 0 ≤ℤ n
not_below n h = grind (arith, ints, h)

-- a base that takes no row below zero is changed to tables
pub changed_table : (table change : Bag) → NoneAbsent table change → IsTable (sum_of table change)
changed_table table change none row = subst (λ n. pos 0 ≤ℤ n) (sym (count-sum_of table change row)) (not_below (count table row +ℤ count change row) (none row))

either_fits : (k : Kind) (t : Bool) (a b : Bag) → IsFitTable k a → IsFitTable k b → IsFitTable k (cond t a b)
either_fits k true a b x y = x
either_fits k false a b x y = y

-- past the end nothing changes any more
pub before_or_end : (g : ViewGraph) (changes : ℕ → Bag) (list : List Expression) (tables : ℕ → Bag) (P : (ℕ → Bag) → Type 0)
    → ((p : ℕ) → p ≤ length list → P (before g changes list tables p).tables) → (p : ℕ) → P (before g changes list tables p).tables
before_or_end g changes list tables P h p =
    ⊎_elim
    (λ l. subst (λ l. P (carried g changes l (at_first tables)).tables) (take_whole list ∙ sym (take_past list p (omega arith))) (h (length list) (omega arith)))
    (λ l. h p l)
    (cases_lt (length list) p)

pub contents_are_fit_for_nights : ContentsAreFitForNights
contents_are_fit_for_nights = λ catalog list tables changes is ok base_tables are_old.
    let g : ViewGraph = graph_of catalog in
    let isg : IsViewGraph g = catalogs_are_graphs catalog is in
    let new : ℕ → Bag = contents g (changed tables changes) in
    let whole = contents_are_values g (changed tables changes) isg in
    let old_fit : (v : ℕ) → IsFitTable (g.views v).kind (tables v) = contents_are_fit g tables isg base_tables are_old in
    record {
      now = old_fit;
      later = λ allowed place values. before_or_end g changes list tables (λ ts. (v : ℕ) → IsFitTable (g.views v).kind (ts v)) (λ p l v.
          let st : Stands catalog.views.children g.views list tables new p (before g changes list tables p) =
          stands_at catalog.views.children g.views list tables new changes isg ok are_old whole.values (values_are_tables g tables isg base_tables are_old) (λ b e. sym (whole.bases b e)) p l in
          let new_fit : (v : ℕ) → IsFitTable (g.views v).kind (new v) =
          contents_are_fit g new isg (λ b e. subst IsTable (sym (whole.bases b e)) (changed_table (tables b) (changes b) (allowed.none_absent b e))) whole.values in
          subst (IsFitTable (g.views v).kind) (sym (st.tables v)) (either_fits (g.views v).kind (is_new list p v) (new v) (tables v) (new_fit v) (old_fit v))) place;
    }
