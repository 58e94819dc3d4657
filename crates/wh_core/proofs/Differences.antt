-- What the Inst of a view installs is what its new table has otherwise than its old one.
use Rattle.std.proofs.Common.{◌≡◌, refl, sym, ap, ◌∙◌, subst, ℕ, ◌<◌, ◌≤◌, List, [], length, arith, ℤ, ◌+ℤ◌, true, false, cond}
use lib.IntN.{+ℤ_comm}
use Rattle.std.specs.Prelude.{◌-ℤ◌}
use Rattle.std.proofs.Math.IntN.{+ℤ-neg_ℤ_cancel}
use Rattle.wh_dag.specs.Shape.{children_of}
use Rattle.wh_dag.specs.Catalog.{CatalogOf, IsCatalog}
use Rattle.wh_strategy.specs.declared.expression.Expression.{Expression}
use Rattle.wh_strategy.specs.declared.expression.Expression.TheVariants.{Comp, Inst}
use Rattle.wh_strategy.specs.Expression.{At, is_new}
use Rattle.wh_strategy.specs.Rules.{IsCorrect}
use Rattle.wh_row.specs.Row.{Row}
use Rattle.wh_row.specs.Bag.{Bag, count, difference_of, sum_of}
use Rattle.wh_row.proofs.BagLaws.{count-difference_of, count-sum_of, same_bag}
use Rattle.wh_maint.specs.Comp.{bag_at}
use Rattle.wh_maint.specs.Contents.{AreContents, AreContentsOf}
use Rattle.wh_maint.specs.Definition.{graph_of}
use Rattle.wh_maint.specs.Laws.{changed}
use Rattle.wh_maint.specs.View.{ViewGraph, IsViewGraph}
use Rattle.wh_maint.proofs.FromScratch.{catalogs_are_graphs, values_are_tables}
use Rattle.wh_store.specs.Pages.{Contents}
use Rattle.wh_carry.specs.Carry.{State, at_first, before, change_in}
use Rattle.wh_carry.proofs.Prefixes.{inst_after_comps, inst_is_first, place_within}
use Rattle.wh_carry.proofs.Stands.{change_done, stands_at}
use Rattle.wh_core.proofs.Counts.{AreDifferences}

less : (a b : ℤ) → (a +ℤ b) -ℤ a ≡ b
less a b = ap (λ n. n -ℤ a) (+ℤ_comm a b) ∙ +ℤ-neg_ℤ_cancel b a

-- what is left of a sum without its first part is the other
other_part : (a b : Bag) → difference_of (sum_of a b) a ≡ b
other_part a b = same_bag (difference_of (sum_of a b) a) b
    (λ q. count-difference_of (sum_of a b) a q ∙ ap (λ n. n -ℤ count a q) (count-sum_of a b q) ∙ less (count a q) (count b q))

module _ (catalog : CatalogOf) (list : List Expression) (old new : Contents) (changes : ℕ → Bag) (is : IsCatalog catalog) (ok : IsCorrect catalog.views.children list)
    (begun : AreContents (graph_of catalog) (bag_at old)) (made : AreContentsOf (graph_of catalog) (changed (bag_at old) changes) (bag_at new)) where
  abbrev g : ViewGraph
  g = graph_of catalog

  abbrev shape : List (List ℕ)
  shape = catalog.views.children

  whole : (p v : ℕ) → At list p (Inst v) → sum_of (bag_at old v) (change_in g changes (before g changes list (bag_at old) p) v) ≡ bag_at new v
  whole p v at =
      let isg : IsViewGraph g = catalogs_are_graphs catalog is in
      let s : State = before g changes list (bag_at old) p in
      let nonneg = values_are_tables g (bag_at old) isg begun.counts begun.values in
      let bases : (b : ℕ) → children_of shape b ≡ [] → sum_of (bag_at old b) (changes b) ≡ bag_at new b = λ b e. sym (made.bases b e) in
      let inside = place_within list p (Inst v) at in
      let st = stands_at shape g.views list (bag_at old) (bag_at new) changes isg ok begun.values made.values nonneg bases p (omega (arith, inside)) in
      let out = inst_is_first shape list ok p v at in
      let there : s.tables v ≡ bag_at old v = st.tables v ∙ ap (λ b. cond b (bag_at new v) (bag_at old v)) out in
      ap (λ t. sum_of t (change_in g changes s v)) (sym there)
      ∙ change_done shape g.views list (bag_at old) (bag_at new) changes isg ok begun.values made.values nonneg bases p s st v out (inst_after_comps shape list ok p v at)

  pub are_differences : AreDifferences g changes old new list (at_first (bag_at old))
  are_differences p v at =
      let c : Bag = change_in g changes (before g changes list (bag_at old) p) v in
      sym (other_part (bag_at old v) c) ∙ ap (λ t. difference_of t (bag_at old v)) (whole p v at)
