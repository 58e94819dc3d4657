-- When what the code keeps agrees with the definition before a place.
use Rattle.std.specs.Prelude.{◌≡◌, ℕ, suc, ◌<◌, true, false, List, length}
use Rattle.wh_dag.specs.Catalog.{CatalogOf, is_base}
use Rattle.wh_strategy.specs.declared.expression.Expression.{Expression}
use Rattle.wh_strategy.specs.declared.expression.Expression.TheVariants.{Inst}
use Rattle.wh_strategy.specs.Expression.{At, is_new}
use Rattle.wh_row.specs.Bag.{Bag, difference_of}
use Rattle.wh_maint.specs.View.{sums_of}
use Rattle.wh_maint.specs.Definition.{graph_of}
use Rattle.wh_maint.specs.Comp.{bag_at}
use Rattle.wh_maint.specs.Finishing.{kind_in}
use Rattle.wh_carry.specs.Carry.{State, before, tables_after}
use Rattle.wh_carry.specs.Kept.{Kept}
use Rattle.wh_carry.specs.Inner.Reasons.{CanBeFinished}

-- what the view gains in the night
abbrev pub gain : CatalogOf → (ℕ → Bag) → List Expression → (ℕ → Bag) → ℕ → Bag
gain catalog changes list old u = difference_of (tables_after (graph_of catalog) changes list old u) (old u)

pub record Agrees (catalog : CatalogOf) (list : List Expression) (old given : ℕ → Bag) (p : ℕ) (s : State) (k : Kept) : Type 0 where
  pub tables : (u : ℕ) → k.tables u ≡ s.tables u
  pub pending : (v : ℕ) → v < length catalog.views.children → (j : ℕ) → bag_at (k.pending v) j ≡ s.pending v j
  pub long : (v : ℕ) → v < length catalog.views.children → length (k.pending v) ≡ suc (sums_of (kind_in catalog v))
  pub known : (v : ℕ) → v < length catalog.views.children → k.known v ≡ true → k.changes v ≡ gain catalog given list old v
  pub unknown : (v : ℕ) → v < length catalog.views.children → k.known v ≡ false → (is_base catalog v ≡ false) × (is_new list p v ≡ false)

-- each change that is known could be made where its Inst stands
abbrev pub AreTold : CatalogOf → List Expression → (ℕ → Bag) → (ℕ → Bag) → Kept → Type 0
AreTold catalog list old given k = (q v : ℕ) → At list q (Inst v) → k.known v ≡ true → CanBeFinished catalog (before (graph_of catalog) given list old q) v
