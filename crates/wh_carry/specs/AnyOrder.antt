-- Comps that stand side by side: they may be carried out in any order.
use Rattle.std.specs.Prelude.{◌≡◌, ◌↔◌, ℕ, ◌+◌, ◌<◌, false, List, ◌∷◌, ◌++◌, take, drop}
use Rattle.std.specs.List.Sorted.{IsPermutation}
use Rattle.wh_dag.specs.Shape.{has}
use Rattle.wh_dag.specs.Catalog.{CatalogOf, IsCatalog}
use Rattle.wh_strategy.specs.declared.expression.Expression.{Expression}
use Rattle.wh_strategy.specs.declared.expression.Expression.TheVariants.{Comp, Inst}
use Rattle.wh_strategy.specs.Expression.{At}
use Rattle.wh_strategy.specs.Rules.{IsCorrect}
use Rattle.wh_row.specs.Bag.{Bag, empty}
use Rattle.wh_maint.specs.declared.fault.MaintFault.{MaintFault}
use Rattle.wh_maint.specs.View.{ViewGraph, column}
use Rattle.wh_maint.specs.Comp.{comp}
use Rattle.wh_maint.specs.Definition.{graph_of}
use Rattle.wh_carry.specs.Carry.{State, before, carried, change_in}
use Rattle.wh_carry.specs.Refused.{Reason, IsRuledOut, IsOf, IsPassed, IsStepFault, HasValueAt}

-- these many expressions from this place on are Comps, none of them from a view that one of them computes
pub record AreSideBySide (list : List Expression) (place n : ℕ) : Type 0 where
  pub comps : (j : ℕ) → j < n → (v : ℕ) × (ys : List ℕ) × At list (place + j) (Comp v ys)
  pub apart : (j k v w : ℕ) (ys zs : List ℕ) → j < n → k < n → At list (place + j) (Comp v ys) → At list (place + k) (Comp w zs) → has ys w ≡ false

-- so many expressions of a list, from this place on
abbrev pub expressions_from : List Expression → ℕ → ℕ → List Expression
expressions_from list place n = take n (drop place list)

-- what a Comp adds in a column of its view; an Inst adds nothing there
abbrev pub added_at : ViewGraph → (ℕ → Bag) → State → Expression → ℕ → Bag
added_at g changes s (Comp v ys) j = comp (column (g.views v) j) (g.children v) ys s.tables (change_in g changes s)
added_at g changes s (Inst v) j = empty

-- an expression adds the same at two states, and is refused for the same reasons
pub record IsSameAt (catalog : CatalogOf) (changes : ℕ → Bag) (s t : State) (e : Expression) : Type 0 where
  pub adds : (j : ℕ) → added_at (graph_of catalog) changes s e j ≡ added_at (graph_of catalog) changes t e j
  pub ruled_out : (reason : Reason) → IsOf e reason → IsRuledOut catalog changes s reason ↔ IsRuledOut catalog changes t reason
  pub passed : IsPassed catalog changes s e ↔ IsPassed catalog changes t e
  pub refused : (fault : MaintFault) → IsStepFault catalog changes s e fault ↔ IsStepFault catalog changes t e fault
  pub has_value : HasValueAt catalog changes s e ↔ HasValueAt catalog changes t e

-- No two of them are of one view. Carried out in any order, they end in the state that the list has after them. When some of them are
-- done, each other one adds what it adds before them all, and is refused for the reasons that it has there
pub record IsFreeOfOrder (catalog : CatalogOf) (list : List Expression) (tables changes : ℕ → Bag) (place n : ℕ) : Type 0 where
  pub targets : (j k v : ℕ) (ys zs : List ℕ) → j < n → k < n → At list (place + j) (Comp v ys) → At list (place + k) (Comp v zs) → j ≡ k
  pub same_end : (order : List Expression) → IsPermutation (expressions_from list place n) order
      → carried (graph_of catalog) changes order (before (graph_of catalog) changes list tables place) ≡ before (graph_of catalog) changes list tables (place + n)
  pub amid : (done left : List Expression) (e : Expression) → IsPermutation (expressions_from list place n) (done ++ e ∷ left)
      → IsSameAt catalog changes (carried (graph_of catalog) changes done (before (graph_of catalog) changes list tables place)) (before (graph_of catalog) changes list tables place) e

-- Comps side by side in every correct list, from whatever tables, are free of order
abbrev pub WavesHaveNoOrder : Type 0
WavesHaveNoOrder =
    (catalog : CatalogOf) (list : List Expression) (tables changes : ℕ → Bag)
    → IsCatalog catalog → IsCorrect catalog.views.children list
    → (place n : ℕ) → AreSideBySide list place n → IsFreeOfOrder catalog list tables changes place n
