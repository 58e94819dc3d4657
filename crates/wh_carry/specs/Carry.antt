-- Carrying out: what a list of expressions makes of the tables.
use Rattle.std.specs.Prelude.{ℕ, cond, ◌==◌, List, [], ◌∷◌, take}
use Rattle.wh_strategy.specs.declared.expression.Expression.{Expression}
use Rattle.wh_strategy.specs.declared.expression.Expression.TheVariants.{Comp, Inst}
use Rattle.wh_row.specs.Bag.{Bag, sum_of, empty}
use Rattle.wh_maint.specs.View.{ViewGraph, column}
use Rattle.wh_maint.specs.Summary.{change_of}
use Rattle.wh_maint.specs.Comp.{comp}
use Rattle.wh_maint.specs.Contents.{if_base}

-- the tables, and what the Comps of each view have added so far to each of its columns
pub record State : Type 0 where
  pub tables : ℕ → Bag
  pub pending : ℕ → ℕ → Bag

-- the old tables, and nothing added
abbrev pub at_first : (ℕ → Bag) → State
at_first tables = record { tables = tables; pending = λ v j. empty }

-- the change of a view: of a base view the one that the night brings, of a derived view what its pending columns make different in its table
abbrev pub change_in : ViewGraph → (ℕ → Bag) → State → ℕ → Bag
change_in g changes s v = if_base (g.children v) (changes v) (change_of (g.views v).kind (s.tables v) (s.pending v))

-- one value for the view, and for each other view what it had
abbrev pub with_at : {A : Type 0} → ℕ → A → (ℕ → A) → ℕ → A
with_at v x f u = cond (v == u) x (f u)

-- a Comp adds its value, column by column, to what is pending of its view; an Inst adds the view's change to its table
abbrev pub step : ViewGraph → (ℕ → Bag) → Expression → State → State
step g changes (Comp v ys) s = record {
  tables = s.tables;
  pending = with_at v (λ j. sum_of (s.pending v j) (comp (column (g.views v) j) (g.children v) ys s.tables (change_in g changes s))) s.pending;
}
step g changes (Inst v) s = record {
  tables = with_at v (sum_of (s.tables v) (change_in g changes s v)) s.tables;
  pending = s.pending;
}

-- the state that the expressions of a list make, one after another
unfoldable pub carried : ViewGraph → (ℕ → Bag) → List Expression → State → State
carried g changes [] s = s
carried g changes (e ∷ list) s = carried g changes list (step g changes e s)

-- what a list has made of the tables before its expression at this place
abbrev pub before : ViewGraph → (ℕ → Bag) → List Expression → (ℕ → Bag) → ℕ → State
before g changes list tables place = carried g changes (take place list) (at_first tables)

-- the tables that a whole list makes of these
abbrev pub tables_after : ViewGraph → (ℕ → Bag) → List Expression → (ℕ → Bag) → ℕ → Bag
tables_after g changes list tables = (carried g changes list (at_first tables)).tables
