-- What a night publishes: the operations on the store that carry a strategy out.
use Rattle.std.specs.Prelude.{◌≡◌, ℕ, zero, suc, List, [], ◌∷◌, ◌++◌, map, length, take, drop, ◌≤◌}
use Rattle.wh_strategy.specs.declared.expression.Expression.{Expression}
use Rattle.wh_strategy.specs.declared.expression.Expression.TheVariants.{Comp, Inst}
use Rattle.wh_strategy.specs.Expression.{At}
use Rattle.wh_row.specs.Bag.{Bag, count, sum_of, written}
use Rattle.wh_row.specs.Weigh.{Counted}
use Rattle.wh_dag.specs.Catalog.{CatalogOf}
use Rattle.wh_maint.specs.View.{ViewGraph}
use Rattle.wh_maint.specs.Definition.{graph_of}
use Rattle.wh_store.specs.Operations.{Operation, Opens, Writes, Commits, Gives_up}
use Rattle.wh_carry.specs.Carry.{State, at_first, before, change_in, step}
use Rattle.wh_carry.specs.Refused.{HasValueAt, HaveValuesBelow}

-- the rows of a change in rising order, each with its count in this table
abbrev pub counts_in : Bag → Bag → Counted
counts_in table change = map (λ e. (e.0, count table e.0)) (written change)

-- the rows of a change in rising order, each with its count in the table that has the change: 0 for a row that leaves
abbrev pub new_counts : Bag → Bag → Counted
new_counts table change = counts_in (sum_of table change) change

-- rows cut into pages of this many, the last one perhaps shorter; at most so many pages
abbrev pub pages_within : ℕ → ℕ → Counted → List Counted
pages_within zero keys rows = []
pages_within (suc n) keys [] = []
pages_within (suc n) keys (e ∷ es) = take keys (e ∷ es) ∷ pages_within n keys (drop keys (e ∷ es))

-- all rows, cut into pages of this many
abbrev pub pages_of : ℕ → Counted → List Counted
pages_of keys rows = pages_within (length rows) keys rows

-- the new counts of a view's change, by pages
abbrev pub inst_pages : ViewGraph → (ℕ → Bag) → ℕ → State → ℕ → List Counted
inst_pages g changes keys s v = pages_of keys (new_counts (s.tables v) (change_in g changes s v))

-- what an expression publishes: a Comp nothing, an Inst its view's new counts
abbrev pub puts_at : ViewGraph → (ℕ → Bag) → ℕ → State → Expression → List Operation
puts_at g changes keys s (Comp v ys) = []
puts_at g changes keys s (Inst v) = map (Writes v) (inst_pages g changes keys s v)

-- what the expressions of a list publish, one after another
unfoldable pub puts_of : ViewGraph → (ℕ → Bag) → ℕ → List Expression → State → List Operation
puts_of g changes keys [] s = []
puts_of g changes keys (e ∷ list) s = puts_at g changes keys s e ++ puts_of g changes keys list (step g changes e s)

-- what a night publishes up to this place of its list
abbrev pub night_below : ViewGraph → (ℕ → Bag) → ℕ → List Expression → (ℕ → Bag) → ℕ → List Operation
night_below g changes keys list tables place = Opens ∷ puts_of g changes keys (take place list) (at_first tables)

-- the night list: all that a night publishes. Where carrying out has no value at an expression, the list ends before it, without a commit
pub data IsNightList (catalog : CatalogOf) (list : List Expression) (tables changes : ℕ → Bag) (keys : ℕ) : List Operation → Type 0 where
  whole : HaveValuesBelow catalog list tables changes (length list)
      → IsNightList catalog list tables changes keys (night_below (graph_of catalog) changes keys list tables (length list) ++ Commits ∷ [])
  ends_before : (place : ℕ) (e : Expression) → At list place e → HaveValuesBelow catalog list tables changes place → ¬ (HasValueAt catalog changes (before (graph_of catalog) changes list tables place) e)
      → IsNightList catalog list tables changes keys (night_below (graph_of catalog) changes keys list tables place)

-- a beginning of the night list, without its commit: what it publishes up to a place below which each expression has a value begins so
pub record IsBeginning (catalog : CatalogOf) (list : List Expression) (tables changes : ℕ → Bag) (keys : ℕ) (ops : List Operation) : Type 0 where
  pub place : ℕ
  pub within : place ≤ length list
  pub values : HaveValuesBelow catalog list tables changes place
  pub rest : List Operation
  pub begins : night_below (graph_of catalog) changes keys list tables place ≡ ops ++ rest

-- a cut night: a beginning of the night list, its Begin at least, and then a give-up
pub record IsCutNight (catalog : CatalogOf) (list : List Expression) (tables changes : ℕ → Bag) (keys : ℕ) (ops : List Operation) : Type 0 where
  pub puts : List Operation
  pub beginning : IsBeginning catalog list tables changes keys (Opens ∷ puts)
  pub cut : ops ≡ Opens ∷ puts ++ Gives_up ∷ []
