-- Contents that a night can be carried out from.
use Rattle.std.specs.Prelude.{◌≡◌, ℕ, ◌<◌, List, [], length}
use Rattle.wh_strategy.specs.declared.expression.Expression.{Expression}
use Rattle.wh_row.specs.Bag.{Bag, SumFits}
use Rattle.wh_maint.specs.View.{ViewGraph}
use Rattle.wh_maint.specs.Definition.{graph_of}
use Rattle.wh_maint.specs.Fit.{IsFitTable, HasGroups}
use Rattle.wh_maint.specs.Refused.{NoneAbsent}
use Rattle.wh_dag.specs.Catalog.{CatalogOf}
use Rattle.wh_maint.specs.Comp.{bag_at}
use Rattle.wh_maint.specs.Finishing.{kind_in}
use Rattle.wh_carry.specs.Carry.{before}
use Rattle.wh_carry.specs.Refused.{HaveValuesBelow}

-- each table is fit, of base views too
abbrev pub AreFit : ViewGraph → (ℕ → Bag) → Type 0
AreFit g tables = (v : ℕ) → IsFitTable (g.views v).kind (tables v)

-- no base change is refused: it takes of no row more than there is, and no count leaves i64
pub record AreChangesAllowed (g : ViewGraph) (changes tables : ℕ → Bag) : Type 0 where
  pub none_absent : (b : ℕ) → g.children b ≡ [] → NoneAbsent (tables b) (changes b)
  pub counts_fit : (b : ℕ) → g.children b ≡ [] → SumFits (tables b) (changes b)

-- the tables are fit, and unless a base change is refused, each change that the list makes leaves them so, up to the first expression without a value
pub record AreFitFor (catalog : CatalogOf) (changes : ℕ → Bag) (list : List Expression) (tables : ℕ → Bag) : Type 0 where
  pub now : AreFit (graph_of catalog) tables
  pub later : AreChangesAllowed (graph_of catalog) changes tables → (place : ℕ) → HaveValuesBelow catalog list tables changes place
      → AreFit (graph_of catalog) (before (graph_of catalog) changes list tables place).tables

-- each view of the catalogue has a fit table
abbrev pub AreFitTables : CatalogOf → List Bag → Type 0
AreFitTables catalog tables = (v : ℕ) → v < length catalog.views.children → IsFitTable (kind_in catalog v) (bag_at tables v)

-- a view of the catalogue is a summary whose table has rows
abbrev pub OneHasGroups : CatalogOf → List Bag → Type 0
OneHasGroups catalog tables = (v : ℕ) × (v < length catalog.views.children) × HasGroups (kind_in catalog v) (bag_at tables v)
