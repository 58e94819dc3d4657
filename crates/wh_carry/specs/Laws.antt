-- What holds of every correct strategy that is carried out.
use Rattle.std.specs.Prelude.{◌≡◌, ◌≢◌, ℕ, ◌<◌, ◌^◌, List, [], length}
use Rattle.wh_dag.specs.Shape.{children_of}
use Rattle.wh_dag.specs.Catalog.{CatalogOf, IsCatalog}
use Rattle.wh_strategy.specs.declared.expression.Expression.{Expression}
use Rattle.wh_strategy.specs.declared.expression.Expression.TheVariants.{Comp, Inst}
use Rattle.wh_strategy.specs.Expression.{At}
use Rattle.wh_strategy.specs.Rules.{IsCorrect}
use Rattle.wh_row.specs.Bag.{Bag, size}
use Rattle.wh_maint.specs.declared.fault.MaintFault.TheVariants.{Memory}
use Rattle.wh_maint.specs.Laws.{changed}
use Rattle.wh_maint.specs.Size.{HaveTooMany, operand_rows_of}
use Rattle.wh_maint.specs.Definition.{graph_of}
use Rattle.wh_maint.specs.View.{ViewGraph}
use Rattle.wh_maint.specs.Contents.{AreBaseTables, AreContents, AreValues, HasContents, HaveValuesOver, contents}
use Rattle.wh_carry.specs.Carry.{State, before, change_in, tables_after}
use Rattle.wh_carry.specs.Fit.{AreFitFor}
use Rattle.wh_carry.specs.Steps.{rows_at}
use Rattle.wh_carry.specs.declared.report.CarryFault.{CarryFault}
use Rattle.wh_carry.specs.Refused.{AreAllowedBelow, ArePassedBelow, HasValueAt, HaveValuesBelow, IsNightFault, IsPassed}

-- Every correct strategy, one-way or not, carried out from the contents of a base. Where the changed base has tables and each expression
-- has a value, the changed base has contents. Each view's table at the end is the one that it has there
abbrev pub StrategiesEndInContents : Type 0
StrategiesEndInContents =
    (catalog : CatalogOf) (list : List Expression) (tables changes : ℕ → Bag)
    → IsCatalog catalog → IsCorrect catalog.views.children list
    → AreContents (graph_of catalog) tables
    → AreBaseTables (graph_of catalog) (changed tables changes) → HaveValuesBelow catalog list tables changes (length list)
    → HasContents (graph_of catalog) (changed tables changes)
    × ((v : ℕ) → v < length catalog.views.children → tables_after (graph_of catalog) changes list tables v ≡ contents (graph_of catalog) (changed tables changes) v)

-- in the contents of the changed base each derived view has a value
abbrev pub NewContentsHaveValues : Type 0
NewContentsHaveValues =
    (catalog : CatalogOf) (list : List Expression) (tables changes : ℕ → Bag)
    → IsCatalog catalog → IsCorrect catalog.views.children list
    → AreContents (graph_of catalog) tables → HaveValuesBelow catalog list tables changes (length list)
    → HaveValuesOver (graph_of catalog) (contents (graph_of catalog) (changed tables changes))

-- from tables that the derived views make of their children's, with or without values, the strategy ends in such tables over the changed
-- base
abbrev pub StrategiesEndInViews : Type 0
StrategiesEndInViews =
    (catalog : CatalogOf) (list : List Expression) (tables changes : ℕ → Bag)
    → IsCatalog catalog → IsCorrect catalog.views.children list
    → AreBaseTables (graph_of catalog) tables → AreValues (graph_of catalog) tables
    → (v : ℕ) → v < length catalog.views.children
    → tables_after (graph_of catalog) changes list tables v ≡ contents (graph_of catalog) (changed tables changes) v

-- an expression that is passed has a value
abbrev pub PassedHaveValues : Type 0
PassedHaveValues = (catalog : CatalogOf) (changes : ℕ → Bag) (s : State) (e : Expression) → IsPassed catalog changes s e → HasValueAt catalog changes s e

-- tables that the derived views make of base tables are fit for every correct strategy and all changes, and so are the contents of a base
abbrev pub ContentsAreFitForNights : Type 0
ContentsAreFitForNights =
    (catalog : CatalogOf) (list : List Expression) (tables changes : ℕ → Bag)
    → IsCatalog catalog → IsCorrect catalog.views.children list
    → AreBaseTables (graph_of catalog) tables → AreValues (graph_of catalog) tables
    → AreFitFor catalog changes list tables

-- what a Comp reads and an Inst adds, in the state where it stands, is its part of the work at the true sizes
pub record StepsAreWork (catalog : CatalogOf) (list : List Expression) (tables changes : ℕ → Bag) : Type 0 where
  pub comps : (p v : ℕ) (ys : List ℕ) → At list p (Comp v ys)
      → operand_rows_of (children_of catalog.views.children v) ys (before (graph_of catalog) changes list tables p).tables (change_in (graph_of catalog) changes (before (graph_of catalog) changes list tables p))
      ≡ rows_at catalog.views.children list tables (tables_after (graph_of catalog) changes list tables) p
  pub insts : (p v : ℕ) → At list p (Inst v)
      → size (change_in (graph_of catalog) changes (before (graph_of catalog) changes list tables p) v) < 2 ^ 128
      → size (change_in (graph_of catalog) changes (before (graph_of catalog) changes list tables p) v)
      ≡ rows_at catalog.views.children list tables (tables_after (graph_of catalog) changes list tables) p

-- in every correct strategy, from whatever tables, what each expression reads or writes is its part of the work
abbrev pub StepsAreSummands : Type 0
StepsAreSummands =
    (catalog : CatalogOf) (list : List Expression) (tables changes : ℕ → Bag)
    → IsCatalog catalog → IsCorrect catalog.views.children list → StepsAreWork catalog list tables changes

-- memory aside, a night is refused for one reason at most, and for none where each base change is allowed and each expression is passed
pub record OneIsRefused (catalog : CatalogOf) (list : List Expression) (tables changes : ℕ → Bag) : Type 0 where
  pub one : (f g : CarryFault) → IsNightFault catalog list tables changes f → IsNightFault catalog list tables changes g → f.fault ≢ Memory → g.fault ≢ Memory → f ≡ g
  pub none : AreAllowedBelow catalog tables changes (length catalog.views.children) → ArePassedBelow catalog list tables changes (length list)
      → (f : CarryFault) → IsNightFault catalog list tables changes f → f.fault ≡ Memory

-- for every list and all tables, a night is refused for one reason at most
abbrev pub RefusalsAreOne : Type 0
RefusalsAreOne = (catalog : CatalogOf) (list : List Expression) (tables changes : ℕ → Bag) → OneIsRefused catalog list tables changes

-- the combined rows of each derived view's children number at most 2^56
abbrev pub AreFew : ViewGraph → (ℕ → Bag) → Type 0
AreFew g tables = (v : ℕ) → ¬ (g.children v ≡ []) → ¬ (HaveTooMany (g.children v) tables)

-- from tables whose views have at most so many combined rows, a night in which each expression is passed ends in such tables
abbrev pub NewRowsAreFew : Type 0
NewRowsAreFew =
    (catalog : CatalogOf) (list : List Expression) (tables changes : ℕ → Bag)
    → IsCatalog catalog → IsCorrect catalog.views.children list
    → AreBaseTables (graph_of catalog) tables → AreValues (graph_of catalog) tables
    → AreFew (graph_of catalog) tables → ArePassedBelow catalog list tables changes (length list)
    → AreFew (graph_of catalog) (contents (graph_of catalog) (changed tables changes))
