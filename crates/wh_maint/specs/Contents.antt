-- The contents of a base: the value of each view, from scratch, in the order of their numbers.
use Rattle.std.specs.Prelude.{◌≡◌, ◌↔◌, ℕ, zero, suc, List, [], ◌∷◌, map}
use Rattle.wh_row.specs.Bag.{Bag, IsTable}
use Rattle.wh_dag.specs.Catalog.{CatalogOf, IsCatalog}
use Rattle.wh_maint.specs.View.{ViewGraph, IsViewGraph}
use Rattle.wh_maint.specs.Definition.{graph_of}
use Rattle.wh_maint.specs.Fit.{IsFitTable}
use Rattle.wh_maint.specs.Value.{view_value, HasValue}

-- of a view without children its own table, of any other the value
abbrev pub if_base : List ℕ → Bag → Bag → Bag
if_base [] table value = table
if_base (u ∷ us) table value = value

-- the table of a view, followed down this many steps
unfoldable pub contents_within : ViewGraph → (ℕ → Bag) → ℕ → ℕ → Bag
contents_within g base zero v = base v
contents_within g base (suc steps) v = if_base (g.children v) (base v) (view_value (g.views v) (map (contents_within g base steps) (g.children v)))

-- the table of a view over these base tables; as children have lower numbers, v + 1 steps go all the way down. Where a view has no
-- value these are the rows that have one, and no contents
unfoldable pub contents : ViewGraph → (ℕ → Bag) → ℕ → Bag
contents g base v = contents_within g base (suc v) v

-- no base view's table has a negative count
abbrev pub AreBaseTables : ViewGraph → (ℕ → Bag) → Type 0
AreBaseTables g tables = (b : ℕ) → g.children b ≡ [] → IsTable (tables b)

-- each derived view's table is what the view makes of its children's tables: its value, where it has one
abbrev pub AreValues : ViewGraph → (ℕ → Bag) → Type 0
AreValues g tables = (v : ℕ) → ¬ (g.children v ≡ []) → tables v ≡ view_value (g.views v) (map tables (g.children v))

-- each derived view has a value over these tables of its children
abbrev pub HaveValuesOver : ViewGraph → (ℕ → Bag) → Type 0
HaveValuesOver g tables = (v : ℕ) → ¬ (g.children v ≡ []) → HasValue (g.views v) (map tables (g.children v))

-- These tables are the contents of a base. No count of the base is negative, base views have its tables, and each derived view has a value
-- over its children's, which is its table. A base over which some view has no value has no contents
pub record AreContentsOf (g : ViewGraph) (base tables : ℕ → Bag) : Type 0 where
  pub counts : AreBaseTables g base
  pub bases : (b : ℕ) → g.children b ≡ [] → tables b ≡ base b
  pub values : AreValues g tables
  pub defined : HaveValuesOver g tables

-- the tables are the contents of their own base tables
abbrev pub AreContents : ViewGraph → (ℕ → Bag) → Type 0
AreContents g tables = AreContentsOf g tables tables

-- the base has contents
abbrev pub HasContents : ViewGraph → (ℕ → Bag) → Type 0
HasContents g base = AreContentsOf g base (contents g base)

-- `contents` has the base's own tables, and over them what the derived views make of their children's
pub record IsFromScratch (g : ViewGraph) (base : ℕ → Bag) : Type 0 where
  pub bases : (b : ℕ) → g.children b ≡ [] → contents g base b ≡ base b
  pub values : AreValues g (contents g base)

-- over every base, `contents` has the base's own tables, and over them what the derived views make of their children's
abbrev pub ContentsAreValues : Type 0
ContentsAreValues = (g : ViewGraph) (base : ℕ → Bag) → IsViewGraph g → IsFromScratch g base

-- tables that have a base's own tables, and over them what the derived views make of their children's, are what `contents` makes of the
-- base
abbrev pub ContentsAreUnique : Type 0
ContentsAreUnique =
    (g : ViewGraph) (base tables : ℕ → Bag) → IsViewGraph g → ((b : ℕ) → g.children b ≡ [] → tables b ≡ base b) → AreValues g tables
    → (v : ℕ) → tables v ≡ contents g base v

-- tables are what `contents` makes of their own base tables exactly where each derived view's is made of its children's
abbrev pub ContentsAreToldByValues : Type 0
ContentsAreToldByValues = (g : ViewGraph) (tables : ℕ → Bag) → IsViewGraph g → ((v : ℕ) → tables v ≡ contents g tables v) ↔ AreValues g tables

-- a base has one contents at most: tables are its contents exactly where it has contents and they are what `contents` makes of it
abbrev pub ContentsAreOne : Type 0
ContentsAreOne = (g : ViewGraph) (base tables : ℕ → Bag) → IsViewGraph g → AreContentsOf g base tables ↔ (HasContents g base × ((v : ℕ) → tables v ≡ contents g base v))

-- what all views make of base tables is fit, and so are contents
abbrev pub ContentsAreFit : Type 0
ContentsAreFit =
    (g : ViewGraph) (tables : ℕ → Bag) → IsViewGraph g → AreBaseTables g tables → AreValues g tables
    → (v : ℕ) → IsFitTable (g.views v).kind (tables v)

-- each catalogue's views are over views of lower numbers
abbrev pub CatalogsAreGraphs : Type 0
CatalogsAreGraphs = (catalog : CatalogOf) → IsCatalog catalog → IsViewGraph (graph_of catalog)
