-- What night lists make of contents.
use Rattle.std.specs.Prelude.{◌≡◌, ℕ, ◌<◌, ◌≤◌, true, None, Some, List, [], ◌∷◌, ◌++◌, length}
use Rattle.std.specs.List.{All, flat_map}
use Rattle.wh_strategy.specs.declared.expression.Expression.{Expression}
use Rattle.wh_strategy.specs.Rules.{IsCorrect}
use Rattle.wh_row.specs.Bag.{Bag, IsTable, sum_of}
use Rattle.wh_row.specs.Weigh.{Counted}
use Rattle.wh_dag.specs.Catalog.{CatalogOf, IsCatalog}
use Rattle.wh_maint.specs.Laws.{changed}
use Rattle.wh_maint.specs.Definition.{graph_of}
use Rattle.wh_maint.specs.Contents.{AreBaseTables, AreContents, contents}
use Rattle.wh_store.specs.Operations.{Operation, Commits}
use Rattle.wh_store.specs.Pages.{Contents, is_page, with_counts}
use Rattle.wh_store.specs.Versions.{Versions, is_well_formed, table_in, versions_from}
use Rattle.wh_carry.specs.Carry.{before}
use Rattle.wh_carry.specs.Refused.{HaveValuesBelow}
use Rattle.wh_carry.specs.NightList.{new_counts, night_below, pages_of}

-- the table with the counts of some pages, one after another
abbrev pub with_pages : Bag → List Counted → Bag
with_pages table [] = table
with_pages table (page ∷ pages) = with_pages (with_counts table page) pages

-- The pages of a table's new counts, joined, are all of them, and written over the table they make the table with the change. Where pages
-- have 256 rows at most and the new table counts no row below zero, each is a page that one operation may write
pub record ArePagesOf (keys : ℕ) (table change : Bag) : Type 0 where
  pub joined : flat_map (λ page. page) (pages_of keys (new_counts table change)) ≡ new_counts table change
  pub made : with_pages table (pages_of keys (new_counts table change)) ≡ sum_of table change
  pub good : keys ≤ 256 → IsTable (sum_of table change) → All (λ page. is_page page ≡ true) (pages_of keys (new_counts table change))

-- for every table and change, the pages of 1 row or more of the new counts make the table with the change
abbrev pub NewCountsMakeTables : Type 0
NewCountsMakeTables = (keys : ℕ) (table change : Bag) → 1 ≤ keys → ArePagesOf keys table change

-- contents of so many views, with these tables
pub record HaveTables (contents : Contents) (views : ℕ) (tables : ℕ → Bag) : Type 0 where
  pub each : length contents ≡ views
  pub are : (v : ℕ) → v < views → table_in contents v ≡ tables v

-- what a night publishes up to a place of a correct list writes the tables that carrying out makes up to there; the versions stay
abbrev pub NightListsWriteTables : Type 0
NightListsWriteTables =
    (catalog : CatalogOf) (list : List Expression) (tables changes : ℕ → Bag) (keys : ℕ) (versions : Versions)
    → IsCorrect catalog.views.children list → 1 ≤ keys → HaveTables versions.newest (length catalog.views.children) tables
    → (place : ℕ) → (draft : Contents)
    × (versions_from versions (night_below (graph_of catalog) changes keys list tables place) ≡ record { newest = versions.newest; older = versions.older; draft = Some draft })
    × HaveTables draft (length catalog.views.children) (before (graph_of catalog) changes list tables place).tables

-- The whole night list of a correct list, over the contents of a base. Published, it makes one version more, which has the contents of the
-- changed base
pub record EndsInContents (catalog : CatalogOf) (list : List Expression) (tables changes : ℕ → Bag) (keys : ℕ) (versions : Versions) (night : List Operation) : Type 0 where
  pub well_formed : is_well_formed (length catalog.views.children) night ≡ true
  pub newest : Contents
  pub published : versions_from versions night ≡ record { newest = newest; older = versions.newest ∷ versions.older; draft = None }
  pub are_contents : HaveTables newest (length catalog.views.children) (contents (graph_of catalog) (changed tables changes))

abbrev pub NightListsEndInContents : Type 0
NightListsEndInContents =
    (catalog : CatalogOf) (list : List Expression) (tables changes : ℕ → Bag) (keys : ℕ) (versions : Versions)
    → IsCatalog catalog → IsCorrect catalog.views.children list → 1 ≤ keys → keys ≤ 256
    → HaveTables versions.newest (length catalog.views.children) tables
    → AreContents (graph_of catalog) tables → AreBaseTables (graph_of catalog) (changed tables changes) → HaveValuesBelow catalog list tables changes (length list)
    → EndsInContents catalog list tables changes keys versions (night_below (graph_of catalog) changes keys list tables (length list) ++ Commits ∷ [])
