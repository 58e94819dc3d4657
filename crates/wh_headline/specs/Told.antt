-- What a desk that is told what a writer has published knows of the pages that it was given.
use Rattle.std.specs.Prelude.{◌≡◌, ◌≤◌, ◌<◌, ℕ, length, Option, Some}
use mathlib.Core.List.{IsPrefix}
use Rattle.wh_row.specs.Row.{Row}
use Rattle.wh_dag.specs.Catalog.{CatalogOf}
use Rattle.wh_maint.specs.Comp.{bag_at}
use Rattle.wh_maint.specs.Contents.{AreContents}
use Rattle.wh_maint.specs.Definition.{graph_of}
use Rattle.wh_store.specs.Pages.{Contents, Shown, page_of}
use Rattle.wh_store.specs.Versions.{number, table_in, version}
use Rattle.wh_store.specs.Ledgers.{Ledger, versions_in}
use Rattle.wh_desk.specs.Desks.{Grows, Reads, Sitting}
use Rattle.wh_night.specs.Tonight.{IsSound}

-- the desk was told all that is published
abbrev pub WasTold : Ledger → Sitting → Type 0
WasTold l d = (l.of ≡ d.of) × IsPrefix l.list d.list

-- the page is one of a view in these contents, which are those of a base
pub record IsOfContents (catalog : CatalogOf) (contents : Contents) (view : ℕ) (row : Option Row) (limit : ℕ) (page : Shown) : Type 0 where
  pub of_base : AreContents (graph_of catalog) (bag_at contents)
  pub there : view < length contents
  pub is : page ≡ page_of (table_in contents view) row limit

-- a page that a desk was given in a session of a version is of that version's contents in the published list, and they are those of a base,
-- once the desk was told that list, which is sound and has come to that version
abbrev pub ToldPagesAreOfContents : Type 0
ToldPagesAreOfContents =
    (catalog : CatalogOf) (l : Ledger) (before after told : Sitting) (v view limit : ℕ) (row : Option Row) (page : Shown) → IsSound catalog l → v ≤ number (versions_in l.of l.list)
    → before.session ≡ Some v → Reads before after view row limit page → Grows after told → WasTold l told
    → IsOfContents catalog (version (versions_in l.of l.list) v) view row limit page
