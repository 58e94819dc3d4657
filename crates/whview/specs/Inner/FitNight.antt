-- That what was read of a night fits the catalogue of its views. No clause that is seen from outside speaks of it: these are the
-- words of the calls inside `night`.
use Rattle.std.specs.Prelude.{◌≡◌, ◌<◌, ℕ, List, length, map, true}
use Rattle.wh_dag.specs.Catalog.{CatalogOf, is_base}
use Rattle.wh_dag.specs.Shape.{Views}
use Rattle.wh_row.specs.Bag.{Bag, IsTable}
use Rattle.wh_text_catalogue.specs.Definitions.{ViewOf, shown_view}
use Rattle.wh_text_catalogue.specs.ReadCatalog.{AreDefinitions, catalog_of}
use Rattle.wh_load.specs.declared.reading.inputs.NightInput.{NightInput}
use Rattle.wh_maint.specs.Asked.{AreBags}
use Rattle.wh_maint.specs.Comp.{bag_at}

-- there is a table for each view, of its width, and none of a base view has a negative count
pub record AreReadTables (catalog : CatalogOf) (tables : List Bag) : Type 0 where
  pub bags : AreBags catalog tables
  pub bases : (view : ℕ) → view < length catalog.views.children → is_base catalog view ≡ true → IsTable (bag_at tables view)

-- these views make a catalogue over the shape, and the tables and changes are for it
pub record IsFitFor (shape : Views) (views : List ViewOf) (given brought : List Bag) : Type 0 where
  pub definitions : AreDefinitions shape views
  pub tables : AreReadTables (catalog_of shape views) given
  pub changes : AreBags (catalog_of shape views) brought

-- so it is of what was read of a night
abbrev pub IsFitNight : NightInput → Type 0
IsFitNight n = IsFitFor n.shape (map shown_view n.opening.views.items) n.opening.tables.items n.given.changes.items
