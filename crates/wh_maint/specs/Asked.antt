-- What calls over a catalogue ask of their tables, changes and sources.
use Rattle.std.specs.Prelude.{◌≡◌, ℕ, ◌<◌, ◌≤◌, List, length}
use Rattle.wh_row.specs.Bag.{Bag, HasWidth}
use Rattle.wh_dag.specs.Shape.{Distinct}
use Rattle.wh_dag.specs.Catalog.{CatalogOf, width_of}
use Rattle.wh_maint.specs.Comp.{bag_at}
use Rattle.wh_maint.specs.Laws.{AreAmong}

-- there is a bag for each view, with rows of that view's width
pub record AreBags (catalog : CatalogOf) (bags : List Bag) : Type 0 where
  pub each : length bags ≡ length catalog.views.children
  pub widths : (u : ℕ) → u < length catalog.views.children → HasWidth (bag_at bags u) (width_of catalog u)

-- the sources of a Comp: some of the view's children, none twice
pub record AreSources (children sources : List ℕ) : Type 0 where
  pub some : 1 ≤ length sources
  pub distinct : Distinct sources
  pub among : AreAmong sources children
