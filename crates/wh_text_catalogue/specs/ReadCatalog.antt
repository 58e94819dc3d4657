-- What the definitions that a catalogue's text gives are: those of a catalogue over its shape.
use Rattle.std.specs.Prelude.{◌≡◌, ℕ, List, length, map, Ok}
use Rattle.std.specs.List.{All}
use Rattle.wh_dag.specs.Catalog.{CatalogOf, IsCatalog}
use Rattle.wh_dag.specs.Shape.{Views}
use Rattle.wh_text.specs.Columns.{AreNamed}
use Rattle.wh_text_catalogue.specs.Catalogue.{shape_of}
use Rattle.wh_text_catalogue.specs.Definitions.{ViewOf, definitions_of}
use Rattle.wh_text_catalogue.specs.FormulaKinds.{Texts}

-- what these views show as a catalogue: how many columns each has, and how the derived ones are defined
abbrev pub catalog_of : Views → List ViewOf → CatalogOf
catalog_of shape views = record {
  views = shape;
  widths = map (λ view. length view.columns) views;
  definitions = map (λ view. view.definition) views;
}

-- The views make a catalogue over the shape. Each has 1 to 64 named columns, and exactly the derived ones have a definition over their
-- combined rows. It has as many columns, and each of its places lies in these rows
pub record AreDefinitions (shape : Views) (views : List ViewOf) : Type 0 where
  pub catalog : IsCatalog (catalog_of shape views)
  pub named : All (λ view. AreNamed view.columns) views

-- what is read of a catalogue's text are definitions of its shape
abbrev pub DefinitionsFit : Type 0
DefinitionsFit =
    (text : List ℕ) (shape : Views) (texts after : Texts) (views : List ViewOf) → shape_of text ≡ Ok shape →
    definitions_of shape text texts ≡ Ok (views, after) → AreDefinitions shape views
