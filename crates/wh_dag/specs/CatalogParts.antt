-- The parts that a catalogue is made of: a width for each base view and a definition for each derived view, both rising.
use Rattle.std.specs.Prelude.{◌≡◌, ◌↔◌, ℕ, suc, List, [], ◌∷◌, length, Option, None, Some}
use Rattle.wh_dag.specs.Shape.{Views}
use Rattle.wh_dag.specs.Catalog.{DefinitionOf, columns, CatalogOf, IsCatalog}

-- how many views of these child lists are base views
abbrev pub bases_among : List (List ℕ) → ℕ
bases_among [] = 0
bases_among ([] ∷ shape) = suc (bases_among shape)
bases_among ((u ∷ us) ∷ shape) = bases_among shape

-- how many views of these child lists are derived
abbrev pub derived_among : List (List ℕ) → ℕ
derived_among [] = 0
derived_among ([] ∷ shape) = derived_among shape
derived_among ((u ∷ us) ∷ shape) = suc (derived_among shape)

-- for each view its definition, where each derived view has the next of these
abbrev pub dealt_definitions : List (List ℕ) → List DefinitionOf → List (Option DefinitionOf)
dealt_definitions [] given = []
dealt_definitions ([] ∷ shape) given = None ∷ dealt_definitions shape given
dealt_definitions ((u ∷ us) ∷ shape) [] = None ∷ dealt_definitions shape []
dealt_definitions ((u ∷ us) ∷ shape) (d ∷ given) = Some d ∷ dealt_definitions shape given

-- for each view its number of columns: what its definition says, and where it has none the next of these widths
abbrev pub dealt_widths : List (Option DefinitionOf) → List ℕ → List ℕ
dealt_widths [] given = []
dealt_widths (Some d ∷ definitions) given = columns d.output ∷ dealt_widths definitions given
dealt_widths (None ∷ definitions) [] = 0 ∷ dealt_widths definitions []
dealt_widths (None ∷ definitions) (w ∷ given) = w ∷ dealt_widths definitions given

-- the catalogue of these views, widths and definitions
abbrev pub catalog_of : Views → List ℕ → List DefinitionOf → CatalogOf
catalog_of views widths definitions =
    let dealt : List (Option DefinitionOf) = dealt_definitions views.children definitions in
    record { views = views; widths = dealt_widths dealt widths; definitions = dealt }

-- these parts make a catalogue: there are as many widths as base views and as many definitions as derived views, and what they make is one
pub record FitTogether (views : Views) (widths : List ℕ) (definitions : List DefinitionOf) : Type 0 where
  pub each_width : length widths ≡ bases_among views.children
  pub each_definition : length definitions ≡ derived_among views.children
  pub catalog : IsCatalog (catalog_of views widths definitions)

-- the definitions that there are, rising
abbrev pub given_definitions : List (Option DefinitionOf) → List DefinitionOf
given_definitions [] = []
given_definitions (None ∷ definitions) = given_definitions definitions
given_definitions (Some d ∷ definitions) = d ∷ given_definitions definitions

-- the widths of the views without a definition, rising
abbrev pub given_widths : List (Option DefinitionOf) → List ℕ → List ℕ
given_widths (None ∷ definitions) (w ∷ widths) = w ∷ given_widths definitions widths
given_widths (Some d ∷ definitions) (w ∷ widths) = given_widths definitions widths
given_widths definitions widths = []

-- the catalogue shows these parts
pub record Shows (catalog : CatalogOf) (views : Views) (widths : List ℕ) (definitions : List DefinitionOf) : Type 0 where
  pub its_views : catalog.views ≡ views
  pub its_widths : given_widths catalog.definitions catalog.widths ≡ widths
  pub its_definitions : given_definitions catalog.definitions ≡ definitions

-- parts fit together exactly where a catalogue shows them
abbrev pub FitIsShown : Type 0
FitIsShown =
    (views : Views) (widths : List ℕ) (definitions : List DefinitionOf) →
    FitTogether views widths definitions ↔ ((catalog : CatalogOf) × IsCatalog catalog × Shows catalog views widths definitions)
