-- What a bundle gives to be carried out: its views, their tables, and the night's changes and strategy.
use Rattle.std.specs.Prelude.{◌++◌, ℕ, List, [], ◌∷◌, length, Bool, true, false, Option, Some, None, slice_get, find, not, option_and_then, option_map, Result, Ok}
use Rattle.wh_dag.specs.Catalog.{CatalogOf, DefinitionOf}
use Rattle.wh_dag.specs.Shape.{Views}
use Rattle.wh_dag.specs.Written.{name_of, number_of}
use Rattle.wh_row.specs.Bag.{Bag, HasWidth, IsTable, empty}
use Rattle.wh_text.specs.Columns.{NamedKind}
use Rattle.wh_text.specs.declared.fault.LoadFault.{LoadFault}
use Rattle.wh_text.specs.declared.fault.LoadFault.TheVariants as fault
use Rattle.wh_text_bundle.specs.Find.{found}
use Rattle.wh_text_bundle.specs.Heading.{word_of}
use Rattle.wh_text_bundle.specs.Text.{text_of}
use Rattle.wh_text_bundle.specs.declared.bundle.fault.Nights.TheVariants as nights
use Rattle.wh_text_bundle.specs.declared.bundle.heading.Heading.{Heading}
use Rattle.wh_text_bundle.specs.declared.bundle.heading.Heading.TheVariants as heading
use Rattle.wh_text_bundle.specs.declared.bundle.part.Part.{Part}
use Rattle.wh_text_catalogue.specs.Catalogue.{◌>>=◌, shape_of}
use Rattle.wh_text_catalogue.specs.Definitions.{ViewOf, definitions_of}
use Rattle.wh_text_catalogue.specs.FormulaKinds.{Texts}
use Rattle.wh_text_catalogue.specs.ReadCatalog.{AreDefinitions, catalog_of}
use Rattle.wh_text_tables.specs.TableRead.{changes_give, table_gives}
use Rattle.wh_text_tables.specs.TableText.{or_fault}
use Rattle.wh_text_lines.specs.StrategyText.{strategy_of}
use Rattle.wh_load.specs.ReadingParts.{parts_in, text_in}
use Rattle.wh_strategy.specs.declared.expression.Expression.{Expression}

-- what nights begin from: the views, the texts that cells stand for, and the base views' tables, which are empty for derived views
pub record Opening : Type 0 where
  pub views : List ViewOf
  pub texts : Texts
  pub tables : List Bag

-- what is given of one night: the base views' changes, which are empty for derived views, and the strategy
pub record GivenNight : Type 0 where
  pub changes : List Bag
  pub list : List Expression

-- a shape, what a night over it begins from, and what is given of the night
pub record Night : Type 0 where
  pub shape : Views
  pub opening : Opening
  pub given : GivenNight

-- the catalogue of a night's views
abbrev pub catalog_in : Night → CatalogOf
catalog_in night = catalog_of night.shape night.opening.views

-- ---- rows of no base view

-- there is such a view, and it is a base view
abbrev pub is_base_view : Option ViewOf → Bool
is_base_view None = false
is_base_view (Some view) = is_undefined view.definition
  where
    is_undefined : Option DefinitionOf → Bool
    is_undefined None = true
    is_undefined (Some definition) = false

-- the word is the name of a base view
abbrev pub is_base_name : List (List ℕ) → List ViewOf → List ℕ → Bool
is_base_name names views word = is_base_view (option_and_then (slice_get views) (number_of names word))

-- the heading is of rows of no base view
abbrev pub is_stray : List (List ℕ) → List ViewOf → Heading → Bool
is_stray names views (heading.Data name) = not (is_base_name names views name)
is_stray names views (heading.Changes name) = not (is_base_name names views name)
is_stray names views _ = false

-- the first part of rows of no base view is a fault
abbrev pub first_stray : List (List ℕ) → List ViewOf → List Part → Option LoadFault
first_stray names views parts = option_map (λ part. fault.Part (word_of part.heading)) (find (λ part. is_stray names views part.heading) parts)

-- ---- tables and changes

-- the rows of a base view: its table, or its changes in a night, which count from 0
pub data Rows : Type 0 where
  TableRows : Rows
  ChangeRows : ℕ → Rows

-- the part that has these rows of this view
abbrev pub rows_found : Rows → List ℕ → List Part → Option Part
rows_found TableRows name parts = found (heading.Data name) 0 parts
rows_found (ChangeRows night) name parts = found (heading.Changes name) night parts

-- what the text of a part of these rows gives
abbrev pub rows_given : Rows → List NamedKind → Texts → List ℕ → Result (Bag × Texts) LoadFault
rows_given TableRows columns texts text = table_gives columns texts text
rows_given (ChangeRows night) columns texts text = changes_give columns texts text

-- what a part writes, and no rows where there is none
abbrev pub rows_written : Rows → List NamedKind → Option Part → Texts → Result (Bag × Texts) LoadFault
rows_written kind columns None texts = Ok (empty, texts)
rows_written kind columns (Some part) texts = rows_given kind columns texts (text_of part)

-- the rows of a view: of a base view those that its part writes, of a derived view none
abbrev pub rows_of : Rows → List Part → List ℕ → ViewOf → Texts → Result (Bag × Texts) LoadFault
rows_of kind parts name view texts = of_definition view.definition
  where
    of_definition : Option DefinitionOf → Result (Bag × Texts) LoadFault
    of_definition None = rows_written kind view.columns (rows_found kind name parts) texts
    of_definition (Some definition) = Ok (empty, texts)

-- the rows of the views before, and behind them those of these views in their order; or the first fault
abbrev pub rows_after : Rows → List Part → List (List ℕ) → List Bag → List ViewOf → Texts → Result (List Bag × Texts) LoadFault
rows_after kind parts names before [] texts = Ok (before, texts)
rows_after kind parts names before (view ∷ rest) texts = do
  own ← rows_of kind parts (name_of names (length before)) view texts
  rows_after kind parts names (before ++ own.0 ∷ []) rest own.1

-- (of calls in the program) tables have no negative count
abbrev pub IsTableIfTable : Rows → Bag → Type 0
IsTableIfTable TableRows bag = IsTable bag
IsTableIfTable (ChangeRows night) bag = Unit {0}

-- (of calls in the program) there are rows of each of these views, of its columns
abbrev pub AreReadRows : Rows → List ViewOf → List Bag → Type 0
AreReadRows kind [] [] = Unit {0}
AreReadRows kind [] (bag ∷ bags) = ⊥
AreReadRows kind (view ∷ views) [] = ⊥
AreReadRows kind (view ∷ views) (bag ∷ bags) = (HasWidth bag (length view.columns) × IsTableIfTable kind bag) × AreReadRows kind views bags

-- (of calls in the program) the views make a catalogue over the shape, and there are tables and changes of each
pub record AreReadFor (shape : Views) (views : List ViewOf) (tables changes : List Bag) : Type 0 where
  pub definitions : AreDefinitions shape views
  pub before : AreReadRows TableRows views tables
  pub brought : AreReadRows (ChangeRows 0) views changes

-- ---- all of it

-- the tables of these views, by their names: rows of no base view are a fault, and come before the tables' own faults
abbrev pub tables_of : List Part → List (List ℕ) → List ViewOf → Texts → Result (List Bag × Texts) LoadFault
tables_of parts names views texts = or_fault (first_stray names views parts) (rows_after TableRows parts names [] views texts)

-- what is given of the night of this number, which counts from 0: its changes, and then its strategy, which this text says
abbrev pub given_of : List Part → List (List ℕ) → List ViewOf → ℕ → List ℕ → Texts → Result (GivenNight × Texts) LoadFault
given_of parts names views night strategy texts = do
  changes ← rows_after (ChangeRows night) parts names [] views texts
  list ← strategy_of names strategy
  Ok (record { changes = changes.0; list = list }, changes.1)

-- a night over these views
abbrev pub night_with : Views → List ViewOf → Texts → List Bag → GivenNight → Night
night_with shape views texts tables given = record { shape = shape; opening = record { views = views; texts = texts; tables = tables }; given = given }

-- a night over these views, or its first fault: of the tables, or of what is given
abbrev pub night_over : List Part → Views → List ViewOf → Texts → List ℕ → Result Night LoadFault
night_over parts shape views texts strategy = do
  tables ← tables_of parts shape.names views texts
  given ← given_of parts shape.names views 0 strategy tables.1
  Ok (night_with shape views given.1 tables.0 given.0)

-- what the parts of a bundle say, or their first fault: a part that is missing, the catalogue's, then what the night is given
abbrev pub night_in : List Part → Result Night LoadFault
night_in parts = do
  catalogue ← text_in parts heading.Catalogue 0
  strategy ← text_in parts heading.Strategy 0
  shape ← shape_of catalogue
  written ← definitions_of shape catalogue []
  night_over parts shape written.0 written.1 strategy

-- what the bytes of a bundle of one night say, or their first fault
abbrev pub night_read : List ℕ → Result Night LoadFault
night_read bytes = parts_in nights.First bytes >>= night_in
