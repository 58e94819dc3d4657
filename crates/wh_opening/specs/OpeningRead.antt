-- What a bundle gives that opens a warehouse which stays: its views, their tables, and the strategy of nights that write none.
use Rattle.std.specs.Prelude.{ℕ, List, [], Bool, true, false, Option, Some, None, find, map, not, option_map, Result, Ok}
use Rattle.wh_dag.specs.Shape.{Views}
use Rattle.wh_row.specs.Bag.{Bag}
use Rattle.wh_text.specs.declared.fault.LoadFault.{LoadFault}
use Rattle.wh_text.specs.declared.fault.LoadFault.TheVariants as fault
use Rattle.wh_text_bundle.specs.Find.{found}
use Rattle.wh_text_bundle.specs.Heading.{word_of}
use Rattle.wh_text_bundle.specs.Text.{text_of}
use Rattle.wh_text_bundle.specs.declared.bundle.fault.Nights.TheVariants as nights
use Rattle.wh_text_bundle.specs.declared.bundle.heading.Heading.{Heading}
use Rattle.wh_text_bundle.specs.declared.bundle.heading.Heading.TheVariants as heading
use Rattle.wh_text_bundle.specs.declared.bundle.part.Part.{Part}
use Rattle.wh_text_catalogue.specs.Catalogue.{◌>>=◌, shape_of}
use Rattle.wh_text_catalogue.specs.Definitions.{ViewOf, definitions_of, shown_view}
use Rattle.wh_text_catalogue.specs.FormulaKinds.{Texts}
use Rattle.wh_text_catalogue.specs.ReadCatalog.{AreDefinitions}
use Rattle.wh_text_lines.specs.StrategyText.{strategy_of}
use Rattle.wh_text_tables.specs.TableText.{or_fault}
use Rattle.wh_load.specs.ReadingNight.{AreReadRows, Opening, TableRows, is_base_name, rows_after}
use Rattle.wh_load.specs.ReadingParts.{parts_in, text_in}
use Rattle.wh_load.specs.ReadingShown.{shown_opening}
use Rattle.wh_opening.specs.declared.input.OpeningInput.{OpeningInput}

-- a shape, what nights over it begin from, and the text of the strategy of nights that write none, if there is one
pub record OpeningOf : Type 0 where
  pub shape : Views
  pub opening : Opening
  pub strategy : Option (List ℕ)

-- ---- parts

-- an opening has no part with this heading: it has a catalogue, tables of base views, and a strategy
abbrev pub is_foreign : List (List ℕ) → List ViewOf → Heading → Bool
is_foreign names views heading.Catalogue = false
is_foreign names views heading.Strategy = false
is_foreign names views (heading.Data name) = not (is_base_name names views name)
is_foreign names views _ = true

-- the first part that no opening has is a fault
abbrev pub first_foreign : List (List ℕ) → List ViewOf → List Part → Option LoadFault
first_foreign names views parts = option_map (λ part. fault.Part (word_of part.heading)) (find (λ part. is_foreign names views part.heading) parts)

-- the tables of these views, by their names: a part that no opening has is a fault, and comes before the tables' own faults
abbrev pub tables_in : List Part → List (List ℕ) → List ViewOf → Texts → Result (List Bag × Texts) LoadFault
tables_in parts names views texts = or_fault (first_foreign names views parts) (rows_after TableRows parts names [] views texts)

-- the text of a strategy as it is, where there is one; or its first fault
abbrev pub readable : List (List ℕ) → Option (List ℕ) → Result (Option (List ℕ)) LoadFault
readable names None = Ok None
readable names (Some text) = do
  list ← strategy_of names text
  Ok (Some text)

-- the text of the strategy of nights that write none, where there is one; or its first fault
abbrev pub strategy_in : List Part → List (List ℕ) → Result (Option (List ℕ)) LoadFault
strategy_in parts names = readable names (option_map text_of (found heading.Strategy 0 parts))

-- ---- all of it

-- these tables and this strategy over these views
abbrev pub opening_with : Views → List ViewOf → Texts → List Bag → Option (List ℕ) → OpeningOf
opening_with shape views texts tables strategy = record { shape = shape; opening = record { views = views; texts = texts; tables = tables }; strategy = strategy }

-- what the parts give over these views, or their first fault: of the tables, of the strategy
abbrev pub opening_over : List Part → Views → List ViewOf → Texts → Result OpeningOf LoadFault
opening_over parts shape views texts = do
  tables ← tables_in parts shape.names views texts
  strategy ← strategy_in parts shape.names
  Ok (opening_with shape views tables.1 tables.0 strategy)

-- what the parts of an opening give, or their first fault: a catalogue that is missing, the catalogue's, then what stands over its views
abbrev pub opening_in : List Part → Result OpeningOf LoadFault
opening_in parts = do
  catalogue ← text_in parts heading.Catalogue 0
  shape ← shape_of catalogue
  written ← definitions_of shape catalogue []
  opening_over parts shape written.0 written.1

-- what the bytes of an opening give, or their first fault
abbrev pub opening_of : List ℕ → Result OpeningOf LoadFault
opening_of bytes = parts_in nights.First bytes >>= opening_in

-- ---- what was read, as it lies in memory

-- a shape, what nights over it begin from, and a strategy
abbrev pub shown_opening_input : OpeningInput → OpeningOf
shown_opening_input o = record { shape = o.shape; opening = shown_opening o.opening; strategy = option_map (λ own. own.items) o.strategy }

-- the views make a catalogue over the shape, and there is a table of each
pub record IsReadOpening (o : OpeningInput) : Type 0 where
  pub definitions : AreDefinitions o.shape (map shown_view o.opening.views.items)
  pub before : AreReadRows TableRows (map shown_view o.opening.views.items) o.opening.tables.items
