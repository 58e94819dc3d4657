-- What a bundle of several nights gives to be replayed: what its nights begin from, what is given of each, and a schedule.
use Rattle.std.specs.Prelude.{◌++◌, ℕ, zero, suc, List, [], ◌∷◌, length, Result, Ok}
use Rattle.std.specs.List.{All}
use Rattle.wh_dag.specs.Shape.{Views}
use Rattle.wh_row.specs.Bag.{Bag}
use Rattle.wh_text.specs.declared.fault.LoadFault.{LoadFault}
use Rattle.wh_text_bundle.specs.Find.{nights_of}
use Rattle.wh_text_bundle.specs.declared.bundle.fault.Nights.TheVariants as nights
use Rattle.wh_text_bundle.specs.declared.bundle.heading.Heading.TheVariants as heading
use Rattle.wh_text_bundle.specs.declared.bundle.part.Part.{Part}
use Rattle.wh_text_catalogue.specs.Catalogue.{◌>>=◌, shape_of}
use Rattle.wh_text_catalogue.specs.Definitions.{ViewOf, definitions_of}
use Rattle.wh_text_catalogue.specs.FormulaKinds.{Texts}
use Rattle.wh_text_catalogue.specs.ReadCatalog.{AreDefinitions}
use Rattle.wh_text_lines.specs.ScheduleText.{ScheduleOf, schedule_of}
use Rattle.wh_load.specs.ReadingNight.{AreReadRows, ChangeRows, GivenNight, Opening, TableRows, given_of, tables_of}
use Rattle.wh_load.specs.ReadingParts.{parts_in, text_in}

-- a shape, what all nights over it begin from, what is given of each night, in order, and a schedule
pub record Replay : Type 0 where
  pub shape : Views
  pub opening : Opening
  pub nights : List GivenNight
  pub schedule : ScheduleOf

-- the texts of the strategies of so many nights after these; the first that is missing is a fault
abbrev pub strategies_after : List Part → List (List ℕ) → ℕ → Result (List (List ℕ)) LoadFault
strategies_after parts before zero = Ok before
strategies_after parts before (suc nights) = do
  own ← text_in parts heading.Strategy (length before)
  strategies_after parts (before ++ own ∷ []) nights

-- the texts of the strategies of all nights, or the first that is missing
abbrev pub strategies_in : List Part → Result (List (List ℕ)) LoadFault
strategies_in parts = strategies_after parts [] (nights_of parts)

-- what is given of the nights with these strategies after those before, or the first fault
abbrev pub nights_after : List Part → List (List ℕ) → List ViewOf → List GivenNight → List (List ℕ) → Texts → Result (List GivenNight × Texts) LoadFault
nights_after parts names views before [] texts = Ok (before, texts)
nights_after parts names views before (strategy ∷ rest) texts = do
  own ← given_of parts names views (length before) strategy texts
  nights_after parts names views (before ++ own.0 ∷ []) rest own.1

-- (of calls in the program) there are changes of each of these views in each night; the rows of all nights are alike
abbrev pub AreReadNights : List ViewOf → List GivenNight → Type 0
AreReadNights views given = All (λ night. AreReadRows (ChangeRows 0) views night.changes) given

-- (of calls in the program) the views make a catalogue over the shape, there is a table of each, and there are changes of each in each night
pub record AreReadForNights (shape : Views) (views : List ViewOf) (tables : List Bag) (given : List GivenNight) : Type 0 where
  pub definitions : AreDefinitions shape views
  pub before : AreReadRows TableRows views tables
  pub brought : AreReadNights views given

-- these tables, nights and schedule over these views
abbrev pub replay_with : Views → List ViewOf → Texts → List Bag → List GivenNight → ScheduleOf → Replay
replay_with shape views texts tables given schedule = record { shape = shape; opening = record { views = views; texts = texts; tables = tables }; nights = given; schedule = schedule }

-- what is replayed over these views, or its first fault: of the tables, of the nights in order, of the schedule
abbrev pub replay_over : List Part → Views → List ViewOf → Texts → List (List ℕ) → List ℕ → Result Replay LoadFault
replay_over parts shape views texts strategies schedule = do
  tables ← tables_of parts shape.names views texts
  given ← nights_after parts shape.names views [] strategies tables.1
  scheduled ← schedule_of shape.names schedule
  Ok (replay_with shape views given.1 tables.0 given.0 scheduled)

-- what the parts of a bundle say, or their first fault: a part that is missing, the catalogue's, then what stands over its views
abbrev pub replay_in : List Part → Result Replay LoadFault
replay_in parts = do
  catalogue ← text_in parts heading.Catalogue 0
  strategies ← strategies_in parts
  schedule ← text_in parts heading.Schedule 0
  shape ← shape_of catalogue
  written ← definitions_of shape catalogue []
  replay_over parts shape written.0 written.1 strategies schedule

-- what the bytes of a bundle of any nights say, or their first fault
abbrev pub replay_of : List ℕ → Result Replay LoadFault
replay_of bytes = parts_in nights.All bytes >>= replay_in
