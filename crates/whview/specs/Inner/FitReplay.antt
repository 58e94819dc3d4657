-- That what was read to be replayed fits the catalogue of its views, and what its strategies are judged. No clause that is seen
-- from outside speaks of it: these are the words of the calls inside `replay`.
use Rattle.std.specs.Prelude.{◌≡◌, ℕ, List, map, All, Some, Vec, slice_get}
use Rattle.std.specs.declared.alloc.Global.{Global}
use Rattle.wh_core.specs.Laws.{IsGivenNight}
use Rattle.wh_core.specs.Nights.{GivenNight as NightOfMachine}
use Rattle.wh_dag.specs.Catalog.{CatalogOf, IsCatalog}
use Rattle.wh_dag.specs.Shape.{Views}
use Rattle.wh_row.specs.Bag.{Bag}
use Rattle.wh_text_catalogue.specs.Definitions.{ViewOf, shown_view}
use Rattle.wh_text_catalogue.specs.ReadCatalog.{AreDefinitions, catalog_of}
use Rattle.wh_load.specs.ReadingNight.{GivenNight}
use Rattle.wh_load.specs.ReadingShown.{shown_given}
use Rattle.wh_load.specs.declared.reading.inputs.ReplayInput.{ReplayInput}
use Rattle.wh_maint.specs.Asked.{AreBags}
use Rattle.wh_maint.specs.Comp.{bag_at}
use Rattle.wh_maint.specs.Contents.{AreContents}
use Rattle.wh_maint.specs.Definition.{graph_of}
use Rattle.wh_strategy.specs.Rules.{IsCorrect, Judged}
use Rattle.wh_strategy.specs.declared.correct.CheckFault.{CheckFault}
use Rattle.wh_strategy.specs.declared.correct.CheckFault.TheVariants.{Broken, Memory}
use Rattle.whview.specs.Inner.FitNight.{AreReadTables}
use Rattle.whview.specs.ReplayOutput.{IsFirstBrokenNight}

-- the changes of each night are for the catalogue
abbrev pub AreChangesOf : CatalogOf → List GivenNight → Type 0
AreChangesOf catalog nights = All (λ night. AreBags catalog night.changes) nights

-- these views make a catalogue over the shape, and the tables and the changes of each night are for it
pub record IsFitForNights (shape : Views) (views : List ViewOf) (tables : List Bag) (nights : List GivenNight) : Type 0 where
  pub definitions : AreDefinitions shape views
  pub tables_read : AreReadTables (catalog_of shape views) tables
  pub changes : AreChangesOf (catalog_of shape views) nights

-- so it is of what was read
abbrev pub IsFitReplay : ReplayInput → Type 0
IsFitReplay r = IsFitForNights r.shape (map shown_view r.opening.views.items) r.opening.tables.items (map shown_given r.nights.items)

-- its strategy is correct over these child lists, and was judged by them
abbrev pub IsJudgedRightly : List (List ℕ) → Vec Bag Global × Judged → Type 0
IsJudgedRightly children night = (night.1.children ≡ children) × IsCorrect children night.1.list

abbrev pub AreJudgedRightly : List (List ℕ) → List (Vec Bag Global × Judged) → Type 0
AreJudgedRightly children judged = All (IsJudgedRightly children) judged

-- why nights cannot be judged rightly: the first that is not correct, or memory was refused
abbrev pub IsNightsFault : List (List ℕ) → List GivenNight → CheckFault → Type 0
IsNightsFault children nights (Broken rule place) = IsFirstBrokenNight children nights rule place
IsNightsFault children nights Memory = Unit {0}

-- a machine over this catalogue can begin: these tables are contents of a base, and each night is one of the catalogue
pub record IsReady (catalog : CatalogOf) (tables : List Bag) (nights : List NightOfMachine) : Type 0 where
  pub catalogue : IsCatalog catalog
  pub opening : AreContents (graph_of catalog) (bag_at tables)
  pub tables_fit : AreBags catalog tables
  pub nights_fit : (n : ℕ) (given : NightOfMachine) → slice_get nights n ≡ Some given → IsGivenNight catalog given
