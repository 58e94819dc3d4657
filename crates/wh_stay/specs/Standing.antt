-- A warehouse that stays, as it lies in memory: its machine, and what the parts of later nights are read over.
use Rattle.std.specs.Prelude.{◌≡◌, ℕ, List, Option, length, map, option_map}
use Rattle.wh_dag.specs.Catalog.{CatalogOf}
use Rattle.wh_core.specs.Standing.{IsStanding, catalog_of}
use Rattle.wh_core.specs.declared.warehouse.Core.{Core}
use Rattle.wh_text_catalogue.specs.Definitions.{ViewOf, shown_view}
use Rattle.wh_text_catalogue.specs.FormulaKinds.{Texts}
use Rattle.wh_stay.specs.declared.standing.Live.{Live}
use Rattle.wh_stay.specs.declared.standing.Standing.{Standing}
use Rattle.wh_stay.specs.declared.standing.StandingTexts.{StandingTexts}

-- the names and the views of a catalogue, the texts that cells stand for, and the text of the strategy of nights that write none
pub record StandingOf : Type 0 where
  pub names : List (List ℕ)
  pub views : List ViewOf
  pub texts : Texts
  pub strategy : Option (List ℕ)

-- the same with these texts
abbrev pub with_texts : StandingOf → Texts → StandingOf
with_texts w texts = record { names = w.names; views = w.views; texts = texts; strategy = w.strategy }

-- how many columns each of these views has
abbrev pub widths_of : List ViewOf → List ℕ
widths_of views = map (λ view. length view.columns) views

-- what stands where an opening over this catalogue has these texts
abbrev pub standing_with : CatalogOf → StandingTexts → StandingOf
standing_with catalog given = record {
  names = catalog.views.names;
  views = map shown_view given.views.items;
  texts = given.texts;
  strategy = option_map (λ own. own.items) given.strategy;
}

-- the machine of a warehouse
abbrev pub core_of : {F G : Type 0} → Live F G → Core F G
core_of live = live.core

-- what stands, as it lies in memory
abbrev pub shown_standing : Standing → StandingOf
shown_standing standing = record {
  names = standing.names;
  views = map shown_view standing.views.items;
  texts = standing.texts;
  strategy = option_map (λ own. own.items) standing.strategy;
}

-- what stands in a warehouse
abbrev pub standing_of : {F G : Type 0} → Live F G → StandingOf
standing_of live = shown_standing live.standing

-- some legal run leaves its machine so, and the views have as many columns as those of the machine's catalogue
pub record IsLive {F G : Type 0} (live : Live F G) : Type 0 where
  pub core : IsStanding (core_of live)
  pub widths : widths_of (standing_of live).views ≡ (catalog_of (core_of live)).widths
