-- What a bundle gives to be checked: its views, their sizes, and a strategy.
use Rattle.std.specs.Prelude.{ℕ, List, Result, Ok}
use Rattle.wh_text.specs.declared.fault.LoadFault.{LoadFault}
use Rattle.wh_text_bundle.specs.declared.bundle.fault.Nights.TheVariants as nights
use Rattle.wh_text_bundle.specs.declared.bundle.heading.Heading.TheVariants as heading
use Rattle.wh_text_bundle.specs.declared.bundle.part.Part.{Part}
use Rattle.wh_text_catalogue.specs.Catalogue.{◌>>=◌, shape_of}
use Rattle.wh_text_tables.specs.SizesText.{sizes_of_text}
use Rattle.wh_text_lines.specs.StrategyText.{strategy_of}
use Rattle.wh_load.specs.ReadingParts.{parts_in, text_in}
use Rattle.wh_load.specs.ReadingPlan.{Measured, MeasuredTexts, measured_texts_in}
use Rattle.wh_strategy.specs.declared.expression.Expression.{Expression}

-- what a check is made of: views with their sizes, and a strategy
pub record Inputs : Type 0 where
  pub measured : Measured
  pub list : List Expression

-- the texts of the parts that have the views, their sizes and the strategy
pub record CheckTexts : Type 0 where
  pub measured : MeasuredTexts
  pub strategy : List ℕ

-- the texts of a check among the parts of a bundle; the first that is missing, in the order of the headings, is a fault
abbrev pub check_texts_in : List Part → Result CheckTexts LoadFault
check_texts_in parts = do
  measured ← measured_texts_in parts
  strategy ← text_in parts heading.Strategy 0
  Ok (record { measured = measured; strategy = strategy })

-- the texts of a check in a bundle of one night, or its first fault
abbrev pub check_texts_of : List ℕ → Result CheckTexts LoadFault
check_texts_of bytes = parts_in nights.First bytes >>= check_texts_in

-- what these texts say, or their first fault: the catalogue's, the strategy's, the sizes'
abbrev pub inputs_in : CheckTexts → Result Inputs LoadFault
inputs_in texts = do
  shape ← shape_of texts.measured.catalogue
  list ← strategy_of shape.names texts.strategy
  sizes ← sizes_of_text shape.names texts.measured.sizes
  Ok (record { measured = record { shape = shape; sizes = sizes }; list = list })

-- what the bytes of a bundle say for a check, or their first fault
abbrev pub inputs_of : List ℕ → Result Inputs LoadFault
inputs_of bytes = check_texts_of bytes >>= inputs_in
