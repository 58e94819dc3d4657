-- What a bundle gives to be planned for: its views, and their sizes.
use Rattle.std.specs.Prelude.{ℕ, List, Result, Ok}
use Rattle.wh_dag.specs.Shape.{Views}
use Rattle.wh_text.specs.declared.fault.LoadFault.{LoadFault}
use Rattle.wh_text_bundle.specs.declared.bundle.fault.Nights.TheVariants as nights
use Rattle.wh_text_bundle.specs.declared.bundle.heading.Heading.TheVariants as heading
use Rattle.wh_text_bundle.specs.declared.bundle.part.Part.{Part}
use Rattle.wh_text_catalogue.specs.Catalogue.{◌>>=◌, shape_of}
use Rattle.wh_text_tables.specs.SizesText.{sizes_of_text}
use Rattle.wh_load.specs.ReadingParts.{parts_in, text_in}
use Rattle.wh_strategy.specs.declared.sizes.SizeRow.{SizeRow}

-- the views, and their sizes
pub record Measured : Type 0 where
  pub shape : Views
  pub sizes : List SizeRow

-- the texts of the parts that have the views and their sizes
pub record MeasuredTexts : Type 0 where
  pub catalogue : List ℕ
  pub sizes : List ℕ

-- the texts of views and sizes among the parts of a bundle; the first that is missing, in the order of the headings, is a fault
abbrev pub measured_texts_in : List Part → Result MeasuredTexts LoadFault
measured_texts_in parts = do
  catalogue ← text_in parts heading.Catalogue 0
  sizes ← text_in parts heading.Sizes 0
  Ok (record { catalogue = catalogue; sizes = sizes })

-- what these texts say, or their first fault: the catalogue's, the sizes'
abbrev pub measured_in : MeasuredTexts → Result Measured LoadFault
measured_in texts = do
  shape ← shape_of texts.catalogue
  sizes ← sizes_of_text shape.names texts.sizes
  Ok (record { shape = shape; sizes = sizes })

-- the texts of views and sizes in a bundle of any nights, or its first fault
abbrev pub measured_texts_of : List ℕ → Result MeasuredTexts LoadFault
measured_texts_of bytes = parts_in nights.Ignored bytes >>= measured_texts_in

-- what the bytes of a bundle have to be planned for, or their first fault
abbrev pub measured_of : List ℕ → Result Measured LoadFault
measured_of bytes = measured_texts_of bytes >>= measured_in
