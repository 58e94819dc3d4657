-- Reading sizes that were written.
use Rattle.std.specs.Prelude.{◌≡◌, ℕ, List, [], ◌∷◌, length, decimal, IsUtf8, Ok}
use Rattle.std.specs.List.{All, IsDistinct, flat_map}
use Rattle.std.specs.Str.{bytes_eq}
use Rattle.csv.specs.Writing.{default_writer, row_text}
use Rattle.wh_strategy.specs.Sizes.{AreSizeRows}
use Rattle.wh_strategy.specs.declared.sizes.SizeRow.{SizeRow}
use Rattle.wh_text_tables.specs.SizesText.{sizes_header, sizes_of_text}
use Rattle.wh_text_tables.specs.declared.sizes.header.Columns.{Columns}
use Rattle.wh_text_tables.specs.declared.sizes.header.Columns.TheVariants as of_columns

-- the cell of a weight, where there is a column of weights
abbrev pub weight_cell : Columns → SizeRow → List (List ℕ)
weight_cell of_columns.Plain size = []
weight_cell of_columns.Weighted size = decimal size.weight ∷ []

-- the record of a view: its name, its rows before and after the night, and how many change; and what a row weighs
abbrev pub size_record : Columns → List ℕ → SizeRow → List (List ℕ)
size_record columns name size = name ∷ decimal size.pre ∷ decimal size.post ∷ decimal size.change ∷ weight_cell columns size

-- the records of the views of these names, each with its sizes
unfoldable pub size_records : Columns → List (List ℕ) → List SizeRow → List (List (List ℕ))
size_records columns [] sizes = []
size_records columns (name ∷ names) [] = []
size_records columns (name ∷ names) (size ∷ sizes) = size_record columns name size ∷ size_records columns names sizes

-- the text of sizes in these columns: the header, and a record for each view in the order of their numbers, each on a line that LF ends
abbrev pub sizes_text : Columns → List (List ℕ) → List SizeRow → List ℕ
sizes_text columns names sizes = flat_map (row_text default_writer) (sizes_header columns ∷ size_records columns names sizes)

-- sizes of views of these names: names are UTF-8, none stands twice, and each view has a size within its limits
pub record AreSizesOf (names : List (List ℕ)) (sizes : List SizeRow) : Type 0 where
  pub distinct : IsDistinct bytes_eq names
  pub utf8 : All IsUtf8 names
  pub long : length sizes ≡ length names
  pub within : AreSizeRows sizes

-- the columns have room for these weights: any where there is a column of weights, else 1 alone
abbrev pub TellWeights : Columns → List SizeRow → Type 0
TellWeights of_columns.Plain sizes = All (λ size. size.weight ≡ 1) sizes
TellWeights of_columns.Weighted sizes = Unit {0}

-- sizes that were written are read back as they were, with a column of weights whatever these are, and without it where each is 1
abbrev pub SizesReadBack : Type 0
SizesReadBack = (columns : Columns) (names : List (List ℕ)) (sizes : List SizeRow) → AreSizesOf names sizes → TellWeights columns sizes
    → sizes_of_text names (sizes_text columns names sizes) ≡ Ok sizes
