-- What a row of sizes writes.
use Rattle.std.specs.Prelude.{ℕ, ◌+◌, ◌^◌, ℤ, pos, negsuc, nat_le, ◌&&◌, List, Option, Some, None, if◌then◌else◌, option_and_then, option_map}
use Rattle.wh_strategy.specs.declared.sizes.SizeRow.{SizeRow}
use Rattle.wh_text.specs.WholeNumber.{whole_number}
use Rattle.wh_text_tables.specs.Records.{cell}
use Rattle.wh_text_tables.specs.declared.sizes.Counts.{Counts}
use Rattle.wh_text_tables.specs.declared.sizes.header.Columns.{Columns}
use Rattle.wh_text_tables.specs.declared.sizes.header.Columns.TheVariants as of_columns

-- a step that may find nothing, and then the next
infixl 10 ◌>>=◌
abbrev pub ◌>>=◌ : {A B : Type 0} → Option A → (A → Option B) → Option B
o >>= f = option_and_then f o

-- the weight of a row as a number: 1 where there is no column of weights, else the whole number that its fifth cell writes, if it writes
-- one
abbrev pub weight_of : Columns → List (List ℕ) → Option ℤ
weight_of of_columns.Plain row = Some (pos 1)
weight_of of_columns.Weighted row = whole_number (cell row 4)

-- the numbers of a row, where each is a whole number
unfoldable pub counts_of : Columns → List (List ℕ) → Option Counts
counts_of columns row = do
  pre ← whole_number (cell row 1)
  post ← whole_number (cell row 2)
  change ← whole_number (cell row 3)
  weight ← weight_of columns row
  Some (record { pre = pre; post = post; change = change; weight = weight })

-- a number of rows: from 0 to 2^40
abbrev pub rows_in : ℤ → Option ℕ
rows_in (pos n) = if nat_le n (2 ^ 40) then Some n else None
rows_in (negsuc n) = None

-- a weight: from 1 to 1,000
abbrev pub weight_in : ℤ → Option ℕ
weight_in (pos n) = if nat_le 1 n && nat_le n 1000 then Some n else None
weight_in (negsuc n) = None

-- the sizes that such numbers are: each number of rows from 0 to 2^40, post no further from pre than change, and the weight from 1 to 1,000
unfoldable pub size_within : Counts → Option SizeRow
size_within counts = do
  pre ← rows_in counts.pre
  post ← rows_in counts.post
  change ← rows_in counts.change
  if nat_le post (pre + change) && nat_le pre (post + change) then option_map (λ weight. record { pre = pre; post = post; change = change; weight = weight }) (weight_in counts.weight) else None
