-- The rows of a view before and after a night, how many change, and what each of them weighs.
use Rattle.std.specs.Prelude.{◌≡◌, ℕ, ◌+◌, ◌*◌, ◌^◌, ◌<◌, ◌≤◌, List, slice_get, slice_index_or, Some}
use Rattle.wh_strategy.specs.declared.sizes.Size.{Size}
use Rattle.wh_strategy.specs.declared.sizes.SizeRow.{SizeRow}

-- the row is within its limits: each number of rows at most 2^40, post within a change of pre, and the weight 1 to 1,000
pub record IsSizeRow (row : SizeRow) : Type 0 where
  pub few_before : row.pre ≤ 2 ^ 40
  pub few_after : row.post ≤ 2 ^ 40
  pub small_change : row.change ≤ 2 ^ 40
  pub grows_within : row.post ≤ row.pre + row.change
  pub shrinks_within : row.pre ≤ row.post + row.change
  pub some_weight : 1 ≤ row.weight
  pub little_weight : row.weight ≤ 1000

-- each row is within its limits
abbrev pub AreSizeRows : List SizeRow → Type 0
AreSizeRows rows = (u : ℕ) (row : SizeRow) → slice_get rows u ≡ Some row → IsSizeRow row

-- the first row that is outside its limits is the one of this view
pub record IsFirstOutside (rows : List SizeRow) (view : ℕ) : Type 0 where
  pub row : SizeRow
  pub there : slice_get rows view ≡ Some row
  pub outside : IsSizeRow row → ⊥
  pub others : (u : ℕ) (earlier : SizeRow) → u < view → slice_get rows u ≡ Some earlier → IsSizeRow earlier

-- what a view counts as wherever work is reckoned: each of its numbers of rows times what a row weighs
abbrev pub size_of : SizeRow → Size
size_of row = record { pre = row.pre * row.weight; post = row.post * row.weight; change = row.change * row.weight }

-- what each view counts as: nothing for a number that is no view's
unfoldable pub sizes_of : List SizeRow → ℕ → Size
sizes_of rows u = size_of (slice_index_or rows u (record { pre = 0; post = 0; change = 0; weight = 1 }))

-- no number is above 2^50, as of rows within their limits none is
pub record IsLight (size : Size) : Type 0 where
  pub light_before : size.pre ≤ 2 ^ 50
  pub light_after : size.post ≤ 2 ^ 50
  pub light_change : size.change ≤ 2 ^ 50
