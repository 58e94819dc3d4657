-- The sizes of the views as a part writes them: a header, and a row of each view, in any order. A view is its number.
use Rattle.std.specs.Prelude.{ℕ, not, List, [], ◌∷◌, length, codes, position, replicate, slice_index_or, slice_set, Option, Some, None, ok_or, Result, Ok, Err, if◌then◌else◌, is_some, option_map}
use Rattle.std.specs.Cmp.Lexicographic.{pointwise}
use Rattle.std.specs.List.{filter_map}
use Rattle.std.specs.Str.{bytes_eq}
use Rattle.wh_dag.specs.Written.{name_of, number_of}
use Rattle.wh_strategy.specs.declared.sizes.SizeRow.{SizeRow}
use Rattle.wh_text.specs.declared.fault.LoadFault.{LoadFault}
use Rattle.wh_text.specs.declared.fault.LoadFault.TheVariants.{Number, Sizes}
use Rattle.wh_text.specs.ValueOrFault.{◌>>=◌, or_fault}
use Rattle.wh_text_tables.specs.Part.{Scheme, part_of}
use Rattle.wh_text_tables.specs.Records.{cell}
use Rattle.wh_text_tables.specs.RowSizes.{counts_of, size_within}
use Rattle.wh_text_tables.specs.declared.sizes.header.Columns.{Columns}
use Rattle.wh_text_tables.specs.declared.sizes.header.Columns.TheVariants as of_columns

-- The header.

-- the cell of a column of weights, where there is one
abbrev pub weight_heading : Columns → List (List ℕ)
weight_heading of_columns.Plain = []
weight_heading of_columns.Weighted = codes "weight" ∷ []

-- The cells of the header: a view's name, its rows before and after a night, and how many of them change. What a row weighs comes last,
-- where there is such a column
abbrev pub sizes_header : Columns → List (List ℕ)
sizes_header columns = codes "view" ∷ codes "pre" ∷ codes "post" ∷ codes "change" ∷ weight_heading columns

-- the columns that a header has, if it is one of sizes
abbrev pub columns_of : List (List ℕ) → Option Columns
columns_of header =
    if pointwise bytes_eq header (sizes_header of_columns.Plain) then Some of_columns.Plain
    else if pointwise bytes_eq header (sizes_header of_columns.Weighted) then Some of_columns.Weighted
    else None

-- A row: what it makes of what the rows before gave, view by view, in the order in which its cells are judged.

-- the view of this number, which must not have been given sizes before
abbrev pub view_without : List (Option SizeRow) → List ℕ → Option ℕ → Result ℕ LoadFault
view_without given name None = Err (Sizes name)
view_without given name (Some view) = if is_some (slice_index_or given view None) then Err (Sizes name) else Ok view

-- the view of this name
abbrev pub fresh_view : List (List ℕ) → List (Option SizeRow) → List ℕ → Result ℕ LoadFault
fresh_view names given name = view_without given name (number_of names name)

-- the sizes that a row of this number writes: its numbers are judged before their ranges
abbrev pub size_written : Columns → ℕ → List (List ℕ) → Result SizeRow LoadFault
size_written columns number row = do
  counts ← ok_or (counts_of columns row) (Number number)
  ok_or (size_within counts) (Sizes (cell row 0))

-- the view that the row names has the sizes that the row writes: its name is judged first
abbrev pub placed : List (List ℕ) → Columns → List (Option SizeRow) → ℕ → List (List ℕ) → Result (List (Option SizeRow)) LoadFault
placed names columns given number row = do
  view ← fresh_view names given (cell row 0)
  size ← size_written columns number row
  Ok (slice_set given view (Some size))

-- All rows.

-- the scheme of parts that have sizes of the views of these names
abbrev pub sizes_scheme : List (List ℕ) → Scheme Columns (List (Option SizeRow))
sizes_scheme names = record { kind_of = columns_of; take = placed names }

-- the first view that was given no sizes
abbrev pub missing_fault : List (List ℕ) → List (Option SizeRow) → Option LoadFault
missing_fault names given = option_map (λ view. Sizes (name_of names view)) (position (λ size. not (is_some size)) given)

-- the sizes of all views, of which each must have been given its own
abbrev pub all_sizes : List (List ℕ) → List (Option SizeRow) → Result (List SizeRow) LoadFault
all_sizes names given = or_fault (missing_fault names given) (Ok (filter_map (λ size. size) given))

-- what the text of a part gives the views of these names: their sizes, by their numbers, or the first fault
unfoldable pub sizes_of_text : List (List ℕ) → List ℕ → Result (List SizeRow) LoadFault
sizes_of_text names text = do
  given ← part_of (sizes_scheme names) (replicate (length names) None) text
  all_sizes names given
