-- What is wrong with a part of sizes, each fault by itself and at its place.
use Rattle.std.specs.Prelude.{◌≡◌, ◌≢◌, ◌<◌, ℕ, ◌+◌, ◌&&◌, nat_le, Bool, false, not, List, [], ◌∷◌, length, map, slice_get, Option, Some, is_some, option_and_then}
use Rattle.wh_dag.specs.Written.{is_named, name_of, number_of}
use Rattle.wh_text.specs.FirstFault.{EndsByFirst, Place, fault_if}
use Rattle.wh_text.specs.WholeNumber.{whole_number}
use Rattle.wh_text.specs.declared.fault.LoadFault.{LoadFault}
use Rattle.wh_text.specs.declared.fault.LoadFault.TheVariants.{Number, Sizes}
use Rattle.wh_text_tables.specs.FaultPlaces.{Cells, Judging, PartWrong}
use Rattle.wh_text_tables.specs.Records.{cell, records_of}
use Rattle.wh_text_tables.specs.RowSizes.{rows_in, weight_in, weight_of}
use Rattle.wh_text_tables.specs.SizesText.{columns_of, sizes_of_text}
use Rattle.wh_text_tables.specs.declared.sizes.header.Columns.{Columns}

-- the name of the view whose sizes a row writes
abbrev pub view_in : Cells → List ℕ
view_in cells = cell cells 0

-- a cell is no whole number
abbrev pub is_no_number : List ℕ → Bool
is_no_number text = not (is_some (whole_number text))

-- the number of rows that a cell writes, from 0 to 2^40
abbrev pub rows_written : List ℕ → Option ℕ
rows_written text = option_and_then rows_in (whole_number text)

-- a cell writes no number in this range
abbrev pub is_out_of_range : List ℕ → Bool
is_out_of_range text = not (is_some (rows_written text))

-- pre and post are further apart than change
abbrev pub are_apart : Option ℕ → Option ℕ → Option ℕ → Bool
are_apart (Some pre) (Some post) (Some change) = not (nat_le post (pre + change) && nat_le pre (post + change))
are_apart _ _ _ = false

-- the weight of a row is no whole number
abbrev pub weighs_no_number : Columns → Cells → Bool
weighs_no_number columns cells = not (is_some (weight_of columns cells))

-- the weight of a row is no number from 1 to 1,000
abbrev pub weighs_out_of_range : Columns → Cells → Bool
weighs_out_of_range columns cells = not (is_some (option_and_then weight_in (weight_of columns cells)))

-- What is judged of a row: no view has the name, a row above has it; then pre, post, change and the weight, each as a number. Then come the
-- range of pre, post and change, how far pre and post are apart, and the range of the weight
abbrev pub size_judged : List (List ℕ) → Columns → List Cells → ℕ → Cells → List (Option LoadFault)
size_judged names columns above number cells =
    fault_if (not (is_named names (view_in cells))) (Sizes (view_in cells))
    ∷ fault_if (is_named (map view_in above) (view_in cells)) (Sizes (view_in cells))
    ∷ fault_if (is_no_number (cell cells 1)) (Number number)
    ∷ fault_if (is_no_number (cell cells 2)) (Number number)
    ∷ fault_if (is_no_number (cell cells 3)) (Number number)
    ∷ fault_if (weighs_no_number columns cells) (Number number)
    ∷ fault_if (is_out_of_range (cell cells 1)) (Sizes (view_in cells))
    ∷ fault_if (is_out_of_range (cell cells 2)) (Sizes (view_in cells))
    ∷ fault_if (is_out_of_range (cell cells 3)) (Sizes (view_in cells))
    ∷ fault_if (are_apart (rows_written (cell cells 1)) (rows_written (cell cells 2)) (rows_written (cell cells 3))) (Sizes (view_in cells))
    ∷ fault_if (weighs_out_of_range columns cells) (Sizes (view_in cells))
    ∷ []

-- the records of sizes of the views of these names
abbrev pub sizes_judging : List (List ℕ) → Judging Columns
sizes_judging names = record { kind_of = columns_of; judged = size_judged names }

-- none of these rows writes sizes of the view of this number
abbrev pub HasNoRow : List (List ℕ) → List Cells → ℕ → Type 0
HasNoRow names rows view = (place : ℕ) (cells : Cells) → slice_get rows place ≡ Some cells → number_of names (view_in cells) ≢ Some view

-- what is wrong with these records; a view without a row has its place below the last record, by its number
pub data SizesWrong (names : List (List ℕ)) (records : List Cells) (place : Place) (fault : LoadFault) : Type 0 where
  in_part : PartWrong (sizes_judging names) records place fault → SizesWrong names records place fault
  no_row : (header : Cells) (rows : List Cells) (view : ℕ) → records ≡ header ∷ rows → view < length names → HasNoRow names rows view → fault ≡ Sizes (name_of names view)
      → place ≡ (length rows + 2) ∷ view ∷ [] → SizesWrong names records place fault

-- a text of sizes is read as its first fault, and as sizes only where it has none
abbrev pub SizesEndByFirst : Type 0
SizesEndByFirst = (names : List (List ℕ)) (text : List ℕ) → EndsByFirst (SizesWrong names (records_of text)) (sizes_of_text names text)
