-- The records of a CSV part, and what every reader of such a part asks of a record's form.
use Rattle.std.specs.Prelude.{ℕ, ◌&&◌, ◌==◌, List, length, slice_index_or, [], Option, Some, None, if◌then◌else◌}
use Rattle.std.specs.List.{list_all}
use Rattle.std.specs.Str.{is_utf8}
use Rattle.csv.specs.Reading.{default_config, records, strip_bom}
use Rattle.wh_text.specs.declared.fault.LoadFault.{LoadFault}
use Rattle.wh_text.specs.declared.fault.LoadFault.TheVariants.{Csv}

-- the records of a part, as the `csv` crate reads it: after a byte order mark, by commas, quotes and line ends; an empty line is none
abbrev pub records_of : List ℕ → List (List (List ℕ))
records_of text = records default_config (strip_bom text)

-- the cell at this place of a record, the first at 0
abbrev pub cell : List (List ℕ) → ℕ → List ℕ
cell cells place = slice_index_or cells place []

-- what is wrong with the form of the record of this number: a cell is not UTF-8, or it has another length than the header
abbrev pub form_fault : ℕ → ℕ → List (List ℕ) → Option LoadFault
form_fault width number cells = if list_all is_utf8 cells && (length cells == width) then None else Some (Csv number)
