-- The names of columns as the keys of a catalogue write them: none twice.
use Rattle.std.specs.Prelude.{ℕ, List, [], ◌∷◌, ◌++◌, Bool, if◌then◌else◌, Option, Some, None, Result, Ok, Err}
use Rattle.std.specs.List.{list_any}
use Rattle.std.specs.Str.{bytes_eq}
use Rattle.wh_text.specs.Columns.{NamedKind}
use Rattle.wh_text.specs.declared.fault.LoadFault.{LoadFault}
use Rattle.wh_text.specs.declared.fault.LoadFault.TheVariants as fault
use Rattle.wh_text.specs.ValueOrFault.{◌>>=◌}

-- the names of columns that stood earlier in a view
abbrev pub Seen : Type 0
Seen = List (List ℕ)

-- the names with one more, which must not have stood earlier
abbrev pub fresh_name : Seen → List ℕ → Result Seen LoadFault
fresh_name seen name = if list_any (bytes_eq name) seen then Err (fault.Column name) else Ok (seen ++ name ∷ [])

-- the value, unless a text names no column
abbrev pub unless_unknown : {A : Type 0} → Option (List ℕ) → A → Result A LoadFault
unless_unknown None value = Ok value
unless_unknown (Some text) value = Err (fault.Column text)

-- the value, if it passes a test
abbrev pub checked : {A : Type 0} → Bool → LoadFault → A → Result A LoadFault
checked passes first value = if passes then Ok value else Err first

-- the names of some columns, after those seen
abbrev pub fresh_columns : Seen → List NamedKind → Result Seen LoadFault
fresh_columns seen [] = Ok seen
fresh_columns seen (column ∷ rest) = do
  names ← fresh_name seen column.name
  fresh_columns names rest
