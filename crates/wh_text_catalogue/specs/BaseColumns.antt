-- The columns of a base view: its key `columns`.
use Rattle.std.specs.Prelude.{ℕ, List, [], ◌∷◌, ◌++◌, length, Bool, ◌==◌, ◌&&◌, nat_le, codes, if◌then◌else◌, Option, Some, None, ok_or, option_map, option_and_then, Result, Ok}
use Rattle.std.specs.List.{before_first, after_first}
use Rattle.std.specs.Str.{bytes_eq}
use Rattle.toml.specs.Data.{Data, as_str, get}
use Rattle.wh_text.specs.Columns.{NamedKind}
use Rattle.wh_text.specs.NameForm.{is_name}
use Rattle.wh_text.specs.declared.columns.Kind.{Kind}
use Rattle.wh_text.specs.declared.columns.Kind.TheVariants.{Int, Text}
use Rattle.wh_text.specs.declared.fault.Key.TheVariants as key
use Rattle.wh_text.specs.declared.fault.LoadFault.{LoadFault}
use Rattle.wh_text.specs.declared.fault.LoadFault.TheVariants as fault
use Rattle.wh_text.specs.ValueOrFault.{◌>>=◌}
use Rattle.wh_text_catalogue.specs.Catalogue.{array_of}
use Rattle.wh_text_catalogue.specs.ColumnNames.{checked, fresh_columns}

-- the kind that a word stands for
abbrev pub kind_named : List ℕ → Option Kind
kind_named word = if bytes_eq word (codes "int") then Some Int else (if bytes_eq word (codes "text") then Some Text else None)

-- the colon
abbrev pub colon : ℕ
colon = 58

-- a column that is written with its kind, as name:kind
abbrev pub kinded_column : List ℕ → List ℕ → Option NamedKind
kinded_column name word = if is_name name then option_map (λ kind. record { name = name; kind = kind }) (kind_named word) else None

-- a column as it is written: a name, which is one of whole numbers, or a name, a colon and a kind
abbrev pub column_in : List ℕ → Option NamedKind
column_in text =
    if is_name text then Some (record { name = text; kind = Int })
    else kinded_column (before_first (λ byte. byte == colon) text) (after_first (λ byte. byte == colon) text)

-- the columns that some values write, after those found; none where one has another form
abbrev pub columns_in : List NamedKind → List Data → Option (List NamedKind)
columns_in found [] = Some found
columns_in found (value ∷ rest) = option_and_then (λ column. columns_in (found ++ column ∷ []) rest) (option_and_then column_in (as_str value))

-- the count is 1 to 64
abbrev pub is_few : ℕ → Bool
is_few count = nat_le 1 count && nat_le count 64

-- the columns of an array of 1 to 64, else the key's fault
abbrev pub columns_written : Data → Result (List NamedKind) LoadFault
columns_written value = do
  columns ← ok_or (option_and_then (columns_in []) (array_of value)) (fault.Key key.Columns)
  checked (is_few (length columns)) (fault.Key key.Columns) columns

-- the columns of a base view: their form, then that no name stands twice
abbrev pub base_columns : Data → Result (List NamedKind) LoadFault
base_columns view = do
  value ← ok_or (get (codes "columns") view) (fault.Key key.Columns)
  columns ← columns_written value
  names ← fresh_columns [] columns
  Ok columns
