-- The pairs of columns that are equal in a joined row: the key `join`.
use Rattle.std.specs.Prelude.{ℕ, List, [], ◌∷◌, ◌++◌, Bool, true, false, codes, Option, Some, None, ok_or, option_and_then, Result, Ok}
use Rattle.std.specs.Option.{option_or}
use Rattle.toml.specs.Data.{Data, get}
use Rattle.wh_text.specs.Columns.{NamedKind}
use Rattle.wh_text.specs.declared.columns.Kind.{Kind}
use Rattle.wh_text.specs.declared.columns.Kind.TheVariants.{Int, Text}
use Rattle.wh_text.specs.declared.fault.Key.TheVariants as key
use Rattle.wh_text.specs.declared.fault.LoadFault.{LoadFault}
use Rattle.wh_text.specs.declared.fault.LoadFault.TheVariants as fault
use Rattle.wh_text.specs.ValueOrFault.{◌>>=◌}
use Rattle.wh_text_catalogue.specs.Catalogue.{array_of}
use Rattle.wh_text_catalogue.specs.ColumnNames.{checked, unless_unknown}
use Rattle.wh_text_catalogue.specs.FormulaColumns.{unknown}
use Rattle.wh_text_catalogue.specs.FormulaKinds.{unfit}
use Rattle.wh_text_catalogue.specs.Header.{HeaderOf, cell_of}
use Rattle.wh_text_catalogue.specs.Pairs.{reference_in}
use Rattle.wh_text_catalogue.specs.declared.definitions.header.Cell.{Cell}

-- two references whose columns are equal
pub record WrittenLink : Type 0 where
  pub left : List ℕ
  pub right : List ℕ

-- a link of two references
abbrev pub linked : Option (List ℕ) → Option (List ℕ) → Option WrittenLink
linked (Some left) (Some right) = Some (record { left = left; right = right })
linked _ _ = None

-- a link as an array of two references
abbrev pub link_of : List Data → Option WrittenLink
link_of (left ∷ right ∷ []) = linked (reference_in left) (reference_in right)
link_of _ = None

-- the links that some values write, after those found; none where one has another form
abbrev pub links_in : List WrittenLink → List Data → Option (List WrittenLink)
links_in found [] = Some found
links_in found (value ∷ rest) = option_and_then (λ link. links_in (found ++ link ∷ []) rest) (option_and_then link_of (array_of value))

-- the links of an array, none where the key is missing; else the key's fault
abbrev pub links_written : Option Data → Result (List WrittenLink) LoadFault
links_written None = Ok []
links_written (Some value) = ok_or (option_and_then (links_in []) (array_of value)) (fault.Key key.Join)

-- the first of a link's references that names no column
abbrev pub unknown_in_link : List NamedKind → List ℕ → List ℕ → Option (List ℕ)
unknown_in_link columns left right = option_or (unknown columns left) (unknown columns right)

-- the first reference of some links that names no column
abbrev pub unknown_in_links : List NamedKind → List WrittenLink → Option (List ℕ)
unknown_in_links columns [] = None
unknown_in_links columns (link ∷ rest) = option_or (unknown_in_link columns link.left link.right) (unknown_in_links columns rest)

-- the two kinds are one
abbrev pub same_kind : Kind → Kind → Bool
same_kind Int Int = true
same_kind Text Text = true
same_kind _ _ = false

-- the cell that a reference names
abbrev pub linked_cell : HeaderOf → List ℕ → Result Cell LoadFault
linked_cell header reference = ok_or (cell_of header.columns reference) (unfit header)

-- the places of a link's columns, which are of one kind
abbrev pub joined_link : HeaderOf → List ℕ → List ℕ → Result (ℕ × ℕ) LoadFault
joined_link header left right = do
  first ← linked_cell header left
  second ← linked_cell header right
  checked (same_kind first.kind second.kind) (unfit header) (first.place, second.place)

-- the places of some links, after those found
abbrev pub joined : HeaderOf → List (ℕ × ℕ) → List WrittenLink → Result (List (ℕ × ℕ)) LoadFault
joined header found [] = Ok found
joined header found (link ∷ rest) = do
  places ← joined_link header link.left link.right
  joined header (found ++ places ∷ []) rest

-- the places that are equal in a joined row: the form of all links, then their columns, then their kinds
abbrev pub join_of : HeaderOf → Data → Result (List (ℕ × ℕ)) LoadFault
join_of header view = do
  links ← links_written (get (codes "join") view)
  known ← unless_unknown (unknown_in_links header.columns links) links
  joined header [] known
