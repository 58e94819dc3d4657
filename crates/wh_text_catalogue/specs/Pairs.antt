-- Arrays of pairs of a name and a formula, as `keep`, `group` and `sum` write them.
use Rattle.std.specs.Prelude.{ℕ, List, [], ◌∷◌, ◌++◌, Bool, true, if◌then◌else◌, is_some, Option, Some, None, ok_or, option_and_then, Result, Ok}
use Rattle.std.specs.List.{list_all}
use Rattle.toml.specs.Data.{Data, string, as_str}
use Rattle.wh_formula.specs.Expr.{ExprTree}
use Rattle.wh_text.specs.Columns.{NamedKind}
use Rattle.wh_text.specs.NameForm.{is_name}
use Rattle.wh_text.specs.declared.columns.Kind.{Kind}
use Rattle.wh_text.specs.declared.fault.Key.{Key}
use Rattle.wh_text.specs.declared.fault.LoadFault.{LoadFault}
use Rattle.wh_text.specs.declared.fault.LoadFault.TheVariants as fault
use Rattle.wh_text.specs.ValueOrFault.{◌>>=◌}
use Rattle.wh_text_catalogue.specs.Catalogue.{array_of}
use Rattle.wh_text_catalogue.specs.ColumnNames.{Seen, checked, fresh_name, unless_unknown}
use Rattle.wh_text_catalogue.specs.Formula.{is_whole_expr, unknown_column, whole_expr}
use Rattle.wh_text_catalogue.specs.FormulaKinds.{ExprOutcome, Texts, is_int, unfit}
use Rattle.wh_text_catalogue.specs.Header.{HeaderOf, cell_of}
use Rattle.wh_text_catalogue.specs.Reference.{is_reference}
use Rattle.wh_text_catalogue.specs.declared.definitions.formula_kinds.TypedExpr.{TypedExpr}
use Rattle.wh_text_catalogue.specs.declared.definitions.header.Cell.{Cell}
use Rattle.wh_text_catalogue.specs.declared.definitions.typed_pairs.KindRule.{KindRule}
use Rattle.wh_text_catalogue.specs.declared.definitions.typed_pairs.KindRule.TheVariants.{AnyKind, Numbers}

-- a column's name, and the formula that gives its cells
pub record WrittenPair : Type 0 where
  pub name : List ℕ
  pub value : Data

-- a pair whose name has the form of a name
abbrev pub named_pair : List ℕ → Data → Option WrittenPair
named_pair name value = if is_name name then Some (record { name = name; value = value }) else None

-- a pair of a name and any value
abbrev pub pair_of : List Data → Option WrittenPair
pair_of (string name ∷ value ∷ []) = named_pair name value
pair_of _ = None

-- the pairs that some values write, after those found; none where one has another form
abbrev pub pairs_in : List WrittenPair → List Data → Option (List WrittenPair)
pairs_in found [] = Some found
pairs_in found (value ∷ rest) = option_and_then (λ pair. pairs_in (found ++ pair ∷ []) rest) (option_and_then pair_of (array_of value))

-- the pairs of an array, else the key's fault
abbrev pub pairs_written : Key → Data → Result (List WrittenPair) LoadFault
pairs_written key value = ok_or (option_and_then (pairs_in []) (array_of value)) (fault.Key key)

-- the formula of each pair is an expression
abbrev pub are_exprs : List WrittenPair → Bool
are_exprs pairs = list_all (λ pair. is_whole_expr pair.value) pairs

-- the text, none where it has not the form of a reference
abbrev pub referring : List ℕ → Option (List ℕ)
referring text = if is_reference text then Some text else None

-- the text of a reference
abbrev pub reference_in : Data → Option (List ℕ)
reference_in value = option_and_then referring (as_str value)

-- the formula of each pair is a reference
abbrev pub are_references : List WrittenPair → Bool
are_references pairs = list_all (λ pair. is_some (reference_in pair.value)) pairs

-- the names of some pairs after those seen, pair by pair: its name is new, then all of its references name columns
abbrev pub known_pairs : List NamedKind → Seen → List WrittenPair → Result Seen LoadFault
known_pairs columns seen [] = Ok seen
known_pairs columns seen (pair ∷ rest) = do
  names ← fresh_name seen pair.name
  known ← unless_unknown (unknown_column columns pair.value) names
  known_pairs columns known rest

-- columns, and the expressions that give the cells of the last of them
pub record TypedColumns : Type 0 where
  pub columns : List NamedKind
  pub exprs : List ExprTree

-- columns and expressions as one
abbrev pub typed_columns : List NamedKind → List ExprTree → TypedColumns
typed_columns columns exprs = record { columns = columns; exprs = exprs }

-- the columns with one more, which this expression gives
abbrev pub with_expr : TypedColumns → List ℕ → TypedExpr → TypedColumns
with_expr found name typed = record {
  columns = found.columns ++ record { name = name; kind = typed.kind } ∷ [];
  exprs = found.exprs ++ typed.expr ∷ [];
}

-- the kinds that a key takes
abbrev pub takes_kind : KindRule → Kind → Bool
takes_kind AnyKind kind = true
takes_kind Numbers kind = is_int kind

-- an expression of a kind that the key takes
abbrev pub typed_cell : HeaderOf → KindRule → Data → Texts → ExprOutcome
typed_cell header rule value texts = do
  typed ← whole_expr header value texts
  checked (takes_kind rule typed.0.kind) (unfit header) typed

-- the columns that some pairs make, after those found, and the texts once all literals have numbers
abbrev pub typed_pairs : HeaderOf → KindRule → TypedColumns → List WrittenPair → Texts → Result (TypedColumns × Texts) LoadFault
typed_pairs header rule found [] texts = Ok (found, texts)
typed_pairs header rule found (pair ∷ rest) texts = do
  typed ← typed_cell header rule pair.value texts
  typed_pairs header rule (with_expr found pair.name typed.0) rest typed.1

-- columns by which a summary groups, and the places of their cells
pub record GroupColumns : Type 0 where
  pub columns : List NamedKind
  pub places : List ℕ

-- columns and places as one
abbrev pub group_columns : List NamedKind → List ℕ → GroupColumns
group_columns columns places = record { columns = columns; places = places }

-- the columns with one more, of this cell
abbrev pub with_cell : GroupColumns → List ℕ → Cell → GroupColumns
with_cell found name cell = record {
  columns = found.columns ++ record { name = name; kind = cell.kind } ∷ [];
  places = found.places ++ cell.place ∷ [];
}

-- the cell that a value names
abbrev pub group_cell : HeaderOf → Data → Result Cell LoadFault
group_cell header value = ok_or (option_and_then (cell_of header.columns) (reference_in value)) (unfit header)

-- the columns that some pairs of a name and a reference make, after those found
abbrev pub grouped : HeaderOf → GroupColumns → List WrittenPair → Result GroupColumns LoadFault
grouped header found [] = Ok found
grouped header found (pair ∷ rest) = do
  cell ← group_cell header pair.value
  grouped header (with_cell found pair.name cell) rest
