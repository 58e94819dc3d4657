-- The columns of a derived view: the keys `keep`, or `group`, `count` and `sum`.
use Rattle.std.specs.Prelude.{ℕ, List, [], ◌∷◌, ◌++◌, length, ◌&&◌, nat_le, codes, Option, Some, None, ok_or, option_and_then, Result, Ok, Err}
use Rattle.toml.specs.Data.{Data, as_str, get}
use Rattle.wh_dag.specs.Catalog.{OutputOf, Keep, Sums}
use Rattle.wh_text.specs.Columns.{NamedKind}
use Rattle.wh_text.specs.declared.columns.Kind.TheVariants.{Int}
use Rattle.wh_text.specs.declared.fault.Key.TheVariants as key
use Rattle.wh_text.specs.declared.fault.LoadFault.{LoadFault}
use Rattle.wh_text.specs.declared.fault.LoadFault.TheVariants as fault
use Rattle.wh_text_catalogue.specs.BaseColumns.{is_few}
use Rattle.wh_text.specs.ValueOrFault.{◌>>=◌}
use Rattle.wh_text_catalogue.specs.Catalogue.{name_in}
use Rattle.wh_text_catalogue.specs.ColumnNames.{Seen, checked, fresh_name}
use Rattle.wh_text_catalogue.specs.FormulaKinds.{Texts}
use Rattle.wh_text_catalogue.specs.Header.{HeaderOf}
use Rattle.wh_text_catalogue.specs.Pairs.{WrittenPair, TypedColumns, GroupColumns, are_exprs, are_references, group_columns, grouped, known_pairs, pairs_written, typed_columns, typed_pairs}
use Rattle.wh_text_catalogue.specs.declared.definitions.output.WrittenOutput.{WrittenOutput}
use Rattle.wh_text_catalogue.specs.declared.definitions.output.WrittenOutput.TheVariants as written
use Rattle.wh_text_catalogue.specs.declared.definitions.typed_pairs.KindRule.TheVariants.{AnyKind, Numbers}

-- a derived view's columns, and what they are made of
pub record ColumnsOf : Type 0 where
  pub columns : List NamedKind
  pub output : OutputOf

-- the output that lists in memory make
abbrev pub shown_output : WrittenOutput → OutputOf
shown_output (written.Keep exprs) = Keep exprs.items
shown_output (written.Sums group sums) = Sums group.items sums.items

-- columns and their output, and the texts once all literals have numbers
abbrev pub OutputOutcome : Type 0
OutputOutcome = Result (ColumnsOf × Texts) LoadFault

-- the kept columns of a joined view: the form of 1 to 64 pairs, then their names and columns, then their kinds
abbrev pub joined_columns : HeaderOf → Data → Texts → OutputOutcome
joined_columns header value texts = do
  pairs ← pairs_written key.Keep value
  formed ← checked (is_few (length pairs) && are_exprs pairs) (fault.Key key.Keep) pairs
  names ← known_pairs header.columns [] formed
  typed ← typed_pairs header AnyKind (typed_columns [] []) formed texts
  Ok (record { columns = typed.0.columns; output = Keep typed.0.exprs }, typed.1)

-- the pairs of `group`: of a name and a reference
abbrev pub group_written : Data → Result (List WrittenPair) LoadFault
group_written value = do
  pairs ← pairs_written key.Group value
  checked (are_references pairs) (fault.Key key.Group) pairs

-- the name of the column that counts, of the form of a name
abbrev pub count_written : Data → Result (List ℕ) LoadFault
count_written view = ok_or (option_and_then name_in (option_and_then as_str (get (codes "count") view))) (fault.Key key.Count)

-- the pairs of `sum`: of a name and an expression
abbrev pub sum_pairs_in : Data → Result (List WrittenPair) LoadFault
sum_pairs_in value = do
  pairs ← pairs_written key.Sum value
  checked (are_exprs pairs) (fault.Key key.Sum) pairs

-- the pairs of this key, none where it is missing
abbrev pub sum_pairs_at : Option Data → Result (List WrittenPair) LoadFault
sum_pairs_at None = Ok []
sum_pairs_at (Some value) = sum_pairs_in value

-- the columns by which a summary groups, and their names
pub record Groups : Type 0 where
  pub names : Seen
  pub found : GroupColumns

-- the groups of these names, columns and places
abbrev pub groups : Seen → List NamedKind → List ℕ → Groups
groups names columns places = record { names = names; found = group_columns columns places }

-- `group`: its form, then its names and columns, then its cells
abbrev pub groups_of : HeaderOf → Data → Result Groups LoadFault
groups_of header value = do
  pairs ← group_written value
  names ← known_pairs header.columns [] pairs
  found ← grouped header (group_columns [] []) pairs
  Ok (record { names = names; found = found })

-- the column that counts
abbrev pub count_column : List ℕ → NamedKind
count_column name = record { name = name; kind = Int }

-- `sum`, after these names and columns: its form, then its names and columns, then its kinds
abbrev pub sum_columns : HeaderOf → Seen → List NamedKind → Data → Texts → Result (TypedColumns × Texts) LoadFault
sum_columns header seen columns view texts = do
  pairs ← sum_pairs_at (get (codes "sum") view)
  names ← known_pairs header.columns seen pairs
  typed_pairs header Numbers (typed_columns columns []) pairs texts

-- a summary: its groups, its count, its sums, at most 64 columns in all
abbrev pub summary_columns : HeaderOf → Data → Data → Texts → OutputOutcome
summary_columns header view value texts = do
  groups ← groups_of header value
  count ← count_written view
  names ← fresh_name groups.names count
  sums ← sum_columns header names (groups.found.columns ++ count_column count ∷ []) view texts
  columns ← checked (nat_le (length sums.0.columns) 64) (fault.Key key.Group) sums.0.columns
  Ok (record { columns = columns; output = Sums groups.found.places sums.0.exprs }, sums.1)

-- the columns of a view with `keep`, a joined view, which has no `group`
abbrev pub joined_columns_alone : HeaderOf → Data → Option Data → Texts → OutputOutcome
joined_columns_alone header value None texts = joined_columns header value texts
joined_columns_alone header value (Some group) texts = do
  columns ← joined_columns header value texts
  Err (fault.Key key.Group)

-- the columns of a view without `keep`, a summary, which has `group`
abbrev pub summary_columns_if_grouped : HeaderOf → Data → Option Data → Texts → OutputOutcome
summary_columns_if_grouped header view None texts = Err (fault.Key key.Keep)
summary_columns_if_grouped header view (Some group) texts = summary_columns header view group texts

-- the columns of a view, which has one of `keep` and `group`
abbrev pub output_at : HeaderOf → Data → Option Data → Option Data → Texts → OutputOutcome
output_at header view None group texts = summary_columns_if_grouped header view group texts
output_at header view (Some keep) group texts = joined_columns_alone header keep group texts

-- the columns of a derived view, which the keys `keep`, or `group`, `count` and `sum` write
abbrev pub output_of : HeaderOf → Data → Texts → OutputOutcome
output_of header view texts = output_at header view (get (codes "keep") view) (get (codes "group") view) texts
