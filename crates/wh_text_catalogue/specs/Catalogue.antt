-- What the text of a catalogue says of its views: their names, and which views each is over.
use Rattle.std.specs.Prelude.{ℕ, Bool, if◌then◌else◌, List, [], ◌∷◌, map, codes, Option, Some, None, is_some, ok_or, option_map, option_and_then, Result, Ok, Err}
use Rattle.std.specs.List.{list_all}
use Rattle.std.specs.Option.{option_transpose}
use Rattle.std.specs.Str.{is_utf8}
use Rattle.toml.specs.Data.{Data, Items, no_items, item, Members, as_array, as_str, as_table, get, get_member}
use Rattle.toml.specs.Parse.{parse_document}
use Rattle.wh_dag.specs.Fault.{first_fault}
use Rattle.wh_dag.specs.Shape.{Views}
use Rattle.wh_dag.specs.Written.{children_written, written}
use Rattle.wh_dag.specs.declared.fault.ShapeFault.{ShapeFault}
use Rattle.wh_text.specs.NameForm.{is_name}
pub use Rattle.wh_text.specs.ValueOrFault.{◌>>=◌}
use Rattle.wh_text.specs.declared.fault.Key.TheVariants as key
use Rattle.wh_text.specs.declared.fault.LoadFault.{LoadFault}
use Rattle.wh_text.specs.declared.fault.LoadFault.TheVariants as fault

-- the values of an array as a list
abbrev pub elements : Items → List Data
elements no_items = []
elements (item value rest) = value ∷ elements rest

-- the values of an array, none where it is no array
abbrev pub array_of : Data → Option (List Data)
array_of value = option_map elements (as_array value)

-- the value is a table
abbrev pub is_table : Data → Bool
is_table value = is_some (as_table value)

-- the values, none where one of them is no table
abbrev pub tables_of : List Data → Option (List Data)
tables_of values = if list_all is_table values then Some values else None

-- the views of a document: its array of tables at `view`
abbrev pub views_of : Members → Option (List Data)
views_of document = option_and_then tables_of (option_and_then array_of (get_member (codes "view") document))

-- the text, none where it has not the form of a name
abbrev pub name_in : List ℕ → Option (List ℕ)
name_in text = if is_name text then Some text else None

-- the name of a view: the text at `name`, which has the form of a name
abbrev pub view_name : Data → Option (List ℕ)
view_name value = option_and_then name_in (option_and_then as_str (get (codes "name") value))

-- the name of a view, else the key's fault
abbrev pub named : Data → Result (List ℕ) LoadFault
named value = ok_or (view_name value) (fault.Key key.Name)

-- the values as texts, none where one is no text
abbrev pub texts_of : List Data → Option (List (List ℕ))
texts_of [] = Some []
texts_of (value ∷ rest) = option_and_then (λ text. option_map (λ texts. text ∷ texts) (texts_of rest)) (as_str value)

-- an array of texts, else the key's fault
abbrev pub over_in : Data → Result (List (List ℕ)) LoadFault
over_in value = ok_or (option_and_then texts_of (array_of value)) (fault.Key key.Over)

-- the names of the views that a view is over, none where it has no `over`: it is a base view then
abbrev pub view_over : Data → Result (Option (List (List ℕ))) LoadFault
view_over value = option_transpose (option_map over_in (get (codes "over") value))

-- the views by name, and for each the names of those that it is over, as written
pub record WrittenViews : Type 0 where
  pub names : List (List ℕ)
  pub over : List (Option (List (List ℕ)))

-- the views of these tables, or the first fault, view by view: its name, then what it is over
abbrev pub written_views : List Data → Result WrittenViews LoadFault
written_views [] = Ok (record { names = []; over = [] })
written_views (value ∷ rest) = do
  name ← named value
  over ← view_over value
  others ← written_views rest
  Ok (record { names = name ∷ others.names; over = over ∷ others.over })

-- the shape of these views, where this is their fault as a shape
abbrev pub judged : WrittenViews → Option ShapeFault → Result Views LoadFault
judged written None = Ok (record { names = written.names; children = map (children_written written.names) written.over })
judged written (Some first) = Err (fault.Shape first)

-- the shape that the views make, or its first fault
abbrev pub shape_written : WrittenViews → Result Views LoadFault
shape_written written = judged written (first_fault written.names written.over)

-- the document that a text is, in UTF-8 and TOML
abbrev pub document_of : List ℕ → Result Members LoadFault
document_of text = if is_utf8 text then ok_or (parse_document text) fault.Toml else Err fault.Toml

-- the shape of a catalogue's text, or the first fault: of the document, its array of views, their names and what each is over, and then of
-- the shape
abbrev pub shape_of : List ℕ → Result Views LoadFault
shape_of text = do
  document ← document_of text
  views ← ok_or (views_of document) (fault.Key key.View)
  written ← written_views views
  shape_written written
