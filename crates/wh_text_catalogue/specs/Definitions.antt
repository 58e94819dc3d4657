-- What a catalogue says of its views beyond their names and what each is over: their columns, and how the derived ones are
-- defined. Key by key its form comes first, then its columns, then its kinds.
use Rattle.std.specs.Prelude.{ℕ, List, [], ◌∷◌, ◌++◌, length, map, flat_map, slice_index_or, codes, Option, Some, None, option_map, ok_or, Result, Ok}
use Rattle.toml.specs.Data.{Data, get}
use Rattle.wh_dag.specs.Catalog.{DefinitionOf}
use Rattle.wh_dag.specs.Shape.{Views, children_of}
use Rattle.wh_dag.specs.Written.{name_of}
use Rattle.wh_text.specs.Columns.{NamedKind}
use Rattle.wh_text.specs.declared.fault.Key.TheVariants as key
use Rattle.wh_text.specs.declared.fault.LoadFault.{LoadFault}
use Rattle.wh_text.specs.declared.fault.LoadFault.TheVariants as fault
use Rattle.wh_text_catalogue.specs.BaseColumns.{base_columns}
use Rattle.wh_text.specs.ValueOrFault.{◌>>=◌}
use Rattle.wh_text_catalogue.specs.Catalogue.{document_of, views_of}
use Rattle.wh_text_catalogue.specs.Filter.{filter_of}
use Rattle.wh_text_catalogue.specs.FormulaKinds.{Texts}
use Rattle.wh_text_catalogue.specs.Header.{HeaderOf}
use Rattle.wh_text_catalogue.specs.Join.{join_of}
use Rattle.wh_text_catalogue.specs.Output.{output_of, shown_output}
use Rattle.wh_text_catalogue.specs.Reference.{dot}
use Rattle.wh_text_catalogue.specs.declared.definitions.views.WrittenDefinition.{WrittenDefinition}
use Rattle.wh_text_catalogue.specs.declared.definitions.views.WrittenView.{WrittenView}

-- a view's columns, and how it is defined, none for a base view
pub record ViewOf : Type 0 where
  pub columns : List NamedKind
  pub definition : Option DefinitionOf

-- the definition that lists in memory make
abbrev pub shown_definition : WrittenDefinition → DefinitionOf
shown_definition definition = record {
  width = definition.width;
  join = definition.join.items;
  filter = definition.filter;
  output = shown_output definition.output;
}

-- the view that lists in memory make
abbrev pub shown_view : WrittenView → ViewOf
shown_view view = record { columns = view.columns.items; definition = option_map shown_definition view.definition }

-- a column of a child, under the reference that names it
abbrev pub qualified : List ℕ → NamedKind → NamedKind
qualified child column = record { name = child ++ dot ∷ column.name; kind = column.kind }

-- the columns of a view, none for a number that is no view's
abbrev pub columns_of : List ViewOf → ℕ → List NamedKind
columns_of views view = (slice_index_or views view (record { columns = []; definition = None })).columns

-- the columns of a child, under the references that name them
abbrev pub child_columns : List (List ℕ) → List ViewOf → ℕ → List NamedKind
child_columns names views child = map (qualified (name_of names child)) (columns_of views child)

-- the combined row of a view over these children: their columns one after another
abbrev pub header_of : Views → List ViewOf → ℕ → HeaderOf
header_of shape views view = record {
  view = name_of shape.names view;
  columns = flat_map (child_columns shape.names views) (children_of shape.children view);
}

-- a view, and the texts once all its literals have numbers
abbrev pub ViewOutcome : Type 0
ViewOutcome = Result (ViewOf × Texts) LoadFault

-- a base view
abbrev pub base_view : Data → Texts → ViewOutcome
base_view entry texts = do
  columns ← base_columns entry
  Ok (record { columns = columns; definition = None }, texts)

-- a derived view: its `join`, its `where`, then its columns
abbrev pub derived_view : HeaderOf → Data → Texts → ViewOutcome
derived_view header entry texts = do
  join ← join_of header entry
  filter ← filter_of header entry texts
  output ← output_of header entry filter.1
  Ok (
    record {
      columns = output.0.columns;
      definition = Some (record { width = length header.columns; join = join; filter = filter.0; output = output.0.output });
    },
    output.1,
  )

-- the view of a table: without `over` it is a base view, else a derived one
abbrev pub view_at : Views → List ViewOf → Option Data → Data → Texts → ViewOutcome
view_at shape views None entry texts = base_view entry texts
view_at shape views (Some over) entry texts = derived_view (header_of shape views (length views)) entry texts

-- the view of a table that comes after these views
abbrev pub next_view : Views → List ViewOf → Data → Texts → ViewOutcome
next_view shape views entry texts = view_at shape views (get (codes "over") entry) entry texts

-- the views of some tables after these views, or the first fault
abbrev pub views_after : Views → List ViewOf → List Data → Texts → Result (List ViewOf × Texts) LoadFault
views_after shape views [] texts = Ok (views, texts)
views_after shape views (entry ∷ rest) texts = do
  view ← next_view shape views entry texts
  views_after shape (views ++ view.0 ∷ []) rest view.1

-- the views of a catalogue of this shape, and the texts once its literals have numbers; or the first fault, view by view
abbrev pub definitions_of : Views → List ℕ → Texts → Result (List ViewOf × Texts) LoadFault
definitions_of shape text texts = do
  document ← document_of text
  tables ← ok_or (views_of document) (fault.Key key.View)
  views_after shape [] tables texts
