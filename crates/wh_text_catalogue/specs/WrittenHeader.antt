-- Laws of the combined row of a derived view: where the columns of its children stand in it, each under a reference, and that
-- no reference stands twice.
use Rattle.std.specs.Prelude.{◌≡◌, ◌≢◌, ℕ, ◌+◌, List, ◌∷◌, ◌++◌, length, map, slice_get, All, AllPairs, Some, Ok}
use Rattle.std.specs.List.{AllPass}
use Rattle.wh_dag.specs.Catalog.{total_width}
use Rattle.wh_dag.specs.Shape.{IsShape, Views, children_of}
use Rattle.wh_dag.specs.Written.{name_of}
use Rattle.wh_text.specs.Columns.{AreNamed, NamedKind}
use Rattle.wh_text.specs.NameForm.{is_name}
use Rattle.wh_text_catalogue.specs.Catalogue.{shape_of}
use Rattle.wh_text_catalogue.specs.Definitions.{ViewOf, columns_of, header_of}
use Rattle.wh_text_catalogue.specs.Reference.{dot}
use Rattle.wh_text_catalogue.specs.WrittenLaws.{AreReferences}

-- each view of the shape has a name of the form of a name, and no two have the same
pub record IsNamedShape (shape : Views) : Type 0 where
  pub formed : IsShape shape.children
  pub each : length shape.names ≡ length shape.children
  pub names : AllPass is_name shape.names
  pub distinct : AllPairs (λ first second. first ≢ second) shape.names

-- over a shape of named views whose columns are named, the combined row of each view stands under references
abbrev pub RowsAreReferences : Type 0
RowsAreReferences =
    (shape : Views) (views : List ViewOf) (view : ℕ) → IsNamedShape shape → All (λ own. AreNamed own.columns) views → AreReferences (header_of shape views view).columns

-- the views of a shape that is read are named
abbrev pub ReadShapesAreNamed : Type 0
ReadShapesAreNamed = (text : List ℕ) (shape : Views) → shape_of text ≡ Ok shape → IsNamedShape shape

-- A child's columns stand in the combined row behind those of the children before it, each at its own place and of the column's kind. Each
-- stands under the child's name, a dot and the column's name
abbrev pub ColumnsStandInRows : Type 0
ColumnsStandInRows =
    (shape : Views) (views : List ViewOf) (view : ℕ) (before : List ℕ) (child : ℕ) (later : List ℕ) (place : ℕ) (column : NamedKind) →
    children_of shape.children view ≡ before ++ child ∷ later → slice_get (columns_of views child) place ≡ Some column →
    slice_get (header_of shape views view).columns (total_width (map (λ own. length own.columns) views) before + place)
    ≡ Some (record { name = name_of shape.names child ++ dot ∷ column.name; kind = column.kind })
