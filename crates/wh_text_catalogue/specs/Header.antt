-- The combined row of a derived view: a row of each view that it is over, side by side.
use Rattle.std.specs.Prelude.{ℕ, List, [], position, slice_index_or, Option, option_map}
use Rattle.std.specs.Str.{bytes_eq}
use Rattle.wh_text.specs.Columns.{NamedKind}
use Rattle.wh_text.specs.declared.columns.Kind.{Kind}
use Rattle.wh_text.specs.declared.columns.Kind.TheVariants.{Int}
use Rattle.wh_text_catalogue.specs.declared.definitions.header.Cell.{Cell}

-- the derived view's name, and the columns of its combined row, each under the reference that names it
pub record HeaderOf : Type 0 where
  pub view : List ℕ
  pub columns : List NamedKind

-- the place of the column that a reference names, none where it names no column
abbrev pub place_of : List NamedKind → List ℕ → Option ℕ
place_of columns reference = position (λ c. bytes_eq c.name reference) columns

-- the kind of the column at a place within the row
abbrev pub kind_at : List NamedKind → ℕ → Kind
kind_at columns place = (slice_index_or columns place (record { name = []; kind = Int })).kind

-- the cell that a reference names: its place, and its column's kind
abbrev pub cell_of : List NamedKind → List ℕ → Option Cell
cell_of columns reference = option_map (λ place. record { place = place; kind = kind_at columns place }) (place_of columns reference)
