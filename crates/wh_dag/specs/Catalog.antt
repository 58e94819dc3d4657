-- What a catalogue shows: how many columns each view has, and how each derived view is made of the views that it is over.
use Rattle.std.specs.Prelude.{◌≡◌, ℕ, ◌+◌, ◌<◌, ◌≤◌, Bool, true, false, not, List, [], ◌∷◌, length, slice_index, slice_index_or, All, IsTrue, Option, None, Some, is_some}
use Rattle.wh_formula.specs.Expr.{ExprTree}
use Rattle.wh_formula.specs.Expr as expr
use Rattle.wh_formula.specs.Pred.{PredTree}
use Rattle.wh_formula.specs.Pred as pred
use Rattle.wh_dag.specs.Shape.{Views, IsShape, children_of}

-- The columns of a derived view. A joined view keeps an expression's value in each. A summary has the cells at these places, by which it
-- groups, then the count of the group, then the sums of these expressions.
pub data OutputOf : Type 0 where
  Keep : List ExprTree → OutputOf
  Sums : List ℕ → List ExprTree → OutputOf

-- how many columns an output has
abbrev pub columns : OutputOf → ℕ
columns (Keep kept) = length kept
columns (Sums group sums) = length group + 1 + length sums

-- how many sums an output has: that of a joined view has none
abbrev pub sums_in : OutputOf → ℕ
sums_in (Keep kept) = 0
sums_in (Sums group sums) = length sums

-- how a derived view is made of combined rows, which have `width` cells: of those rows whose cells at the two places of
-- each pair are equal and that meet the filter, it has this output
pub record DefinitionOf : Type 0 where
  pub width : ℕ
  pub join : List (ℕ × ℕ)
  pub filter : PredTree
  pub output : OutputOf

-- each place that an output reads lies in a row of that width
abbrev pub FitsOutput : ℕ → OutputOf → Type 0
FitsOutput width (Keep kept) = All (λ e. IsTrue (expr.fits width e)) kept
FitsOutput width (Sums group sums) = All (λ place. place < width) group × All (λ e. IsTrue (expr.fits width e)) sums

-- each place that a definition reads lies in a row of its width
pub record IsDefinition (definition : DefinitionOf) : Type 0 where
  pub join : All (λ pair. (pair.0 < definition.width) × (pair.1 < definition.width)) definition.join
  pub filter : IsTrue (pred.fits definition.width definition.filter)
  pub output : FitsOutput definition.width definition.output

-- what a catalogue shows: the views, for each of them the number of its columns, and how it is defined, none for a base view
pub record CatalogOf : Type 0 where
  pub views : Views
  pub widths : List ℕ
  pub definitions : List (Option DefinitionOf)

-- how many columns the view has; 0 for a number that is no view's
abbrev pub width_of : CatalogOf → ℕ → ℕ
width_of catalog view = slice_index catalog.widths view

-- how the view is defined; none for a base view and for a number that is no view's
abbrev pub definition_of : CatalogOf → ℕ → Option DefinitionOf
definition_of catalog view = slice_index_or catalog.definitions view None

-- how many cells a row of each of these views have one after another
abbrev pub total_width : List ℕ → List ℕ → ℕ
total_width widths [] = 0
total_width widths (view ∷ views) = slice_index widths view + total_width widths views

-- how many cells the combined rows of the view have: a row of each of its children, one after another
abbrev pub combined_width : CatalogOf → ℕ → ℕ
combined_width catalog view = total_width catalog.widths (children_of catalog.views.children view)

-- a list without members
abbrev pub is_empty : List ℕ → Bool
is_empty [] = true
is_empty (x ∷ xs) = false

-- the view is over no view
abbrev pub is_base : CatalogOf → ℕ → Bool
is_base catalog view = is_empty (children_of catalog.views.children view)

-- Each view has 1 to 64 columns. Exactly the derived ones have a definition, over their combined rows, of so many columns, each of whose
-- places lies in these rows.
pub record IsCatalog (catalog : CatalogOf) : Type 0 where
  pub shape : IsShape catalog.views.children
  pub each_width : length catalog.widths ≡ length catalog.views.children
  pub each_definition : length catalog.definitions ≡ length catalog.views.children
  pub derived : (view : ℕ) → view < length catalog.views.children → is_some (definition_of catalog view) ≡ not (is_base catalog view)
  pub some_columns : (view : ℕ) → view < length catalog.views.children → 1 ≤ width_of catalog view
  pub few_columns : (view : ℕ) → view < length catalog.views.children → width_of catalog view ≤ 64
  pub defined_columns : (view : ℕ) (definition : DefinitionOf) → definition_of catalog view ≡ Some definition → width_of catalog view ≡ columns definition.output
  pub combined : (view : ℕ) (definition : DefinitionOf) → definition_of catalog view ≡ Some definition → definition.width ≡ combined_width catalog view
  pub within : (view : ℕ) (definition : DefinitionOf) → definition_of catalog view ≡ Some definition → IsDefinition definition
