-- What is said of a summary's rows while its change is made.
use Rattle.std.specs.Prelude.{◌≡◌, ℕ, suc, length}
use Rattle.wh_dag.specs.Catalog.{CatalogOf, definition_of}
use Rattle.wh_maint.specs.View.{Kind, sums_of}
use Rattle.wh_maint.specs.Definition.{view_of}
use Rattle.wh_maint.specs.Comp.{PendingOf}

-- the kind of a view of the catalogue
abbrev pub kind_in : CatalogOf → ℕ → Kind
kind_in catalog view = (view_of (definition_of catalog view)).kind

-- what is pending is of the view, with a column for the counts and one for each sum
pub record IsPendingFor (catalog : CatalogOf) (view : ℕ) (pending : PendingOf) : Type 0 where
  pub of_view : pending.view ≡ view
  pub columns : length pending.columns ≡ suc (sums_of (kind_in catalog view))
