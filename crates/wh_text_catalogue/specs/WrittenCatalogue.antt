-- How a catalogue writes its base views, and all of its views one after another.
use Rattle.std.specs.Prelude.{◌≡◌, ◌⊎◌, ◌≤◌, ℕ, List, [], ◌∷◌, ◌++◌, length, codes, Option, Some, None, Ok}
use Rattle.std.specs.List.{IsDistinct}
use Rattle.std.specs.Str.{bytes_eq}
use Rattle.toml.specs.View.{items_of}
use Rattle.toml.specs.Data.{Data, Members, string, array, get}
use Rattle.wh_dag.specs.Shape.{Views}
use Rattle.wh_text.specs.Columns.{AreNamed, NamedKind}
use Rattle.wh_text.specs.declared.columns.Kind.{Kind}
use Rattle.wh_text.specs.declared.columns.Kind.TheVariants.{Int, Text}
use Rattle.wh_text_catalogue.specs.BaseColumns.{colon}
use Rattle.wh_text_catalogue.specs.Catalogue.{document_of, shape_of, views_of}
use Rattle.wh_text_catalogue.specs.Definitions.{ViewOf, base_view, definitions_of, header_of}
use Rattle.wh_text_catalogue.specs.FormulaKinds.{Texts}
use Rattle.wh_text_catalogue.specs.WrittenView.{IsWholeView}

-- Base views.

-- the text is the name, a colon and the word of the kind; for a column of whole numbers it may be the name alone
abbrev pub IsColumnText : List ℕ → Kind → List ℕ → Type 0
IsColumnText name Int text = (text ≡ name) ⊎ (text ≡ name ++ colon ∷ codes "int")
IsColumnText name Text text = text ≡ name ++ colon ∷ codes "text"

-- the values are the texts of these columns, one for each in their order
abbrev pub AreColumnsWritten : List NamedKind → List Data → Type 0
AreColumnsWritten [] [] = Unit {0}
AreColumnsWritten [] (value ∷ values) = ⊥
AreColumnsWritten (column ∷ columns) [] = ⊥
AreColumnsWritten (column ∷ columns) (value ∷ values) =
    ((text : List ℕ) × (value ≡ string text) × IsColumnText column.name column.kind text) × AreColumnsWritten columns values

-- the entry writes this base view of 1 to 64 named columns, and no text gets a number
pub record IsWholeBase (entry : Data) (texts : Texts) (own : ViewOf) (after : Texts) : Type 0 where
  pub base : own.definition ≡ None
  pub values : List Data
  pub at : get (codes "columns") entry ≡ Some (array (items_of values))
  pub written : AreColumnsWritten own.columns values
  pub some : 1 ≤ length own.columns
  pub few : length own.columns ≤ 64
  pub named : AreNamed own.columns
  pub numbered : after ≡ texts

-- a base view that was written is read as it was
abbrev pub BasesReadBack : Type 0
BasesReadBack = (entry : Data) (texts : Texts) (own : ViewOf) (after : Texts) → IsWholeBase entry texts own after → base_view entry texts ≡ Ok (own, after)

-- a base view that is read is what the data write
abbrev pub ReadBasesAreWritten : Type 0
ReadBasesAreWritten = (entry : Data) (texts : Texts) (own : ViewOf) (after : Texts) → base_view entry texts ≡ Ok (own, after) → IsWholeBase entry texts own after

-- All views.

-- the entry writes the view that comes after those found: without `over` it is a base view, and with it a derived one, over
-- the columns of its children
abbrev pub IsNextWritten : Views → List ViewOf → Option Data → Data → Texts → ViewOf → Texts → Type 0
IsNextWritten shape found None entry texts own after = IsWholeBase entry texts own after
IsNextWritten shape found (Some over) entry texts own after = IsWholeView (header_of shape found (length found)) entry texts own after

-- the entries write these views after those found, one each; each begins with the texts that those before it have numbered
abbrev pub AreViewsWritten : Views → List ViewOf → List Data → Texts → List ViewOf → Texts → Type 0
AreViewsWritten shape found [] texts [] after = after ≡ texts
AreViewsWritten shape found [] texts (own ∷ views) after = ⊥
AreViewsWritten shape found (entry ∷ entries) texts [] after = ⊥
AreViewsWritten shape found (entry ∷ entries) texts (own ∷ views) after =
    (middle : Texts) × IsNextWritten shape found (get (codes "over") entry) entry texts own middle × AreViewsWritten shape (found ++ own ∷ []) entries middle views after

-- the text is a document whose array `view` has these entries
abbrev pub HasEntries : List ℕ → List Data → Type 0
HasEntries text entries = (document : Members) × (document_of text ≡ Ok document) × (views_of document ≡ Some entries)

-- views that a catalogue writes are read as they were
abbrev pub CataloguesReadBack : Type 0
CataloguesReadBack =
    (text : List ℕ) (shape : Views) (entries : List Data) (texts : Texts) (views : List ViewOf) (after : Texts) → shape_of text ≡ Ok shape → HasEntries text entries →
    IsDistinct bytes_eq after → AreViewsWritten shape [] entries texts views after → definitions_of shape text texts ≡ Ok (views, after)

-- views that are read are what the catalogue writes
abbrev pub ReadCataloguesAreWritten : Type 0
ReadCataloguesAreWritten =
    (text : List ℕ) (shape : Views) (texts : Texts) (views : List ViewOf) (after : Texts) → definitions_of shape text texts ≡ Ok (views, after) →
    (entries : List Data) × HasEntries text entries × AreViewsWritten shape [] entries texts views after
