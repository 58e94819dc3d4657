-- How a catalogue writes a derived view: its keys `join` and `where`, and the whole of it.
use Rattle.std.specs.Prelude.{◌≡◌, ◌≤◌, ℕ, List, [], ◌∷◌, All, length, codes, Option, Some, None, Ok}
use Rattle.std.specs.List.{IsDistinct}
use Rattle.std.specs.Str.{bytes_eq}
use Rattle.toml.specs.View.{items_of}
use Rattle.toml.specs.Data.{Data, array, get}
use Rattle.wh_dag.specs.Catalog.{DefinitionOf}
use Rattle.wh_formula.specs.Expr.{Column}
use Rattle.wh_formula.specs.Expr as expr
use Rattle.wh_formula.specs.Pred.{PredTree, True}
use Rattle.wh_formula.specs.Pred as pred
use Rattle.wh_text.specs.Columns.{AreNamed, NamedKind}
use Rattle.wh_text.specs.Dict.{with_texts}
use Rattle.wh_text.specs.declared.columns.Kind.{Kind}
use Rattle.wh_text_catalogue.specs.Definitions.{ViewOf, derived_view}
use Rattle.wh_text_catalogue.specs.Filter.{filter_of}
use Rattle.wh_text_catalogue.specs.FormulaKinds.{Texts}
use Rattle.wh_text_catalogue.specs.Header.{HeaderOf}
use Rattle.wh_text_catalogue.specs.Join.{join_of}
use Rattle.wh_text_catalogue.specs.WrittenFormula.{IsExprWritten, IsPredWritten}
use Rattle.wh_text_catalogue.specs.WrittenLaws.{AreReferences}
use Rattle.wh_text_catalogue.specs.WrittenOutput.{IsOutputWritten, exprs_of, literals_at}

-- The key `join`.

-- the value is an array of the references of the columns at both places, which are of one kind
abbrev pub IsLinkWritten : List NamedKind → ℕ × ℕ → Data → Type 0
IsLinkWritten columns places value =
    (kind : Kind) × (left : Data) × (right : Data) × (value ≡ array (items_of (left ∷ right ∷ [])))
    × IsExprWritten columns [] (Column places.0) kind left × IsExprWritten columns [] (Column places.1) kind right

-- the values write these pairs of places, one each
abbrev pub AreLinksWritten : List NamedKind → List (ℕ × ℕ) → List Data → Type 0
AreLinksWritten columns [] [] = Unit {0}
AreLinksWritten columns [] (value ∷ values) = ⊥
AreLinksWritten columns (places ∷ join) [] = ⊥
AreLinksWritten columns (places ∷ join) (value ∷ values) = IsLinkWritten columns places value × AreLinksWritten columns join values

-- what stands at the key writes these pairs of places: an array of them, or nothing where there are none
abbrev pub IsJoinWritten : List NamedKind → List (ℕ × ℕ) → Option Data → Type 0
IsJoinWritten columns join None = join ≡ []
IsJoinWritten columns join (Some value) = (values : List Data) × (value ≡ array (items_of values)) × AreLinksWritten columns join values

-- a join that was written is read as it was
abbrev pub JoinsReadBack : Type 0
JoinsReadBack =
    (header : HeaderOf) (entry : Data) (join : List (ℕ × ℕ)) → AreReferences header.columns → IsJoinWritten header.columns join (get (codes "join") entry) → join_of header entry ≡ Ok join

-- a join that is read is what the data write
abbrev pub ReadJoinsAreWritten : Type 0
ReadJoinsAreWritten = (header : HeaderOf) (entry : Data) (join : List (ℕ × ℕ)) → join_of header entry ≡ Ok join → IsJoinWritten header.columns join (get (codes "join") entry)

-- The key `where`.

-- what stands at the key writes this predicate, and nothing writes the one that every row meets
abbrev pub IsFilterWritten : List NamedKind → Texts → PredTree → Option Data → Type 0
IsFilterWritten columns texts own None = own ≡ True
IsFilterWritten columns texts own (Some value) = IsPredWritten columns texts own value

-- what stands at the key writes this predicate of at most 64 levels, with the texts that its literals have numbered in order
pub record IsWholeFilter (header : HeaderOf) (found : Option Data) (texts : Texts) (own : PredTree) (after : Texts) : Type 0 where
  pub written : IsFilterWritten header.columns after own found
  pub levels : pred.depth own ≤ 64
  pub numbered : after ≡ with_texts texts (literals_at found)

-- a predicate that was written, or left out, is read as it was
abbrev pub FiltersReadBack : Type 0
FiltersReadBack =
    (header : HeaderOf) (entry : Data) (texts : Texts) (own : PredTree) (after : Texts) → AreReferences header.columns → IsDistinct bytes_eq after →
    IsWholeFilter header (get (codes "where") entry) texts own after → filter_of header entry texts ≡ Ok (own, after)

-- a predicate that is read, or found left out, is what the data write
abbrev pub ReadFiltersAreWritten : Type 0
ReadFiltersAreWritten =
    (header : HeaderOf) (entry : Data) (texts : Texts) (own : PredTree) (after : Texts) →
    filter_of header entry texts ≡ Ok (own, after) → IsWholeFilter header (get (codes "where") entry) texts own after

-- Whole views.

-- the entry writes a view of these columns that is so defined over combined rows
pub record IsViewWritten (row : List NamedKind) (texts : Texts) (columns : List NamedKind) (definition : DefinitionOf) (entry : Data) : Type 0 where
  pub width : definition.width ≡ length row
  pub join : IsJoinWritten row definition.join (get (codes "join") entry)
  pub filter : IsFilterWritten row texts definition.filter (get (codes "where") entry)
  pub output : IsOutputWritten row texts columns definition.output entry

-- The entry writes this derived view of 1 to 64 named columns, of formulas of at most 64 levels. The texts are those that first the
-- literals of `where` and then those of `keep` have numbered in order
pub record IsWholeView (header : HeaderOf) (entry : Data) (texts : Texts) (own : ViewOf) (after : Texts) : Type 0 where
  pub definition : DefinitionOf
  pub defined : own.definition ≡ Some definition
  pub written : IsViewWritten header.columns after own.columns definition entry
  pub filter_levels : pred.depth definition.filter ≤ 64
  pub output_levels : All (λ e. expr.depth e ≤ 64) (exprs_of definition.output)
  pub some : 1 ≤ length own.columns
  pub few : length own.columns ≤ 64
  pub named : AreNamed own.columns
  pub numbered : after ≡ with_texts (with_texts texts (literals_at (get (codes "where") entry))) (literals_at (get (codes "keep") entry))

-- a derived view that was written is read as it was
abbrev pub ViewsReadBack : Type 0
ViewsReadBack =
    (header : HeaderOf) (entry : Data) (texts : Texts) (own : ViewOf) (after : Texts) → AreReferences header.columns → IsDistinct bytes_eq after →
    IsWholeView header entry texts own after → derived_view header entry texts ≡ Ok (own, after)

-- a derived view that is read is what the data write
abbrev pub ReadViewsAreWritten : Type 0
ReadViewsAreWritten =
    (header : HeaderOf) (entry : Data) (texts : Texts) (own : ViewOf) (after : Texts) →
    derived_view header entry texts ≡ Ok (own, after) → IsWholeView header entry texts own after
