-- The catalogue of what was read is made again of its definitions and widths.
use Rattle.std.proofs.Common.{◌≡◌, ℕ, suc, ◌<◌, ◌+◌, List, [], ◌∷◌, ◌++◌, drop, length, map, get_or, refl, ap, sym, ◌∙◌, subst, arith, append_assoc, Option, Some, None}
use Rattle.std.proofs.Math.Seq.{drop-cons}
use Rattle.wh_dag.specs.Shape.{Views}
use Rattle.wh_dag.specs.Catalog.{DefinitionOf, IsCatalog, IsDefinition}
use Rattle.wh_dag.specs.CatalogParts.{given_definitions, given_widths, FitTogether}
use Rattle.wh_dag.specs.CatalogParts as parts
use Rattle.wh_dag.proofs.Shown.{made_again, own_parts}
use Rattle.wh_text_catalogue.specs.Definitions.{shown_view}
use Rattle.wh_text_catalogue.specs.ReadCatalog.{catalog_of}
use Rattle.wh_text_catalogue.specs.declared.definitions.views.WrittenView.{WrittenView}
use Rattle.whview.specs.Inner.StoredClosures.{AreSound}

-- ---- loops over views

pub first_sound : (o : Option DefinitionOf) (os : List (Option DefinitionOf)) → AreSound (o ∷ os) → AreSound (o ∷ [])
first_sound None os s = tt
first_sound (Some d) os s = (s.0, tt)

pub rest_sound : (o : Option DefinitionOf) (os : List (Option DefinitionOf)) → AreSound (o ∷ os) → AreSound os
rest_sound None os s = s
rest_sound (Some d) os s = s.1

pub given_next : (o : Option DefinitionOf) (os : List (Option DefinitionOf)) → given_definitions (o ∷ os) ≡ given_definitions (o ∷ []) ++ given_definitions os
given_next None os = refl
given_next (Some d) os = refl

pub given_after : (before after all : List DefinitionOf) (o : Option DefinitionOf) (os : List (Option DefinitionOf)) → all ≡ before ++ given_definitions (o ∷ os)
    → after ≡ before ++ given_definitions (o ∷ []) → all ≡ after ++ given_definitions os
given_after before after all o os e f =
    e
    ∙ ap (λ xs. before ++ xs) (given_next o os)
    ∙ sym (append_assoc before (given_definitions (o ∷ [])) (given_definitions os))
    ∙ ap (λ xs. xs ++ given_definitions os) (sym f)

-- the views from a place on
pub definitions_from : (views : List WrittenView) (i : ℕ) (view : WrittenView) → i < length views → view ≡ get_or views i view
    → map (λ v. (shown_view v).definition) (drop i views) ≡ (shown_view view).definition ∷ map (λ v. (shown_view v).definition) (drop (i + 1) views)
definitions_from views i view l is =
    let next : suc i ≡ i + 1 = omega arith in
    ap (map (λ v. (shown_view v).definition)) (drop-cons views i view l ∙ ap (λ n. get_or views i view ∷ drop n views) next)
    ∙ ap (λ v. (shown_view v).definition ∷ map (λ v. (shown_view v).definition) (drop (i + 1) views)) (sym is)

-- ---- what was read, as it lies in memory

definitions_shown : (views : List WrittenView) → map (λ view. view.definition) (map shown_view views) ≡ map (λ view. (shown_view view).definition) views
definitions_shown [] = refl
definitions_shown (v ∷ vs) = ap (λ xs. (shown_view v).definition ∷ xs) (definitions_shown vs)

widths_shown : (views : List WrittenView) → map (λ view. length view.columns) (map shown_view views) ≡ map (λ view. length (shown_view view).columns) views
widths_shown [] = refl
widths_shown (v ∷ vs) = ap (λ xs. length (shown_view v).columns ∷ xs) (widths_shown vs)

each_sound : (os : List (Option DefinitionOf)) → ((view : ℕ) (d : DefinitionOf) → get_or os view None ≡ Some d → IsDefinition d) → AreSound os
each_sound [] h = tt
each_sound (None ∷ os) h = each_sound os (λ v d e. h (suc v) d e)
each_sound (Some d ∷ os) h = (h 0 d refl, each_sound os (λ v x e. h (suc v) x e))

pub all_sound : (shape : Views) (views : List WrittenView) → IsCatalog (catalog_of shape (map shown_view views)) → AreSound (map (λ view. (shown_view view).definition) views)
all_sound shape views is = subst AreSound (definitions_shown views) (each_sound (map (λ view. view.definition) (map shown_view views)) is.within)

pub fit : (shape : Views) (views : List WrittenView) (widths : List ℕ) (definitions : List DefinitionOf) → IsCatalog (catalog_of shape (map shown_view views))
    → widths ≡ given_widths (map (λ view. (shown_view view).definition) views) (map (λ view. length (shown_view view).columns) views)
    → definitions ≡ given_definitions (map (λ view. (shown_view view).definition) views) → FitTogether shape widths definitions
fit shape views widths definitions is e f =
    rw (e, f, ← definitions_shown views, ← widths_shown views) (own_parts (catalog_of shape (map shown_view views)) is)

pub same : (shape : Views) (views : List WrittenView) (widths : List ℕ) (definitions : List DefinitionOf) → IsCatalog (catalog_of shape (map shown_view views))
    → widths ≡ given_widths (map (λ view. (shown_view view).definition) views) (map (λ view. length (shown_view view).columns) views)
    → definitions ≡ given_definitions (map (λ view. (shown_view view).definition) views) → parts.catalog_of shape widths definitions ≡ catalog_of shape (map shown_view views)
same shape views widths definitions is e f =
    rw (e, f, ← definitions_shown views, ← widths_shown views) (made_again (catalog_of shape (map shown_view views)) is)
