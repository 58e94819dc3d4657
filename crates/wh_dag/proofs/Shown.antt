-- A catalogue made of parts shows them.
use Rattle.std.proofs.Common.{◌≡◌, ℕ, suc, ◌<◌, true, false, not, List, [], ◌∷◌, length, get_or, refl, ap, sym, subst, ◌∙◌, arith, Option, Some, None}
use Rattle.std.specs.Prelude.{is_some, slice_index}
use Rattle.wh_dag.specs.Shape.{Views, children_of}
use Rattle.wh_dag.specs.Catalog.{DefinitionOf, columns, CatalogOf, IsCatalog, is_empty}
use Rattle.wh_dag.specs.CatalogParts.{bases_among, derived_among, dealt_definitions, dealt_widths, catalog_of, given_definitions, given_widths, Shows, FitTogether, FitIsShown}

pub empty : {A : Type 0} (xs : List A) → length xs ≡ 0 → [] ≡ xs
empty [] e = refl
empty (x ∷ xs) e = absurd (let n : suc (length xs) ≡ 0 = e in omega arith)

pub definitions_back : (shape : List (List ℕ)) (ds : List DefinitionOf) → length ds ≡ derived_among shape →
    given_definitions (dealt_definitions shape ds) ≡ ds
definitions_back [] ds e = empty ds e
definitions_back ([] ∷ shape) ds e = definitions_back shape ds e
definitions_back ((u ∷ us) ∷ shape) [] e = absurd (let n : 0 ≡ suc (derived_among shape) = e in omega arith)
definitions_back ((u ∷ us) ∷ shape) (d ∷ ds) e =
    ap (λ xs. d ∷ xs)
    (definitions_back shape ds (let n : suc (length ds) ≡ suc (derived_among shape) = e in omega arith))

pub widths_back : (shape : List (List ℕ)) (ws : List ℕ) (ds : List DefinitionOf) → length ws ≡ bases_among shape →
    length ds ≡ derived_among shape →
    given_widths (dealt_definitions shape ds) (dealt_widths (dealt_definitions shape ds) ws) ≡ ws
widths_back [] ws ds e f = empty ws e
widths_back ([] ∷ shape) [] ds e f = absurd (let n : 0 ≡ suc (bases_among shape) = e in omega arith)
widths_back ([] ∷ shape) (w ∷ ws) ds e f =
    ap (λ xs. w ∷ xs)
    (widths_back shape ws ds (let n : suc (length ws) ≡ suc (bases_among shape) = e in omega arith) f)
widths_back ((u ∷ us) ∷ shape) ws [] e f = absurd (let n : 0 ≡ suc (derived_among shape) = f in omega arith)
widths_back ((u ∷ us) ∷ shape) ws (d ∷ ds) e f =
    widths_back shape ws ds e (let n : suc (length ds) ≡ suc (derived_among shape) = f in omega arith)

pub shows : (views : Views) (widths : List ℕ) (definitions : List DefinitionOf) → FitTogether views widths definitions →
    Shows (catalog_of views widths definitions) views widths definitions
shows views widths definitions fit = record {
  its_views = refl;
  its_widths = widths_back views.children widths definitions fit.each_width fit.each_definition;
  its_definitions = definitions_back views.children definitions fit.each_definition;
}

-- ---- the parts that a catalogue shows make it again

-- exactly the derived views have a definition
abbrev Aligned : List (List ℕ) → List (Option DefinitionOf) → Type 0
Aligned shape os = (view : ℕ) → view < length shape → is_some (get_or os view None) ≡ not (is_empty (get_or shape view []))

dealt_again : (shape : List (List ℕ)) (os : List (Option DefinitionOf)) → length os ≡ length shape → Aligned shape os →
    dealt_definitions shape (given_definitions os) ≡ os
dealt_again [] [] e h = refl
dealt_again [] (o ∷ os) e h = absurd (let n : suc (length os) ≡ 0 = e in omega arith)
dealt_again (own ∷ shape) [] e h = absurd (let n : 0 ≡ suc (length shape) = e in omega arith)
dealt_again ([] ∷ shape) (None ∷ os) e h =
    ap (λ xs. None ∷ xs) (dealt_again shape os (let n : suc (length os) ≡ suc (length shape) = e in omega arith) (λ v l. h (suc v) (omega arith)))
dealt_again ([] ∷ shape) (Some d ∷ os) e h = absurd (let no : true ≡ false = h 0 (omega arith) in cc)
dealt_again ((u ∷ us) ∷ shape) (None ∷ os) e h = absurd (let no : false ≡ true = h 0 (omega arith) in cc)
dealt_again ((u ∷ us) ∷ shape) (Some d ∷ os) e h =
    ap (λ xs. Some d ∷ xs) (dealt_again shape os (let n : suc (length os) ≡ suc (length shape) = e in omega arith) (λ v l. h (suc v) (omega arith)))

derived_counted : (shape : List (List ℕ)) (os : List (Option DefinitionOf)) → length os ≡ length shape → Aligned shape os →
    length (given_definitions os) ≡ derived_among shape
derived_counted [] [] e h = refl
derived_counted [] (o ∷ os) e h = absurd (let n : suc (length os) ≡ 0 = e in omega arith)
derived_counted (own ∷ shape) [] e h = absurd (let n : 0 ≡ suc (length shape) = e in omega arith)
derived_counted ([] ∷ shape) (None ∷ os) e h =
    derived_counted shape os (let n : suc (length os) ≡ suc (length shape) = e in omega arith) (λ v l. h (suc v) (omega arith))
derived_counted ([] ∷ shape) (Some d ∷ os) e h = absurd (let no : true ≡ false = h 0 (omega arith) in cc)
derived_counted ((u ∷ us) ∷ shape) (None ∷ os) e h = absurd (let no : false ≡ true = h 0 (omega arith) in cc)
derived_counted ((u ∷ us) ∷ shape) (Some d ∷ os) e h =
    ap suc (derived_counted shape os (let n : suc (length os) ≡ suc (length shape) = e in omega arith) (λ v l. h (suc v) (omega arith)))

bases_counted : (shape : List (List ℕ)) (os : List (Option DefinitionOf)) (ws : List ℕ) → length os ≡ length shape → length ws ≡ length shape →
    Aligned shape os → length (given_widths os ws) ≡ bases_among shape
bases_counted [] [] ws e f h = refl
bases_counted [] (o ∷ os) ws e f h = absurd (let n : suc (length os) ≡ 0 = e in omega arith)
bases_counted (own ∷ shape) [] ws e f h = absurd (let n : 0 ≡ suc (length shape) = e in omega arith)
bases_counted (own ∷ shape) (o ∷ os) [] e f h = absurd (let n : 0 ≡ suc (length shape) = f in omega arith)
bases_counted ([] ∷ shape) (None ∷ os) (w ∷ ws) e f h =
    ap suc
    (bases_counted shape os ws (let n : suc (length os) ≡ suc (length shape) = e in omega arith)
    (let n : suc (length ws) ≡ suc (length shape) = f in omega arith) (λ v l. h (suc v) (omega arith)))
bases_counted ([] ∷ shape) (Some d ∷ os) (w ∷ ws) e f h = absurd (let no : true ≡ false = h 0 (omega arith) in cc)
bases_counted ((u ∷ us) ∷ shape) (None ∷ os) (w ∷ ws) e f h = absurd (let no : false ≡ true = h 0 (omega arith) in cc)
bases_counted ((u ∷ us) ∷ shape) (Some d ∷ os) (w ∷ ws) e f h =
    bases_counted shape os ws (let n : suc (length os) ≡ suc (length shape) = e in omega arith)
    (let n : suc (length ws) ≡ suc (length shape) = f in omega arith) (λ v l. h (suc v) (omega arith))

widths_again : (os : List (Option DefinitionOf)) (ws : List ℕ) → length ws ≡ length os →
    ((view : ℕ) (d : DefinitionOf) → get_or os view None ≡ Some d → slice_index ws view ≡ columns d.output) →
    dealt_widths os (given_widths os ws) ≡ ws
widths_again [] ws e h = empty ws e
widths_again (o ∷ os) [] e h = absurd (let n : 0 ≡ suc (length os) = e in omega arith)
widths_again (None ∷ os) (w ∷ ws) e h =
    ap (λ xs. w ∷ xs) (widths_again os ws (let n : suc (length ws) ≡ suc (length os) = e in omega arith) (λ v d at. h (suc v) d at))
widths_again (Some d ∷ os) (w ∷ ws) e h =
    let first : w ≡ columns d.output = h 0 d refl in
    let rest : dealt_widths os (given_widths os ws) ≡ ws =
    widths_again os ws (let n : suc (length ws) ≡ suc (length os) = e in omega arith) (λ v x at. h (suc v) x at) in
    cc

aligned : (c : CatalogOf) → IsCatalog c → Aligned c.views.children c.definitions
unfolding children_of
aligned c is view l = is.derived view l

pub made_again : (c : CatalogOf) → IsCatalog c → catalog_of c.views (given_widths c.definitions c.widths) (given_definitions c.definitions) ≡ c
made_again c is =
    rw (
      dealt_again c.views.children c.definitions is.each_definition (aligned c is),
      widths_again c.definitions c.widths (is.each_width ∙ sym is.each_definition) is.defined_columns,
    )
    refl

pub own_parts : (c : CatalogOf) → IsCatalog c → FitTogether c.views (given_widths c.definitions c.widths) (given_definitions c.definitions)
own_parts c is = record {
  each_width = bases_counted c.views.children c.definitions c.widths is.each_definition is.each_width (aligned c is);
  each_definition = derived_counted c.views.children c.definitions is.each_definition (aligned c is);
  catalog = subst IsCatalog (sym (made_again c is)) is;
}

-- the parts that a catalogue shows fit together
pub shown_fit : (c : CatalogOf) (views : Views) (widths : List ℕ) (definitions : List DefinitionOf) → IsCatalog c → Shows c views widths definitions →
    FitTogether views widths definitions
shown_fit c views widths definitions is s = rw (← s.its_views, ← s.its_widths, ← s.its_definitions) (own_parts c is)

pub law : FitIsShown
law views widths definitions = (
  λ fit. (catalog_of views widths definitions, fit.catalog, shows views widths definitions fit),
  λ shown. shown_fit shown.0 views widths definitions shown.1 shown.2,
)
