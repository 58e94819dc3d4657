-- The contents of a base are the views' values over it.
use Rattle.std.proofs.Common.{◌≡◌, ℕ, zero, suc, ◌<◌, ◌≤◌, refl, sym, ap, subst, ◌∙◌, false, List, [], ◌∷◌, map, length, Option, Some, None, ◌⊎◌, inl, inr, ⊎_elim, arith}
use Rattle.std.specs.Prelude.{slice_index_or, not, is_some}
use Rattle.wh_dag.specs.Catalog.{CatalogOf, IsCatalog, DefinitionOf, definition_of, is_empty}
use Rattle.wh_dag.specs.Shape.{children_of}
use Rattle.wh_row.specs.Bag.{Bag, IsTable}
use Rattle.wh_maint.specs.View.{ViewGraph, IsViewGraph}
use Rattle.wh_maint.specs.Definition.{view_of}
use Rattle.wh_maint.specs.Value.{view_value}
use Rattle.wh_maint.specs.Fit.{IsFitTable}
use Rattle.wh_maint.specs.Contents.{if_base, contents_within, contents, AreBaseTables, AreValues, AreContentsOf, HaveValuesOver, HasContents, ContentsAreOne, ContentsAreValues, ContentsAreUnique, ContentsAreToldByValues, ContentsAreFit, CatalogsAreGraphs}
use Rattle.wh_maint.proofs.Differences.{same_tables}
use Rattle.wh_maint.proofs.NoNegative.{view_counts}
use Rattle.wh_maint.proofs.FitTables.{value_is_fit}

pub empty_or_not : (us : List ℕ) → (us ≡ []) ⊎ (¬ (us ≡ []))
empty_or_not [] = inl refl
empty_or_not (u ∷ us) = inr (λ e. cc)

pub based : (us : List ℕ) (t v : Bag) → us ≡ [] → if_base us t v ≡ t
based [] t v e = refl
based (u ∷ us) t v e = cc

pub derived : (us : List ℕ) (t v : Bag) → ¬ (us ≡ []) → if_base us t v ≡ v
derived [] t v n = absurd (n refl)
derived (u ∷ us) t v n = refl

module _ (g : ViewGraph) (ok : IsViewGraph g) (base : ℕ → Bag) where
  -- more steps change nothing
  stable : (n m v : ℕ) → v < n → v < m → contents_within g base n v ≡ contents_within g base m v
  unfolding contents_within
  stable zero m v a b = absurd (omega arith)
  stable (suc n) zero v a b = absurd (omega arith)
  stable (suc n) (suc m) v a b =
      ap (λ ts. if_base (g.children v) (base v) (view_value (g.views v) ts))
      (same_tables (g.children v) (contents_within g base n) (contents_within g base m) (λ u t. let l : u < v = ok.lower v u t in stable n m u (omega arith) (omega arith)))

  base_contents : (b : ℕ) → g.children b ≡ [] → contents g base b ≡ base b
  unfolding contents contents_within
  base_contents b e = based (g.children b) (base b) (view_value (g.views b) (map (contents_within g base b) (g.children b))) e

  values : AreValues g (contents g base)
  unfolding contents contents_within
  values v n =
      derived (g.children v) (base v) (view_value (g.views v) (map (contents_within g base v) (g.children v))) n
      ∙ ap (view_value (g.views v)) (same_tables (g.children v) (contents_within g base v) (contents g base) (λ u t. let l : u < v = ok.lower v u t in stable v (suc u) u l (omega arith)))

  unique_below : (tables : ℕ → Bag) → ((b : ℕ) → g.children b ≡ [] → tables b ≡ base b) → AreValues g tables → (n v : ℕ) → v < n → tables v ≡ contents g base v
  unique_below tables bases are zero v l = absurd (omega arith)
  unique_below tables bases are (suc n) v l =
      ⊎_elim
      (λ e. bases v e ∙ sym (base_contents v e))
      (λ some. are v some
      ∙ ap (view_value (g.views v)) (same_tables (g.children v) tables (contents g base) (λ u t. let k : u < v = ok.lower v u t in unique_below tables bases are n u (omega arith)))
      ∙ sym (values v some))
      (empty_or_not (g.children v))

pub contents_are_values : ContentsAreValues
contents_are_values = λ g base ok. record { bases = base_contents g ok base; values = values g ok base }

pub contents_are_unique : ContentsAreUnique
contents_are_unique = λ g base tables ok bases are v. unique_below g ok base tables bases are (suc v) v (omega arith)

pub contents_are_told_by_values : ContentsAreToldByValues
contents_are_told_by_values = λ g tables ok. (
  λ are v some. are v ∙ values g ok tables v some ∙ ap (view_value (g.views v)) (same_tables (g.children v) (contents g tables) tables (λ u t. sym (are u))),
  λ are. contents_are_unique g tables tables ok (λ b e. refl) are,
)

-- tables that are one by one those of a base's contents are its contents
pub same_contents : (g : ViewGraph) (base tables others : ℕ → Bag) → ((v : ℕ) → others v ≡ tables v) → AreContentsOf g base tables → AreContentsOf g base others
same_contents g base tables others same are = subst (AreContentsOf g base) (λ i v. sym (same v) i) are

-- contents of a base are what is worked out of it
pub worked_out : (g : ViewGraph) (base tables : ℕ → Bag) → IsViewGraph g → AreContentsOf g base tables → (v : ℕ) → tables v ≡ contents g base v
worked_out g base tables ok are = contents_are_unique g base tables ok are.bases are.values

pub contents_are_one : ContentsAreOne
contents_are_one = λ g base tables ok. (
  λ are. (same_contents g base tables (contents g base) (λ v. sym (worked_out g base tables ok are v)) are, worked_out g base tables ok are),
  λ has. same_contents g base (contents g base) tables has.1 has.0,
)

-- they are the contents of their own base tables
pub own_contents : (g : ViewGraph) (base tables : ℕ → Bag) → AreContentsOf g base tables → AreContentsOf g tables tables
own_contents g base tables are = record {
  counts = λ b e. subst IsTable (sym (are.bases b e)) (are.counts b e);
  bases = λ b e. refl;
  values = are.values;
  defined = are.defined;
}

-- a base has contents where each derived view has a value over what is worked out
pub has_contents : (g : ViewGraph) (base : ℕ → Bag) → IsViewGraph g → AreBaseTables g base → HaveValuesOver g (contents g base) → HasContents g base
has_contents g base ok counts defined =
    let whole = contents_are_values g base ok in
    record { counts = counts; bases = whole.bases; values = whole.values; defined = defined }

-- ---- fit

tables_below : (g : ViewGraph) (tables : ℕ → Bag) → IsViewGraph g → AreBaseTables g tables → AreValues g tables → (n v : ℕ) → v < n → IsTable (tables v)
tables_below g tables ok bases are zero v l = absurd (omega arith)
tables_below g tables ok bases are (suc n) v l =
    ⊎_elim (bases v)
    (λ some. subst IsTable (sym (are v some)) (view_counts (g.views v) (g.children v) tables (λ u t. let k : u < v = ok.lower v u t in tables_below g tables ok bases are n u (omega arith))))
    (empty_or_not (g.children v))

-- values over base tables have no negative count
pub values_are_tables : (g : ViewGraph) (tables : ℕ → Bag) → IsViewGraph g → AreBaseTables g tables → AreValues g tables → (v : ℕ) → IsTable (tables v)
values_are_tables g tables ok bases are v = tables_below g tables ok bases are (suc v) v (omega arith)

pub contents_are_fit : ContentsAreFit
contents_are_fit = λ g tables ok bases are v. ⊎_elim
    (λ e. subst (λ k. IsFitTable k (tables v)) (sym (ok.bases v e)) (bases v e))
    (λ some. subst (IsFitTable (g.views v).kind) (sym (are v some)) (value_is_fit (g.views v) (g.children v) tables (λ u t. values_are_tables g tables ok bases are u)))
    (empty_or_not (g.children v))

-- ---- catalogues

none_of : (o : Option DefinitionOf) → is_some o ≡ false → o ≡ None
none_of None e = refl
none_of (Some d) e = cc

pub past_end : {A : Type 0} (xs : List A) (n : ℕ) (d : A) → length xs ≤ n → slice_index_or xs n d ≡ d
past_end [] n d l = refl
past_end (x ∷ xs) zero d l = absurd (omega arith)
past_end (x ∷ xs) (suc n) d l = past_end xs n d (omega arith)

undefined : (catalog : CatalogOf) → IsCatalog catalog → (v : ℕ) → children_of catalog.views.children v ≡ [] → definition_of catalog v ≡ None
undefined catalog ok v e = elim (cases v (length catalog.views.children)) as (λ _. definition_of catalog v ≡ None) [
  | inl l ↦ none_of (definition_of catalog v) (ok.derived v l ∙ (λ i. not (is_empty (e i))))
  | inr l ↦ past_end catalog.definitions v None (subst (λ n. n ≤ v) (sym ok.each_definition) l)
]
  where
    cases : (m n : ℕ) → (m < n) ⊎ (n ≤ m)
    cases m zero = inr (omega arith)
    cases zero (suc n) = inl (omega arith)
    cases (suc m) (suc n) = ⊎_elim (λ l. inl (omega arith)) (λ l. inr (omega arith)) (cases m n)

pub catalogs_are_graphs : CatalogsAreGraphs
catalogs_are_graphs = λ catalog ok. record {
  distinct = ok.shape.distinct;
  lower = ok.shape.lower;
  bases = λ v e. ap (λ d. (view_of d).kind) (undefined catalog ok v e);
}
