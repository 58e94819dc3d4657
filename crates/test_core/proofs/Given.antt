-- What machines are given: what is opened over tables is contents, and each night is one of the catalogue.
use Rattle.std.proofs.Common.{◌≡◌, ◌≢◌, ℕ, ◌<◌, ◌≤◌, ◌∷◌, List, [], length, refl, sym, ap, subst, ◌∙◌, arith, ⊎_elim, ◌⊎◌}
use Rattle.std.proofs.lemmas.Bool.{cases_lt}
use Rattle.wh_dag.specs.Catalog.{CatalogOf, IsCatalog}
use Rattle.wh_dag.specs.Shape.{children_of}
use Rattle.wh_row.specs.Bag.{Bag, IsTable, empty}
use Rattle.wh_maint.specs.Asked.{AreBags}
use Rattle.wh_maint.specs.Comp.{bag_at}
use Rattle.wh_maint.specs.Contents.{AreContents, IsFromScratch, contents}
use Rattle.wh_maint.specs.Definition.{graph_of}
use Rattle.wh_maint.specs.Opening.{CanBeEvaluated, HaveContentsBelow}
use Rattle.wh_maint.specs.Value.{view_value}
use Rattle.wh_maint.specs.View.{ViewGraph}
use Rattle.wh_maint.proofs.FromScratch.{catalogs_are_graphs, contents_are_values}
use Rattle.wh_maint.proofs.Differences.{same_tables}
use Rattle.wh_carry.proofs.NewValues.{within}
use Rattle.wh_carry.proofs.Agreeing.{count-empty, past}
use Rattle.std.specs.Prelude.{Vec, Option, Some, map, slice_get, pos, ◌≤ℤ◌}
use Rattle.std.proofs.Common.{zero, suc, ◌++◌}
use Rattle.std.proofs.lemmas.Int.{ints}
use Rattle.std.specs.declared.alloc.Global.{Global}
use Rattle.wh_strategy.specs.Rules.{Judged}
use Rattle.wh_core.specs.Laws.{IsGivenNight}
use Rattle.wh_core.specs.Nights.{GivenNight}
use Rattle.wh_core.specs.Standing.{AreJudged, given_of, nights_of}

none_negative : IsTable empty
none_negative row = subst (λ n. pos 0 ≤ℤ n) (sym (count-empty row)) (omega (arith, ints))

-- where there is no table there is the empty one
pub all_tables : (tables : List Bag) → ((v : ℕ) → v < length tables → IsTable (bag_at tables v)) → (v : ℕ) → IsTable (bag_at tables v)
all_tables tables are v = ⊎_elim (λ l. are v l) (λ m. subst IsTable (sym (past tables v empty m)) none_negative) (cases_lt v (length tables))

-- each night is one of the catalogue, and its strategy was judged over its shape
pub record IsOfCatalog (catalog : CatalogOf) (night : Vec Bag Global × Judged) : Type 0 where
  pub given : IsGivenNight catalog (given_of night)
  pub judged : night.1.children ≡ catalog.views.children

abbrev pub AreOfCatalog : CatalogOf → List (Vec Bag Global × Judged) → Type 0
AreOfCatalog catalog nights = (n : ℕ) (night : Vec Bag Global × Judged) → slice_get nights n ≡ Some night → IsOfCatalog catalog night

some_one : {A : Type 0} (x y : A) → Some x ≡ Some y → x ≡ y
some_one x y e = cc

grown : {A : Type 0} (P : A → Type 0) (xs : List A) (x : A) → ((n : ℕ) (y : A) → slice_get xs n ≡ Some y → P y) → P x → (n : ℕ) (y : A) → slice_get (xs ++ x ∷ []) n ≡ Some y → P y
grown P [] x all p zero y e = subst P (some_one x y e) p
grown P [] x all p (suc n) y e = cc
grown P (z ∷ xs) x all p zero y e = all 0 y e
grown P (z ∷ xs) x all p (suc n) y e = grown P xs x (λ m w f. all (suc m) w f) p n y e

mapped : {A B : Type 0} (f : A → B) (P : B → Type 0) (xs : List A) → ((n : ℕ) (y : A) → slice_get xs n ≡ Some y → P (f y)) → (n : ℕ) (z : B) → slice_get (map f xs) n ≡ Some z → P z
mapped f P [] all n z e = cc
mapped f P (x ∷ xs) all zero z e = subst P (some_one (f x) z e) (all 0 x refl)
mapped f P (x ∷ xs) all (suc n) z e = mapped f P xs (λ m y g. all (suc m) y g) n z e

pub one_more : (catalog : CatalogOf) (nights : List (Vec Bag Global × Judged)) (night : Vec Bag Global × Judged) → AreOfCatalog catalog nights
    → IsGivenNight catalog (given_of night) → night.1.children ≡ catalog.views.children → AreOfCatalog catalog (nights ++ night ∷ [])
one_more catalog nights night all given judged = grown (IsOfCatalog catalog) nights night all (record { given = given; judged = judged })

pub are_given : (catalog : CatalogOf) (nights : List (Vec Bag Global × Judged)) → AreOfCatalog catalog nights
    → (n : ℕ) (given : GivenNight) → slice_get (nights_of nights) n ≡ Some given → IsGivenNight catalog given
are_given catalog nights all = mapped given_of (IsGivenNight catalog) nights (λ n y e. (all n y e).given)

pub are_judged : (catalog : CatalogOf) (nights : List (Vec Bag Global × Judged)) → AreOfCatalog catalog nights → AreJudged catalog nights
are_judged catalog nights all n given e = (all n given e).judged

pub opened_are_contents : (cat : CatalogOf) → IsCatalog cat → (base old : List Bag) → ((v : ℕ) → IsTable (bag_at base v))
    → ((v : ℕ) → bag_at old v ≡ contents (graph_of cat) (bag_at base) v) → HaveContentsBelow (graph_of cat) (bag_at base) (length cat.views.children)
    → AreContents (graph_of cat) (bag_at old)
opened_are_contents cat is base old are opened valued =
    let g : ViewGraph = graph_of cat in
    let whole : IsFromScratch g (bag_at base) = contents_are_values g (bag_at base) (catalogs_are_graphs cat is) in
    let as_old : contents g (bag_at base) ≡ bag_at old = λ i u. sym (opened u) i in
    record {
      counts = λ b e. subst IsTable (sym (opened b ∙ whole.bases b e)) (are b);
      bases = λ b e. refl;
      values = λ v some. opened v ∙ whole.values v some ∙ ap (view_value (g.views v)) (same_tables (g.children v) (contents g (bag_at base)) (bag_at old) (λ u t. sym (opened u)));
      defined = λ v some. (let has : CanBeEvaluated g (bag_at old) v = subst (λ ts. CanBeEvaluated g ts v) as_old (valued v (within cat.views.children v some) some) in has.valued);
    }
