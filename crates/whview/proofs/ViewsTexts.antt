-- The text of the derived views asks for their rows alone.
use Rattle.std.proofs.Common.{◌≡◌, ◌≢◌, ◌∙◌, ◌+◌, ◌++◌, ℕ, suc, List, [], ◌∷◌, Option, None, Some, ap, arith, refl, subst, sym}
use Rattle.std.specs.Prelude.{IfSome, slice_get}
use Rattle.wh_dag.specs.Catalog.{DefinitionOf}
use Rattle.wh_dag.specs.Written.{name_of}
use Rattle.wh_row.specs.Bag.{Bag}
use Rattle.wh_text_catalogue.specs.Definitions.{ViewOf}
use Rattle.wh_text_catalogue.specs.FormulaKinds.{Texts}
use Rattle.whview.specs.NightOutput.{AtDerived, view_text, views_text}

-- of one view
same_view_text : (word : List ℕ) (texts : Texts) (name : List ℕ) (view : ViewOf) (rows others : Bag) → (view.definition ≢ None → rows ≡ others)
    → view_text word texts name view rows ≡ view_text word texts name view others
same_view_text word texts name view rows others same = go view.definition refl
  where
    go : (definition : Option DefinitionOf) → view.definition ≡ definition → view_text word texts name view rows ≡ view_text word texts name view others
    go None e = rw e refl
    go (Some definition) e = ap (view_text word texts name view) (same (λ none. (let bad : Some definition ≡ None = sym e ∙ none in cc)))

-- what holds of a view behind the first one, counted from the next number on
shifted : (number : ℕ) (views : List ViewOf) (rows others : ℕ → Bag) (k : ℕ) → IfSome (slice_get views k) (λ v. v.definition ≢ None → rows (number + suc k) ≡ others (number + suc k))
    → IfSome (slice_get views k) (λ v. v.definition ≢ None → rows ((number + 1) + k) ≡ others ((number + 1) + k))
shifted number views rows others k same =
    let e : number + suc k ≡ (number + 1) + k = omega arith in
    subst (λ (n : ℕ). IfSome (slice_get views k) (λ v. v.definition ≢ None → rows n ≡ others n)) e same

first_rows : (number : ℕ) (view : ViewOf) (rows others : ℕ → Bag) → (view.definition ≢ None → rows (number + 0) ≡ others (number + 0)) → view.definition ≢ None → rows number ≡ others number
first_rows number view rows others same =
    let e : number + 0 ≡ number = omega arith in
    subst (λ (n : ℕ). view.definition ≢ None → rows n ≡ others n) e same

from_zero : (views : List ViewOf) (rows others : ℕ → Bag) (k : ℕ) → IfSome (slice_get views k) (λ v. v.definition ≢ None → rows k ≡ others k)
    → IfSome (slice_get views k) (λ v. v.definition ≢ None → rows (0 + k) ≡ others (0 + k))
from_zero views rows others k same =
    let e : k ≡ 0 + k = omega arith in
    subst (λ (n : ℕ). IfSome (slice_get views k) (λ v. v.definition ≢ None → rows n ≡ others n)) e same

-- of all, from this number on
from_number : (word : List ℕ) (texts : Texts) (names : List (List ℕ)) (number : ℕ) (views : List ViewOf) (rows others : ℕ → Bag)
    → AtDerived views (λ k. rows (number + k) ≡ others (number + k)) → views_text word texts names number views rows ≡ views_text word texts names number views others
from_number word texts names number [] rows others same = refl
from_number word texts names number (view ∷ views) rows others same =
    ap (λ t. t ++ views_text word texts names (number + 1) views rows)
    (same_view_text word texts (name_of names number) view (rows number) (others number) (first_rows number view rows others (same 0)))
    ∙ ap (λ t. view_text word texts (name_of names number) view (others number) ++ t)
    (from_number word texts names (number + 1) views rows others (λ k. shifted number views rows others k (same (suc k))))

pub same_views_text : (word : List ℕ) (texts : Texts) (names : List (List ℕ)) (views : List ViewOf) (rows others : ℕ → Bag)
    → AtDerived views (λ k. rows k ≡ others k) → views_text word texts names 0 views rows ≡ views_text word texts names 0 views others
same_views_text word texts names views rows others same = from_number word texts names 0 views rows others (λ k. from_zero views rows others k (same k))
