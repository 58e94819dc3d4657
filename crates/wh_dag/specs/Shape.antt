-- Shapes: which view is over which. A view is its number, counted from 0.
use Rattle.std.specs.Prelude.{◌≡◌, ℕ, ◌<◌, ◌≤◌, List, [], ◌∷◌, length, slice_index_or, Bool, true, false, ◌==◌}
use Rattle.std.specs.List.{list_any}

-- what a shape shows: the names of the views as bytes, and each view's children in the order written, none for a base view
pub record Views : Type 0 where
  pub names : List (List ℕ)
  pub children : List (List ℕ)

-- the view stands in the list
unfoldable pub has : List ℕ → ℕ → Bool
has views u = list_any (λ w. w == u) views

-- no view stands twice in the list
unfoldable pub Distinct : List ℕ → Type 0
Distinct [] = Unit {0}
Distinct (u ∷ us) = (has us u ≡ false) × Distinct us

-- the views that this one is over: none for a base view, nor for a number that is no view's
unfoldable pub children_of : List (List ℕ) → ℕ → List ℕ
children_of shape view = slice_index_or shape view []

-- at most 64 views, each over at most 6 views of lower numbers, none of them twice
pub record IsShape (shape : List (List ℕ)) : Type 0 where
  pub few_views : length shape ≤ 64
  pub few_children : (v : ℕ) → length (children_of shape v) ≤ 6
  pub lower : (v u : ℕ) → has (children_of shape v) u ≡ true → u < v
  pub distinct : (v : ℕ) → Distinct (children_of shape v)
