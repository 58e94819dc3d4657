-- Places among entries in order: what only proofs and private contracts use.
use Rattle.std.specs.Prelude.{◌≡◌, ℕ, zero, suc, ◌≤◌, ◌<◌, List, [], ◌∷◌, take, drop, length}
use Rattle.std.specs.declared.cmp.Ordering.TheVariants.{Less, Equal}
use Rattle.wh_pieces.specs.Row.{Row, row_cmp}
use Rattle.wh_pieces.specs.Place.{IsAbove}

-- the row is below the first of these, if there is one
abbrev pub IsBelowFirst : {T : Type 0} → Row → List (Row × T) → Type 0
IsBelowFirst row [] = Unit {0}
IsBelowFirst row (e ∷ es) = row_cmp row e.0 ≡ Less

-- the row is that of the first of these
abbrev pub IsFirst : {T : Type 0} → Row → List (Row × T) → Type 0
IsFirst row [] = ⊥
IsFirst row (e ∷ es) = row_cmp row e.0 ≡ Equal

-- the row stands at this place
pub record IsAt {T : Type 0} (row : Row) (es : List (Row × T)) (place : ℕ) : Type 0 where
  pub within : place < length es
  pub above : IsAbove row (take place es)
  pub same : IsFirst row (drop place es)

-- the row would go to this place
pub record IsGapFor {T : Type 0} (row : Row) (es : List (Row × T)) (place : ℕ) : Type 0 where
  pub within : place ≤ length es
  pub above : IsAbove row (take place es)
  pub below : IsBelowFirst row (drop place es)

-- the entries with this value at this place
abbrev pub set_at : {T : Type 0} → List (Row × T) → ℕ → T → List (Row × T)
set_at [] place v = []
set_at (e ∷ es) zero v = (e.0, v) ∷ es
set_at (e ∷ es) (suc place) v = e ∷ set_at es place v
