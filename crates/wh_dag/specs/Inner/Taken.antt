-- What only proofs and private contracts use. Views that are marked, in a table that has a flag for each number.
use Rattle.std.specs.Prelude.{◌≡◌, ℕ, List, Bool, true, false, slice_index_or}
use Rattle.wh_dag.specs.Shape.{has}

-- the view is marked
abbrev pub is_taken : List Bool → ℕ → Bool
is_taken taken view = slice_index_or taken view false

-- none of the views is marked
abbrev pub AreFree : List Bool → List ℕ → Type 0
AreFree taken views = (u : ℕ) → has views u ≡ true → is_taken taken u ≡ false
