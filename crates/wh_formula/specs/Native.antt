-- A closure over rows, as its contract shows it.
use Rattle.std.specs.Prelude.{◌≡◌, ℕ, List, ℤ, length}

-- a closure may be called on each row of that width
abbrev pub CallableOnRows : ℕ → (List ℤ → Type 0) → Type 0
CallableOnRows width can_call = (row : List ℤ) → length row ≡ width → can_call row
