-- Sets of views as numbers: a bit for each view.
use Rattle.std.specs.Prelude.{ℕ, List, slice_index, Bool, ◌==◌}
use Rattle.std.specs.Int.{bit_at}

-- the view is in the set
unfoldable pub in_set : ℕ → ℕ → Bool
in_set set v = bit_at set v == 1

-- the view is in the set of another one
abbrev pub in_rows : List ℕ → ℕ → ℕ → Bool
in_rows rows v u = in_set (slice_index rows v) u
