-- The desired order of views: by net growth, ties by number. Net growth is post - pre, which can be below zero, so it is
-- compared by sums.
use Rattle.std.specs.Prelude.{◌≡◌, ℕ, ◌+◌, Bool, true, ◌&&◌, ◌||◌, ◌==◌, nat_lt}
use Rattle.wh_strategy.specs.declared.sizes.Size.{Size}

-- the net growth of u is less than that of w
abbrev pub grows_less : (ℕ → Size) → ℕ → ℕ → Bool
grows_less sizes u w = nat_lt ((sizes u).post + (sizes w).pre) ((sizes w).post + (sizes u).pre)

-- the net growth of both is the same
abbrev pub grows_the_same : (ℕ → Size) → ℕ → ℕ → Bool
grows_the_same sizes u w = (sizes u).post + (sizes w).pre == (sizes w).post + (sizes u).pre

-- u comes before w in the desired order: it grows less, or they grow the same and it has the lower number
unfoldable pub comes_first : (ℕ → Size) → ℕ → ℕ → Bool
comes_first sizes u w = grows_less sizes u w || (grows_the_same sizes u w && nat_lt u w)

-- u comes before w in the desired order, as a fact
abbrev pub ComesFirst : (ℕ → Size) → ℕ → ℕ → Type 0
ComesFirst sizes u w = comes_first sizes u w ≡ true
