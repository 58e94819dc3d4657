-- Sums over the numbers below a bound, and the parts of a list.
use Rattle.std.specs.Prelude.{ℕ, zero, suc, ◌+◌}
unfoldable pub use Rattle.wh_dag.specs.Parts.{parts}

-- f 0 + .. + f (n - 1)
unfoldable pub sum_below : (ℕ → ℕ) → ℕ → ℕ
sum_below f zero = 0
sum_below f (suc n) = sum_below f n + f n
