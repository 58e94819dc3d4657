-- Laws of sums over a list and over the numbers below a bound.
use Rattle.std.proofs.Common.{◌≡◌, ℕ, suc, ◌+◌, refl, ap, arith}
use Rattle.wh_strategy.specs.Sums.{sum_below}
pub use Rattle.wh_dag.proofs.Sums.{sum_by-plus, sum_by-none, sum_by-same, sum_by-swap}

pub sum_below_none : (f : ℕ → ℕ) → sum_below f 0 ≡ 0
unfolding sum_below
sum_below_none f = refl

pub sum_below_more : (f : ℕ → ℕ) (n : ℕ) → sum_below f (n + 1) ≡ sum_below f n + f n
unfolding sum_below
sum_below_more f n = let e : n + 1 ≡ suc n = omega arith in ap (sum_below f) e

pub ruleset sums = (sum_below_none, sum_below_more)
