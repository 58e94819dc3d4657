-- Steps of a loop over the pairs of a list.
use Rattle.std.proofs.Common.{◌≡◌, ℕ, ◌+◌, ◌<◌, ◌≤◌, List, ap, length, drop, get_or}
use Rattle.std.specs.List.{sum_by}
use Rattle.std.proofs.lemmas.List.{drop_more, drop_all}
use Rattle.wh_cert.specs.Bound.{sum_pairs}

pub pairs_none : (f : ℕ → ℕ → ℕ) (xs : List ℕ) (n : ℕ) → length xs ≤ n → sum_pairs f (drop n xs) ≡ 0
unfolding sum_pairs
pairs_none f xs n l = ap (sum_pairs f) (drop_all n xs l)

pub pairs_step : (f : ℕ → ℕ → ℕ) (xs : List ℕ) (i d : ℕ) → i < length xs → sum_pairs f (drop i xs) ≡ sum_by (f (get_or xs i d)) (drop (i + 1) xs) + sum_pairs f (drop (i + 1) xs)
unfolding sum_pairs
pairs_step f xs i d l = ap (sum_pairs f) (drop_more xs i d l)
