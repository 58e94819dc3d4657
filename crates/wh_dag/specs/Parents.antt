-- The views over a view.
use Rattle.std.specs.Prelude.{ℕ, List, length, filter}
use Rattle.std.specs.List.{range_with_len}
use Rattle.wh_dag.specs.Shape.{has, children_of}

-- the views over this one, rising
unfoldable pub parents_of : List (List ℕ) → ℕ → List ℕ
parents_of shape view = filter (λ parent. has (children_of shape parent) view) (range_with_len 0 (length shape))
