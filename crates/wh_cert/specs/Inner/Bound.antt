-- What only proofs and private contracts use. The pair bound: what the Comps of a night cost at least, pair by pair of the views that a view is over, and the Insts.
use Rattle.std.specs.Prelude.{ℕ, List, if◌then◌else◌, ◌&&◌}
use Rattle.wh_dag.specs.Shape.{has, children_of}

-- what is read more under a view that is over both, where that is so much
abbrev pub more_under : List (List ℕ) → ℕ → ℕ → ℕ → ℕ → ℕ
more_under shape first second more v = if has (children_of shape v) first && has (children_of shape v) second then more else 0
