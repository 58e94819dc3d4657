-- What a graph is drawn from.
use Rattle.std.specs.Prelude.{ℕ, List}

-- the child lists of a shape, and the couples that are decided: they determine the graph
pub record Drawn : Type 0 where
  pub children : List (List ℕ)
  pub decided : List (ℕ × ℕ)
