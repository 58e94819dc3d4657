-- What a shape keeps of its fields.
use Rattle.std.specs.Prelude.{◌≡◌, ℕ, ◌<◌, List, length, slice_index}
use Rattle.wh_dag.specs.Level.{level_of}
use Rattle.wh_dag.specs.Shape.{IsShape}

-- a name and the level for each view of a shape
pub record IsKept (names children : List (List ℕ)) (levels : List ℕ) : Type 0 where
  pub shape : IsShape children
  pub named : length names ≡ length children
  pub counted : length levels ≡ length children
  pub each_level : (view : ℕ) → view < length children → slice_index levels view ≡ level_of children view
