-- Kinds of shapes.
use Rattle.std.specs.Prelude.{◌≡◌, ℕ, ◌+◌, List, true}
use Rattle.wh_dag.specs.Shape.{has, children_of}
use Rattle.wh_dag.specs.Level.{level_of}

-- no view has two parents: two views that are over the same one are one view
abbrev pub IsTree : List (List ℕ) → Type 0
IsTree shape =
    (child first second : ℕ) → has (children_of shape first) child ≡ true → has (children_of shape second) child ≡ true → first ≡ second

-- each view is one level above each view that it is over
abbrev pub IsUniform : List (List ℕ) → Type 0
IsUniform shape = (view child : ℕ) → has (children_of shape view) child ≡ true → level_of shape view ≡ level_of shape child + 1
