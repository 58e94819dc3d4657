-- The levels of views.
use Rattle.std.specs.Prelude.{ℕ, zero, suc, ◌+◌, max, List, [], ◌∷◌, map}
use Rattle.wh_dag.specs.Shape.{children_of}

-- the highest of some levels
abbrev pub highest : List ℕ → ℕ
highest [] = 0
highest (level ∷ levels) = max level (highest levels)

-- the level of a view over children of these levels: 0 with no child, else one more than the highest
abbrev pub level_over : List ℕ → ℕ
level_over [] = 0
level_over (level ∷ levels) = highest (level ∷ levels) + 1

-- the level of a view, followed down this many steps
unfoldable pub level_within : ℕ → List (List ℕ) → ℕ → ℕ
level_within zero shape view = 0
level_within (suc steps) shape view = level_over (map (level_within steps shape) (children_of shape view))

-- the level of a view; as children have lower numbers, view + 1 steps go all the way down
unfoldable pub level_of : List (List ℕ) → ℕ → ℕ
level_of shape view = level_within (suc view) shape view
