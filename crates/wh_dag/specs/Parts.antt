-- The parts of a list of views.
use Rattle.std.specs.Prelude.{ℕ, List, [], ◌∷◌, ◌++◌, map}

-- the non-empty parts of a list: those without its first member, and those with it, alone or beside others
unfoldable pub parts : List ℕ → List (List ℕ)
parts [] = []
parts (y ∷ ys) = (y ∷ []) ∷ (parts ys ++ map (λ part. y ∷ part) (parts ys))
