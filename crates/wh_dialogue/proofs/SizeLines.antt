-- The lines of views that have no size.
use Rattle.std.proofs.Common.{◌≡◌, refl, ℕ, List, [], ◌∷◌}
use Rattle.wh_dialogue.specs.Said.{size_lines}

pub no_lines : (names : List (List ℕ)) (sizes : List ℕ) → sizes ≡ [] → size_lines names sizes ≡ []
no_lines [] sizes e = refl
no_lines (name ∷ names) [] e = refl
no_lines (name ∷ names) (size ∷ sizes) e = cc
