-- Rows of one width, whose cells stand side by side in one array.
use Rattle.std.specs.Prelude.{◌≡◌, ◌<◌, ◌≤◌, ◌*◌, ◌++◌, ℕ, ℤ, List, [], ◌∷◌, take, drop, length}
use Rattle.wh_pieces.specs.Row.{Row}

-- rows of this width, each with its value
abbrev pub flat : {T : Type 0} → ℕ → List ℤ → List T → List (Row × T)
flat w cells [] = []
flat w cells (v ∷ vs) = (take w cells, v) ∷ flat w (drop w cells) vs

-- of the entries before, those after are left, and the first are these, some and at most so many, of one width
pub record IsRun {T : Type 0} (most : ℕ) (before after : List (Row × T)) (width : ℕ) (cells : List ℤ) (values : List T) : Type 0 where
  pub rows : before ≡ flat width cells values ++ after
  pub even : length cells ≡ width * length values
  pub some : 0 < length values
  pub few : length values ≤ most
