-- Records whose cells stand side by side in one array: what only proofs and private contracts use.
use Rattle.std.specs.Prelude.{◌≡◌, ◌+◌, ◌*◌, ◌≤◌, ℕ, zero, suc, ℤ, List, [], ◌∷◌, length, map, slice_index}

-- no end stands before this cell or before the end before it, and the last is this one
abbrev pub AreEnds : ℕ → List ℕ → ℕ → Type 0
AreEnds start [] last = start ≡ last
AreEnds start (end ∷ ends) last = (start ≤ end) × AreEnds end ends last

-- as many cells as the rows have; where ends are kept, one for each row
abbrev pub AreFlat : ℕ → List ℤ → List ℕ → List ℤ → Type 0
AreFlat width cells [] counts = length cells ≡ width * length counts
AreFlat width cells (end ∷ ends) counts = (length (end ∷ ends) ≡ length counts) × AreEnds 0 (end ∷ ends) (length cells)

-- the ends of so many rows of one width, from this cell on
abbrev pub even_ends : ℕ → ℕ → ℕ → List ℕ
even_ends start width zero = []
even_ends start width (suc n) = (start + width) ∷ even_ends (start + width) width n

-- the ends of rows that had none: those of one width
abbrev pub kept_ends : ℕ → List ℕ → ℕ → List ℕ
kept_ends width [] rows = even_ends 0 width rows
kept_ends width (end ∷ ends) rows = end ∷ ends

-- where rows end that end here, behind so many cells
abbrev pub ends_behind : ℕ → List ℕ → List ℕ
ends_behind cells ends = map (λ end. cells + end) ends

-- where the row at a place begins, the first at this cell
abbrev pub begin_at : ℕ → List ℕ → ℕ → ℕ
begin_at start ends zero = start
begin_at start ends (suc place) = slice_index ends place
