-- Bytes as lines, which are cut after each LF.
use Rattle.std.specs.Prelude.{◌-◌, ◌==◌, ◌||◌, ℕ, Bool, List, [], ◌∷◌, length, take, if◌then◌else◌, nat_eq}
use Rattle.std.specs.List.{onto_first, ends_with}

-- the lines of some bytes, each with the LF that ends it; what stands after the last LF is a line where it is not empty
abbrev pub whole_lines : List ℕ → List (List ℕ)
whole_lines [] = []
whole_lines (b ∷ bs) = if b == 10 then (b ∷ []) ∷ whole_lines bs else onto_first b (whole_lines bs)

-- the line without the LF that ends it
abbrev pub without_lf : List ℕ → List ℕ
without_lf line = if ends_with nat_eq line (10 ∷ []) then take (length line - 1) line else line

-- a blank is a space or a tab
abbrev pub is_blank : ℕ → Bool
is_blank b = b == 32 || b == 9
