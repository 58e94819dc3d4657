-- The lines of a bundle: those that open a part, and those that stand in one.
use Rattle.std.specs.Prelude.{◌-◌, ◌&&◌, ℕ, Bool, not, List, [], ◌∷◌, ◌++◌, length, take, drop, if◌then◌else◌, nat_eq}
use Rattle.std.specs.List.{starts_with, ends_with, list_all}
use Rattle.wh_text.specs.Line.{whole_lines, without_lf, is_blank}

-- the line ends in CR LF
abbrev pub has_cr : List ℕ → Bool
has_cr line = ends_with nat_eq line (13 ∷ 10 ∷ [])

-- the line without the CR directly before its LF
abbrev pub without_cr : List ℕ → List ℕ
without_cr line = if has_cr line then take (length line - 2) line ++ 10 ∷ [] else line

-- the line without its end: the LF, and a CR directly before it
abbrev pub without_end : List ℕ → List ℕ
without_end line = if has_cr line then take (length line - 2) line else without_lf line

-- the line has blanks alone
abbrev pub is_blank_line : List ℕ → Bool
is_blank_line line = list_all is_blank (without_end line)

-- each line has blanks alone
abbrev pub is_blank_text : List ℕ → Bool
is_blank_text bytes = list_all is_blank_line (whole_lines bytes)

-- the line begins with `@@`
abbrev pub is_escaped : List ℕ → Bool
is_escaped line = starts_with nat_eq line (64 ∷ 64 ∷ [])

-- the line begins with one `@`, and opens a part
abbrev pub opens_part : List ℕ → Bool
opens_part line = starts_with nat_eq line (64 ∷ []) && not (is_escaped line)

-- the line begins with no `@`
abbrev pub is_plain : List ℕ → Bool
is_plain line = not (starts_with nat_eq line (64 ∷ []))

-- what the line stands for in a part: `@@` for one `@`
abbrev pub unescaped : List ℕ → List ℕ
unescaped line = if is_escaped line then drop 1 line else line
