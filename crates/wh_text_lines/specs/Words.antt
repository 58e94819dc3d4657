-- The lines of a text, and the words of a line.
use Rattle.std.specs.Prelude.{◌==◌, ℕ, Bool, not, List, [], length, map, filter, slice_index_or}
use Rattle.std.specs.List.{slice_split}
use Rattle.wh_text.specs.Line.{is_blank, whole_lines, without_lf}

-- the lines of a text, each without the LF that ends it
abbrev pub lines_of : List ℕ → List (List ℕ)
lines_of text = map without_lf (whole_lines text)

-- a piece between two blanks is a word where it is not empty
abbrev pub is_word : List ℕ → Bool
is_word piece = not (length piece == 0)

-- the words of a line: the pieces between its blanks that are not empty
abbrev pub words_of : List ℕ → List (List ℕ)
words_of line = filter is_word (slice_split is_blank line)

-- the word at this place, from 0; empty where there is none
abbrev pub word_at : List (List ℕ) → ℕ → List ℕ
word_at words place = slice_index_or words place []
