-- The first line of an input, and the words on it.
use Rattle.std.specs.Prelude.{ℕ, Bool, ◌==◌, ◌||◌, not, List, codes, filter, length, nat_eq, if◌then◌else◌}
use Rattle.std.specs.List.{after_first, before_first, list_any, slice_split, starts_with}
use Rattle.std.specs.Str.{bytes_eq}
use Rattle.std.specs.Str.Lines.{strip_carriage_return}

abbrev pub is_lf : ℕ → Bool
is_lf b = b == 10

abbrev pub is_space : ℕ → Bool
is_space b = b == 32

-- what stands before the first LF, without one CR at its end; an input with no LF is all line
abbrev pub first_line_of : List ℕ → List ℕ
first_line_of input =
    if list_any is_lf input then strip_carriage_return (before_first is_lf input) else input

-- what stands after the first LF; nothing where there is none
abbrev pub after_first_line : List ℕ → List ℕ
after_first_line input = after_first is_lf input

-- the pieces between spaces that are not empty
abbrev pub words_in : List ℕ → List (List ℕ)
words_in line = filter (λ word. not (length word == 0)) (slice_split is_space line)

-- the word is `--input`, or begins with `--input=`
abbrev pub names_input : List ℕ → Bool
names_input word =
    bytes_eq word (codes "--input") || starts_with nat_eq word (codes "--input=")

-- the word is `--most`, or begins with `--most=`
abbrev pub names_most : List ℕ → Bool
names_most word =
    bytes_eq word (codes "--most") || starts_with nat_eq word (codes "--most=")
