-- Parts of a bundle whose lines stand in a file of their own.
use Rattle.std.specs.Prelude.{◌≡◌, ◌+◌, ◌==◌, ◌&&◌, ◌||◌, not, ℕ, Bool, true, List, [], ◌∷◌, ◌++◌, length, drop, Option, Some, None, is_some, codes, if◌then◌else◌, nat_eq, nat_lt}
use Rattle.std.specs.List.{before_first, prefix_len, starts_with, ends_with, list_all, flat_map}
use Rattle.wh_text.specs.Line.{is_blank, whole_lines}
use Rattle.wh_text_bundle.specs.Cut.{RawPart, bytes_of_part, bytes_of_parts, cut}
use Rattle.wh_text_bundle.specs.Heading.{heading_text, name_after, without_blank_end}
use Rattle.wh_text_bundle.specs.PartLine.{is_blank_text, opens_part}
use Rattle.wh_text_bundle.specs.Text.{body_text}

-- what a heading that names a file says: the heading without it, and the path
pub record NamedFile : Type 0 where
  pub heading : List ℕ
  pub path : List ℕ

-- the `<` before a path
abbrev pub is_sign : ℕ → Bool
is_sign b = b == 60

-- the heading before the first `<`, and what stands behind that, both without the blanks beside it
abbrev pub heading_before : List ℕ → List ℕ
heading_before text = without_blank_end (before_first is_sign text)

abbrev pub without_blank_front : List ℕ → List ℕ
without_blank_front text = drop (prefix_len is_blank text) text

abbrev pub path_behind : List ℕ → List ℕ
path_behind text = without_blank_front (drop (length (before_first is_sign text) + 1) text)

-- the heading is one of rows or of changes
abbrev pub has_rows : List ℕ → Bool
has_rows heading = is_some (name_after (codes "data") heading) || is_some (name_after (codes "changes") heading)

-- the file that the text of a heading names, if it names one
abbrev pub named_file : List ℕ → Option NamedFile
named_file text =
    if has_rows (heading_before text) && nat_lt 0 (length (path_behind text)) then Some (record { heading = heading_before text; path = path_behind text }) else None

-- the file in which the lines of a part stand, if they do: it has none of its own but blank ones, and its heading names a file
abbrev pub filed_part : RawPart → Option NamedFile
filed_part part = if is_blank_text part.body then named_file (heading_text part.opening) else None

abbrev pub is_unfiled : RawPart → Bool
is_unfiled part = not (is_some (filed_part part))

-- a line of a file as it stands in a part: with one `@` more where it begins with one
abbrev pub escaped : List ℕ → List ℕ
escaped line = if starts_with nat_eq line (64 ∷ []) then 64 ∷ line else line

-- each line of a file so
abbrev pub all_escaped : List ℕ → List ℕ
all_escaped file = flat_map escaped (whole_lines file)

-- bytes of which the last line is ended
abbrev pub ended : List ℕ → List ℕ
ended bytes = if nat_lt 0 (length bytes) && not (ends_with nat_eq bytes (10 ∷ [])) then bytes ++ 10 ∷ [] else bytes

-- the lines of a file, as a part has them
abbrev pub body_of_file : List ℕ → List ℕ
body_of_file file = ended (all_escaped file)

-- the part with the lines of its file
abbrev pub filed_bytes : List ℕ → List ℕ → List ℕ
filed_bytes heading file = 64 ∷ heading ++ 10 ∷ body_of_file file

-- the bytes of a part with the first of these files in its place, if it names one, and the files that are left. A part for which there is no
-- file stands as it is
abbrev pub part_with : Option NamedFile → RawPart → List (List ℕ) → List ℕ × List (List ℕ)
part_with None part files = (bytes_of_part part, files)
part_with (Some named) part [] = (bytes_of_part part, [])
part_with (Some named) part (file ∷ files) = (filed_bytes named.heading file, files)

-- the bytes of parts with these files in their places: the first is that of the first part that names one, and so on
abbrev pub filled_parts : List RawPart → List (List ℕ) → List ℕ
filled_parts [] files = []
filled_parts (part ∷ parts) files = (part_with (filed_part part) part files).0 ++ filled_parts parts (part_with (filed_part part) part files).1

-- the bytes of a bundle with the lines of these files in their places
abbrev pub filled : List ℕ → List (List ℕ) → List ℕ
filled text files = (cut text).preface ++ filled_parts (cut text).parts files

-- the first part of a text whose lines stand in a file: what its heading says, and the bytes above and below it
pub record IsFirstFiled (text above heading path below : List ℕ) : Type 0 where
  pub before : List RawPart
  pub part : RawPart
  pub split : (cut text).parts ≡ before ++ part ∷ (cut below).parts
  pub passed : list_all is_unfiled before ≡ true
  pub is : filed_part part ≡ Some (record { heading = heading; path = path })
  pub starts : (cut below).preface ≡ []
  pub over : above ≡ (cut text).preface ++ bytes_of_parts before

-- no part's lines stand in a file
abbrev pub HasNoFiled : List ℕ → Type 0
HasNoFiled text = list_all is_unfiled (cut text).parts ≡ true

-- what is read of a part is what its file holds, with its last line ended; and no line of it opens a part
pub record IsReadAsItIs (file : List ℕ) : Type 0 where
  pub text : body_text true (body_of_file file) ≡ ended file
  pub closed : list_all (λ line. not (opens_part line)) (whole_lines (body_of_file file)) ≡ true
