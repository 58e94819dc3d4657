-- The numbers of texts.
use Rattle.std.specs.Prelude.{◌≡◌, true, ℕ, ℤ, pos, negsuc, List, [], ◌∷◌, ◌++◌, Option, None, slice_get, if◌then◌else◌}
use Rattle.std.specs.List.{list_any, position_or_len}
use Rattle.std.specs.Str.{bytes_eq}

-- the text is among the texts
abbrev pub HasText : List (List ℕ) → List ℕ → Type 0
HasText texts text = list_any (bytes_eq text) texts ≡ true

-- the texts once this one has its number: they stay if it is among them, and else it goes last
abbrev pub with_text : List (List ℕ) → List ℕ → List (List ℕ)
with_text texts text = if list_any (bytes_eq text) texts then texts else texts ++ text ∷ []

-- the texts once each of these has its number, in order of first appearance
unfoldable pub with_texts : List (List ℕ) → List (List ℕ) → List (List ℕ)
with_texts texts [] = texts
with_texts texts (text ∷ more) = with_texts (with_text texts text) more

-- the number of a text: its place among the texts; for a new one the number that it will get
abbrev pub number_of_text : List (List ℕ) → List ℕ → ℕ
number_of_text texts text = position_or_len (bytes_eq text) texts

-- the text that a cell stands for, if there is one of this number
abbrev pub text_of_cell : List (List ℕ) → ℤ → Option (List ℕ)
text_of_cell texts (pos number) = slice_get texts number
text_of_cell texts (negsuc number) = None
