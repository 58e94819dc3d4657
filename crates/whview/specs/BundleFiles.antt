-- A bundle that is read from a file, and the files that its headings name: the lines of each stand in its place.
use Rattle.std.specs.Prelude.{◌≡◌, ◌≤◌, ℕ, List, length, map, filter_map, Contains}
use Rattle.wh_text_bundle.specs.Cut.{cut}
use Rattle.wh_text_bundle.specs.Files.{NamedFile, filed_part, filled}

-- what the headings say that name a file, from the top
abbrev pub named_files : List ℕ → List NamedFile
named_files bundle = filter_map filed_part (cut bundle).parts

-- the heading of a part names its file by this path
abbrev pub NamesFile : List ℕ → List ℕ → Type 0
NamesFile bundle path = Contains (map (λ named. named.path) (named_files bundle)) path

-- these are bytes of the files that a bundle names: of each once, from the top, and of no other
abbrev pub AreOfItsFiles : List ℕ → List (List ℕ) → Type 0
AreOfItsFiles bundle files = length files ≡ length (named_files bundle)

-- these bytes are those of a bundle with the lines of its files in their places; neither has more bytes than the limit
pub record AreFilled (limit : ℕ) (bytes : List ℕ) : Type 0 where
  pub bundle : List ℕ
  pub files : List (List ℕ)
  pub fits : length bundle ≤ limit
  pub of : AreOfItsFiles bundle files
  pub is : bytes ≡ filled bundle files
  pub within : length bytes ≤ limit
