-- The lines of bytes that are read bit by bit, each handed out as soon as its end was read.
use Rattle.std.specs.Prelude.{◌≡◌, ◌≢◌, ◌⊎◌, ℕ, List, [], ◌∷◌, ◌++◌, Option, Some, None, MatchOption}
use Rattle.std.specs.List.{All}
use Rattle.wh_text_lines.specs.Words.{lines_of}

-- no LF is among these bytes
abbrev pub IsOneLine : List ℕ → Type 0
IsOneLine line = All (λ byte. byte ≢ 10) line

-- The bytes begin with this line, and these stand below it. An LF ends the line; where none is left, all bytes are the last line
abbrev pub IsFirstLine : List ℕ → List ℕ → List ℕ → Type 0
IsFirstLine bytes line below = IsOneLine line × ((bytes ≡ line ++ 10 ∷ below) ⊎ ((bytes ≡ line) × (line ≢ []) × (below ≡ [])))

-- known bytes lose the line that was handed out, with its LF; only where none are left there is no line
abbrev pub HandsOut : Option (List ℕ) → Option (List ℕ) → Option (List ℕ) → Type 0
HandsOut None line after = Unit {0}
HandsOut (Some bytes) line None = ⊥
HandsOut (Some bytes) line (Some below) = MatchOption line ((bytes ≡ []) × (below ≡ [])) (λ own. IsFirstLine bytes own below)

-- the first line of a text and the lines of what stands below it are the lines of the text
abbrev pub FirstLines : Type 0
FirstLines = (bytes line below : List ℕ) → IsFirstLine bytes line below → lines_of bytes ≡ line ∷ lines_of below
