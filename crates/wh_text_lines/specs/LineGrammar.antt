-- Texts whose lines say something, one below another: which line may stand below others, and what they say together. A line without words
-- says nothing, and counts.
use Rattle.std.specs.Prelude.{◌≡◌, ◌↔◌, ◌+◌, ◌++◌, ◌==◌, ℕ, Bool, true, List, [], ◌∷◌, length, Option, Some, None, option_and_then, Result, Ok, Err, if◌then◌else◌}
use Rattle.wh_text.specs.declared.fault.LoadFault.{LoadFault}
use Rattle.wh_text_lines.specs.Words.{lines_of, words_of}

-- a grammar of lines, by what lines may say together
pub record LineGrammar (Said : Type 0) : Type 0 where
  -- what no line has said
  pub nothing : Said
  -- what lines that said this say with a line of these words below them; None where it may not stand there
  pub with_line : Said → List ℕ → List (List ℕ) → Option Said
  -- lines that said this may be all of a text
  pub may_end : Said → Bool
  -- the fault of the line of this number
  pub fault : ℕ → LoadFault

-- what lines that said this say with any line below them: this where the line has no words
abbrev pub said_with : {Said : Type 0} → LineGrammar Said → Said → List ℕ → Option Said
said_with grammar said line = if length (words_of line) == 0 then Some said else grammar.with_line said line (words_of line)

-- what these lines say with others above them that said this; None where one of them may not stand below those above it
abbrev pub said_below : {Said : Type 0} → LineGrammar Said → Said → List (List ℕ) → Option Said
said_below grammar said [] = Some said
said_below grammar said (line ∷ lines) = option_and_then (λ more. said_below grammar more lines) (said_with grammar said line)

-- lines that said this and are so many are a text where they may end, and else the line after them is at fault
abbrev pub if_whole : {Said : Type 0} → LineGrammar Said → ℕ → Said → Result Said LoadFault
if_whole grammar number said = if grammar.may_end said then Ok said else Err (grammar.fault (number + 1))

-- what follows where the line of this number may stand, and with it this is said; else that line is at fault
abbrev pub if_stands : {Said : Type 0} → LineGrammar Said → ℕ → Option Said → (Said → Result Said LoadFault) → Result Said LoadFault
if_stands grammar number None next = Err (grammar.fault number)
if_stands grammar number (Some said) next = next said

-- what these lines say with so many above them that said this, or the fault of the first one that may not stand where it does, counted from
-- 1
abbrev pub read_below : {Said : Type 0} → LineGrammar Said → ℕ → Said → List (List ℕ) → Result Said LoadFault
read_below grammar number said [] = if_whole grammar number said
read_below grammar number said (line ∷ lines) = if_stands grammar (number + 1) (said_with grammar said line) (λ more. read_below grammar (number + 1) more lines)

-- what the lines of a text say together, or its first fault
abbrev pub read_by : {Said : Type 0} → LineGrammar Said → List ℕ → Result Said LoadFault
read_by grammar text = read_below grammar 0 grammar.nothing (lines_of text)

-- each of the lines may stand below those above it, and together they say this
abbrev pub Say : {Said : Type 0} → LineGrammar Said → List (List ℕ) → Said → Type 0
Say grammar lines said = said_below grammar grammar.nothing lines ≡ Some said

-- the lines say this, and may be all of a text
abbrev pub SayWhole : {Said : Type 0} → LineGrammar Said → List (List ℕ) → Said → Type 0
SayWhole grammar lines said = Say grammar lines said × (grammar.may_end said ≡ true)

-- where lines stop being a text of a kind, as the number of a line, counted from 1; told by which lines begin one, and which are one
pub data StopAt (Begin Whole : List (List ℕ) → Type 0) (lines : List (List ℕ)) (number : ℕ) : Type 0 where
  -- a line with which those above it no longer begin one
  wrong_line : (above below : List (List ℕ)) (line : List ℕ) → lines ≡ above ++ line ∷ below → number ≡ length above + 1 → Begin above → (Begin (above ++ line ∷ []) → ⊥) → StopAt Begin Whole lines number
  -- after the last line, where all of them begin one and are none
  too_short : number ≡ length lines + 1 → Begin lines → (Whole lines → ⊥) → StopAt Begin Whole lines number

-- a text is read as what its lines say as a whole, and as nothing where they say none
abbrev pub LinesRead : Type 0 → Type 0
LinesRead Said = (grammar : LineGrammar Said) (text : List ℕ) (said : Said) → (read_by grammar text ≡ Ok said) ↔ SayWhole grammar (lines_of text) said

-- any other text is at fault where its lines stop being one: at the first line that may not stand below those above it, or after the last
abbrev pub LinesStop : Type 0 → Type 0
LinesStop Said =
    (grammar : LineGrammar Said) (text : List ℕ) (fault : LoadFault) → read_by grammar text ≡ Err fault →
    (number : ℕ) × (fault ≡ grammar.fault number) × StopAt (λ lines. (said : Said) × Say grammar lines said) (λ lines. (said : Said) × SayWhole grammar lines said) (lines_of text) number
