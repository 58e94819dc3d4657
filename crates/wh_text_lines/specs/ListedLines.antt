-- Texts whose lines with words each say one thing: what they say is a list, in which each thing may follow those above it.
use Rattle.std.specs.Prelude.{◌++◌, ◌==◌, ℕ, Bool, List, [], ◌∷◌, length, Option, Some, None, if◌then◌else◌}
use Rattle.std.specs.List.{flat_map}
use Rattle.wh_text.specs.declared.fault.LoadFault.{LoadFault}
use Rattle.wh_text_lines.specs.LineGrammar.{LineGrammar}
use Rattle.wh_text_lines.specs.Words.{words_of}

-- what lines say with one more below them, where that one says something that may follow
abbrev pub if_follows : {Line : Type 0} → (List Line → Line → Bool) → List Line → Option Line → Option (List Line)
if_follows follows before None = None
if_follows follows before (Some line) = if follows before line then Some (before ++ line ∷ []) else None

-- the grammar of such texts, by what a line of these words says, if it says anything
abbrev pub listed_grammar : {Line : Type 0} → (List ℕ → List (List ℕ) → Option Line) → (List Line → Line → Bool) → (List Line → Bool) → (ℕ → LoadFault) → LineGrammar (List Line)
listed_grammar line_of follows ends fault = record { nothing = []; with_line = λ before line words. if_follows follows before (line_of line words); may_end = ends; fault = fault }

-- what a line says: nothing where it has no words, and None where they say nothing that a line may
abbrev pub told_by : {Line : Type 0} → (List ℕ → List (List ℕ) → Option Line) → List ℕ → List (Option Line)
told_by line_of line = if length (words_of line) == 0 then [] else line_of line (words_of line) ∷ []

-- what lines say, one after another
abbrev pub told_in : {Line : Type 0} → (List ℕ → List (List ℕ) → Option Line) → List (List ℕ) → List (Option Line)
told_in line_of lines = flat_map (told_by line_of) lines
