-- Lines that each say one thing: what they say together is what they say one after another, where each may follow.
use Rattle.std.proofs.Common.{◌≡◌, ℕ, Bool, true, false, List, [], ◌∷◌, ◌++◌, length, map, Option, Some, None, refl, ap, sym, ◌∙◌}
use Rattle.std.specs.Prelude.{◌==◌, ◌&&◌, option_and_then, if◌then◌else◌}
use Rattle.std.proofs.lemmas.Bool.{and_parts}
use Rattle.std.proofs.lemmas.List.{append-nil, append_assoc}
use Rattle.wh_text.specs.declared.fault.LoadFault.{LoadFault}
use Rattle.wh_text_lines.specs.LineGrammar.{said_below, said_with}
use Rattle.wh_text_lines.specs.ListedLines.{if_follows, listed_grammar, told_by, told_in}
use Rattle.wh_text_lines.specs.Inner.ListedLines.{each_follows}
use Rattle.wh_text_lines.specs.Words.{words_of}

-- ---- what one line says after others

data LineCase (Line : Type 0) (line_of : List ℕ → List (List ℕ) → Option Line) (follows : List Line → Line → Bool) (ends : List Line → Bool) (fault : ℕ → LoadFault) (before : List Line) (line : List ℕ) : Type 0 where
  blank : told_by line_of line ≡ [] → said_with (listed_grammar line_of follows ends fault) before line ≡ Some before → LineCase Line line_of follows ends fault before line
  unsaid : told_by line_of line ≡ None ∷ [] → said_with (listed_grammar line_of follows ends fault) before line ≡ None → LineCase Line line_of follows ends fault before line
  followed : (own : Line) → follows before own ≡ true → told_by line_of line ≡ Some own ∷ [] → said_with (listed_grammar line_of follows ends fault) before line ≡ Some (before ++ own ∷ [])
      → LineCase Line line_of follows ends fault before line
  stuck : (own : Line) → follows before own ≡ false → told_by line_of line ≡ Some own ∷ [] → said_with (listed_grammar line_of follows ends fault) before line ≡ None
      → LineCase Line line_of follows ends fault before line

told_line : (Line : Type 0) (line_of : List ℕ → List (List ℕ) → Option Line) (line : List ℕ) (b : Bool) → (length (words_of line) == 0) ≡ b
    → told_by line_of line ≡ (if b then [] else line_of line (words_of line) ∷ [])
told_line Line line_of line b some = ap (λ (c : Bool). if c then [] else line_of line (words_of line) ∷ []) some

taken_line : (Line : Type 0) (line_of : List ℕ → List (List ℕ) → Option Line) (follows : List Line → Line → Bool) (ends : List Line → Bool) (fault : ℕ → LoadFault) (before : List Line) (line : List ℕ) (b : Bool)
    → (length (words_of line) == 0) ≡ b → said_with (listed_grammar line_of follows ends fault) before line ≡ (if b then Some before else if_follows follows before (line_of line (words_of line)))
taken_line Line line_of follows ends fault before line b some = ap (λ (c : Bool). if c then Some before else if_follows follows before (line_of line (words_of line))) some

said_case : (Line : Type 0) (line_of : List ℕ → List (List ℕ) → Option Line) (follows : List Line → Line → Bool) (ends : List Line → Bool) (fault : ℕ → LoadFault) (before : List Line) (line : List ℕ) (own : Line) (b : Bool)
    → told_by line_of line ≡ Some own ∷ [] → said_with (listed_grammar line_of follows ends fault) before line ≡ if_follows follows before (Some own) → follows before own ≡ b
    → LineCase Line line_of follows ends fault before line
said_case Line line_of follows ends fault before line own true told taken may = followed own may told (taken ∙ ap (λ (b : Bool). if b then Some (before ++ own ∷ []) else None) may)
said_case Line line_of follows ends fault before line own false told taken may = stuck own may told (taken ∙ ap (λ (b : Bool). if b then Some (before ++ own ∷ []) else None) may)

words_case : (Line : Type 0) (line_of : List ℕ → List (List ℕ) → Option Line) (follows : List Line → Line → Bool) (ends : List Line → Bool) (fault : ℕ → LoadFault) (before : List Line) (line : List ℕ) (b : Bool)
    (own : Option Line) → (length (words_of line) == 0) ≡ b → line_of line (words_of line) ≡ own → LineCase Line line_of follows ends fault before line
words_case Line line_of follows ends fault before line true own some e = blank (told_line Line line_of line true some) (taken_line Line line_of follows ends fault before line true some)
words_case Line line_of follows ends fault before line false None some e =
    unsaid (told_line Line line_of line false some ∙ ap (λ o. o ∷ []) e) (taken_line Line line_of follows ends fault before line false some ∙ ap (if_follows follows before) e)
words_case Line line_of follows ends fault before line false (Some own) some e =
    said_case Line line_of follows ends fault before line own (follows before own) (told_line Line line_of line false some ∙ ap (λ o. o ∷ []) e)
    (taken_line Line line_of follows ends fault before line false some ∙ ap (if_follows follows before) e) refl

line_case : (Line : Type 0) (line_of : List ℕ → List (List ℕ) → Option Line) (follows : List Line → Line → Bool) (ends : List Line → Bool) (fault : ℕ → LoadFault) (before : List Line) (line : List ℕ)
    → LineCase Line line_of follows ends fault before line
line_case Line line_of follows ends fault before line = words_case Line line_of follows ends fault before line (length (words_of line) == 0) (line_of line (words_of line)) refl refl

-- ---- lines are read as what they say

-- one thing and others are all said
first_said : (Line : Type 0) (line : Line) (rest : List (Option Line)) (own : List Line) → Some line ∷ rest ≡ map Some own → (below : List Line) × (own ≡ line ∷ below) × (rest ≡ map Some below)
first_said Line line rest [] e = cc
first_said Line line rest (first ∷ own) e =
    let same : Some line ≡ Some first = cc in
    let one : line ≡ first = cc in
    (own, ap (λ l. l ∷ own) (sym one), cc)

none_said : (Line : Type 0) (rest : List (Option Line)) (own : List Line) → None ∷ rest ≡ map Some own → ⊥
none_said Line rest [] e = cc
none_said Line rest (first ∷ own) e = cc

abbrev Reads : (Line : Type 0) → (List ℕ → List (List ℕ) → Option Line) → (List Line → Line → Bool) → (List Line → Bool) → (ℕ → LoadFault) → List (List ℕ) → Type 0
Reads Line line_of follows ends fault lines = (before own : List Line) → told_in line_of lines ≡ map Some own → each_follows follows before own ≡ true
    → said_below (listed_grammar line_of follows ends fault) before lines ≡ Some (before ++ own)

read_end : (Line : Type 0) (before own : List Line) → ◌≡◌ {A = List (Option Line)} [] (map Some own) → ◌≡◌ {A = Option (List Line)} (Some before) (Some (before ++ own))
read_end Line before [] e = ap Some (sym (append-nil before))
read_end Line before (first ∷ own) e = cc

read_more : (Line : Type 0) (line_of : List ℕ → List (List ℕ) → Option Line) (follows : List Line → Line → Bool) (ends : List Line → Bool) (fault : ℕ → LoadFault) (before own : List Line) (lines : List (List ℕ)) (first : Line)
    → Reads Line line_of follows ends fault lines → Some first ∷ told_in line_of lines ≡ map Some own → each_follows follows before own ≡ true
    → said_below (listed_grammar line_of follows ends fault) (before ++ first ∷ []) lines ≡ Some (before ++ own)
read_more Line line_of follows ends fault before own lines first next all each =
    let parts = first_said Line first (told_in line_of lines) own all in
    let both = and_parts (follows before first) (each_follows follows (before ++ first ∷ []) parts.0) (ap (each_follows follows before) (sym parts.1) ∙ each) in
    next (before ++ first ∷ []) parts.0 parts.2 both.1 ∙ ap Some (append_assoc before (first ∷ []) parts.0 ∙ ap (λ said. before ++ said) (sym parts.1))

read_line : (Line : Type 0) (line_of : List ℕ → List (List ℕ) → Option Line) (follows : List Line → Line → Bool) (ends : List Line → Bool) (fault : ℕ → LoadFault) (before own : List Line) (line : List ℕ) (lines : List (List ℕ))
    → LineCase Line line_of follows ends fault before line → Reads Line line_of follows ends fault lines → told_in line_of (line ∷ lines) ≡ map Some own → each_follows follows before own ≡ true
    → said_below (listed_grammar line_of follows ends fault) before (line ∷ lines) ≡ Some (before ++ own)
read_line Line line_of follows ends fault before own line lines (blank one taken) next told each =
    ap (option_and_then (λ more. said_below (listed_grammar line_of follows ends fault) more lines)) taken ∙ next before own (sym (ap (λ said. said ++ told_in line_of lines) one) ∙ told) each
read_line Line line_of follows ends fault before own line lines (unsaid one taken) next told each =
    absurd (none_said Line (told_in line_of lines) own (sym (ap (λ said. said ++ told_in line_of lines) one) ∙ told))
read_line Line line_of follows ends fault before own line lines (followed first may one taken) next told each =
    ap (option_and_then (λ more. said_below (listed_grammar line_of follows ends fault) more lines)) taken
    ∙ read_more Line line_of follows ends fault before own lines first next (sym (ap (λ said. said ++ told_in line_of lines) one) ∙ told) each
read_line Line line_of follows ends fault before own line lines (stuck first may one taken) next told each =
    let parts = first_said Line first (told_in line_of lines) own (sym (ap (λ said. said ++ told_in line_of lines) one) ∙ told) in
    let does : follows before first ≡ true = (and_parts (follows before first) (each_follows follows (before ++ first ∷ []) parts.0) (ap (each_follows follows before) (sym parts.1) ∙ each)).0 in
    cc

pub reads : (Line : Type 0) (line_of : List ℕ → List (List ℕ) → Option Line) (follows : List Line → Line → Bool) (ends : List Line → Bool) (fault : ℕ → LoadFault) (lines : List (List ℕ))
    → Reads Line line_of follows ends fault lines
reads Line line_of follows ends fault [] = λ before own told each. read_end Line before own told
reads Line line_of follows ends fault (line ∷ lines) = λ before own told each.
    read_line Line line_of follows ends fault before own line lines (line_case Line line_of follows ends fault before line) (reads Line line_of follows ends fault lines) told each

-- ---- lines that are read say what may follow

-- the lines say what comes after these in all that is said, and each thing may follow
pub record Came (Line : Type 0) (line_of : List ℕ → List (List ℕ) → Option Line) (follows : List Line → Line → Bool) (lines : List (List ℕ)) (before said : List Line) : Type 0 where
  pub own : List Line
  pub same : said ≡ before ++ own
  pub told : told_in line_of lines ≡ map Some own
  pub each : each_follows follows before own ≡ true

abbrev Comes : (Line : Type 0) → (List ℕ → List (List ℕ) → Option Line) → (List Line → Line → Bool) → (List Line → Bool) → (ℕ → LoadFault) → List (List ℕ) → Type 0
Comes Line line_of follows ends fault lines = (before said : List Line) → said_below (listed_grammar line_of follows ends fault) before lines ≡ Some said → Came Line line_of follows lines before said

came_end : (Line : Type 0) (line_of : List ℕ → List (List ℕ) → Option Line) (follows : List Line → Line → Bool) (before said : List Line) → ◌≡◌ {A = Option (List Line)} (Some before) (Some said)
    → Came Line line_of follows [] before said
came_end Line line_of follows before said e =
    let same : before ≡ said = cc in
    record { own = []; same = sym same ∙ sym (append-nil before); told = refl; each = refl }

came_line : (Line : Type 0) (line_of : List ℕ → List (List ℕ) → Option Line) (follows : List Line → Line → Bool) (ends : List Line → Bool) (fault : ℕ → LoadFault) (before said : List Line) (line : List ℕ) (lines : List (List ℕ))
    → LineCase Line line_of follows ends fault before line → Comes Line line_of follows ends fault lines → said_below (listed_grammar line_of follows ends fault) before (line ∷ lines) ≡ Some said
    → Came Line line_of follows (line ∷ lines) before said
came_line Line line_of follows ends fault before said line lines (blank one taken) next e =
    let below = next before said (sym (ap (option_and_then (λ more. said_below (listed_grammar line_of follows ends fault) more lines)) taken) ∙ e) in
    record { own = below.own; same = below.same; told = ap (λ said. said ++ told_in line_of lines) one ∙ below.told; each = below.each }
came_line Line line_of follows ends fault before said line lines (unsaid one taken) next e =
    let none : ◌≡◌ {A = Option (List Line)} None (Some said) = sym (ap (option_and_then (λ more. said_below (listed_grammar line_of follows ends fault) more lines)) taken) ∙ e in
    cc
came_line Line line_of follows ends fault before said line lines (followed first may one taken) next e =
    let below = next (before ++ first ∷ []) said (sym (ap (option_and_then (λ more. said_below (listed_grammar line_of follows ends fault) more lines)) taken) ∙ e) in
    record {
      own = first ∷ below.own;
      same = below.same ∙ append_assoc before (first ∷ []) below.own;
      told = ap (λ said. said ++ told_in line_of lines) one ∙ ap (λ said. Some first ∷ said) below.told;
      each = ap (λ b. b && each_follows follows (before ++ first ∷ []) below.own) may ∙ below.each;
    }
came_line Line line_of follows ends fault before said line lines (stuck first may one taken) next e =
    let none : ◌≡◌ {A = Option (List Line)} None (Some said) = sym (ap (option_and_then (λ more. said_below (listed_grammar line_of follows ends fault) more lines)) taken) ∙ e in
    cc

pub comes : (Line : Type 0) (line_of : List ℕ → List (List ℕ) → Option Line) (follows : List Line → Line → Bool) (ends : List Line → Bool) (fault : ℕ → LoadFault) (lines : List (List ℕ))
    → Comes Line line_of follows ends fault lines
comes Line line_of follows ends fault [] = λ before said e. came_end Line line_of follows before said e
comes Line line_of follows ends fault (line ∷ lines) = λ before said e.
    came_line Line line_of follows ends fault before said line lines (line_case Line line_of follows ends fault before line) (comes Line line_of follows ends fault lines) e

-- where all may follow, the first of them may
pub each_above : (Line : Type 0) (follows : List Line → Line → Bool) (before first rest : List Line) → each_follows follows before (first ++ rest) ≡ true → each_follows follows before first ≡ true
each_above Line follows before [] rest each = refl
each_above Line follows before (line ∷ first) rest each =
    let both = and_parts (follows before line) (each_follows follows (before ++ line ∷ []) (first ++ rest)) each in
    ap (λ b. b && each_follows follows (before ++ line ∷ []) first) both.0 ∙ each_above Line follows (before ++ line ∷ []) first rest both.1
