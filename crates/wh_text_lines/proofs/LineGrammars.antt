-- A text is read as what its lines say together, and else is at fault where they stop saying it.
use Rattle.std.proofs.Common.{◌≡◌, ℕ, ◌+◌, Bool, true, false, List, [], ◌∷◌, ◌++◌, length, Option, Some, None, Result, Ok, Err, Bor, refl, ap, sym, subst, ◌∙◌, arith}
use Rattle.std.specs.Prelude.{◌==◌, option_and_then, if◌then◌else◌}
use Rattle.std.proofs.lemmas.List.{length-map}
use Rattle.wh_text.specs.declared.fault.LoadFault.{LoadFault}
use Rattle.wh_text_lines.specs.LineGrammar.{LineGrammar, LinesRead, LinesStop, Say, SayWhole, StopAt, if_stands, read_below, said_below, said_with, too_short, wrong_line}
use Rattle.wh_text_lines.specs.Words.{lines_of, words_of}
use Rattle.wh_text_lines.proofs.Spelled.{spelled}

-- a line with words, which are in memory, as they are passed on
pub said_with-words : {Said : Type 0} (grammar : LineGrammar Said) (said : Said) (line : List ℕ) (words passed : List (Bor (List ℕ))) (more : Option Said)
    → spelled words ≡ words_of line → false ≡ (length words == 0) → passed ≡ words → more ≡ grammar.with_line said line (spelled passed) → said_with grammar said line ≡ more
said_with-words grammar said line words passed more read some same takes =
    ap (λ ws. if length ws == 0 then Some said else grammar.with_line said line ws) (sym read)
    ∙ ap (λ n. if n == 0 then Some said else grammar.with_line said line (spelled words)) (length-map words (λ word. word.now))
    ∙ ap (λ (b : Bool). if b then Some said else grammar.with_line said line (spelled words)) (sym some)
    ∙ ap (λ ws. grammar.with_line said line (spelled ws)) (sym same)
    ∙ sym takes

-- ---- how lines are read

-- lines below others
below-append : (Said : Type 0) (grammar : LineGrammar Said) (above below : List (List ℕ)) (said : Said)
    → said_below grammar said (above ++ below) ≡ option_and_then (λ more. said_below grammar more below) (said_below grammar said above)
below-append Said grammar [] below = λ said. refl
below-append Said grammar (line ∷ above) below = λ said. chain (said_with grammar said line) (below-append Said grammar above below)
  where
    chain : (first : Option Said) → ((said : Said) → said_below grammar said (above ++ below) ≡ option_and_then (λ more. said_below grammar more below) (said_below grammar said above))
        → option_and_then (λ said. said_below grammar said (above ++ below)) first ≡ option_and_then (λ more. said_below grammar more below) (option_and_then (λ said. said_below grammar said above) first)
    chain None each = refl
    chain (Some said) each = each said

-- a line that may not stand below those above it
stuck-below : (Said : Type 0) (grammar : LineGrammar Said) (said more : Said) (above below : List (List ℕ)) (line : List ℕ)
    → said_below grammar said above ≡ Some more → said_with grammar more line ≡ None → said_below grammar said (above ++ line ∷ below) ≡ None
stuck-below Said grammar said more above below line before cannot =
    below-append Said grammar above (line ∷ below) said
    ∙ ap (option_and_then (λ m. said_below grammar m (line ∷ below))) before
    ∙ ap (option_and_then (λ m. said_below grammar m below)) cannot

data Reading (Said : Type 0) (grammar : LineGrammar Said) (number : ℕ) (said : Said) (lines : List (List ℕ)) : Type 0 where
  is_whole : (all : Said) → said_below grammar said lines ≡ Some all → grammar.may_end all ≡ true → read_below grammar number said lines ≡ Ok all → Reading Said grammar number said lines
  is_wrong : (above below : List (List ℕ)) (line : List ℕ) (more : Said) → lines ≡ above ++ line ∷ below → said_below grammar said above ≡ Some more → said_with grammar more line ≡ None
      → read_below grammar number said lines ≡ Err (grammar.fault (number + length above + 1)) → Reading Said grammar number said lines
  is_short : (all : Said) → said_below grammar said lines ≡ Some all → grammar.may_end all ≡ false → read_below grammar number said lines ≡ Err (grammar.fault (number + length lines + 1))
      → Reading Said grammar number said lines

-- a line further down
further : (number : ℕ) (line : List ℕ) (lines : List (List ℕ)) → number + 1 + length lines + 1 ≡ number + length (line ∷ lines) + 1
further number line lines = omega arith

reading_end : (Said : Type 0) (grammar : LineGrammar Said) (number : ℕ) (said : Said) (b : Bool) → grammar.may_end said ≡ b → Reading Said grammar number said []
reading_end Said grammar number said true end = is_whole said refl end (ap (λ (b : Bool). if b then Ok said else Err (grammar.fault (number + 1))) end)
reading_end Said grammar number said false end =
    let same : number + 1 ≡ number + length {A = List ℕ} [] + 1 = omega arith in
    is_short said refl end (ap (λ (b : Bool). if b then Ok said else Err (grammar.fault (number + 1))) end ∙ ap (λ n. Err (grammar.fault n)) same)

-- the lines below one that may stand
reading_below : (Said : Type 0) (grammar : LineGrammar Said) (number : ℕ) (said more : Said) (line : List ℕ) (lines : List (List ℕ)) → said_with grammar said line ≡ Some more
    → Reading Said grammar (number + 1) more lines → Reading Said grammar number said (line ∷ lines)
reading_below Said grammar number said more line lines takes (is_whole all says end read) =
    is_whole all (ap (option_and_then (λ m. said_below grammar m lines)) takes ∙ says) end
    (ap (λ o. if_stands grammar (number + 1) o (λ m. read_below grammar (number + 1) m lines)) takes ∙ read)
reading_below Said grammar number said more line lines takes (is_wrong above below wrong last parts says cannot read) =
    is_wrong (line ∷ above) below wrong last (ap (λ ls. line ∷ ls) parts) (ap (option_and_then (λ m. said_below grammar m above)) takes ∙ says) cannot
    (ap (λ o. if_stands grammar (number + 1) o (λ m. read_below grammar (number + 1) m lines)) takes ∙ read ∙ ap (λ n. Err (grammar.fault n)) (further number line above))
reading_below Said grammar number said more line lines takes (is_short all says end read) =
    is_short all (ap (option_and_then (λ m. said_below grammar m lines)) takes ∙ says) end
    (ap (λ o. if_stands grammar (number + 1) o (λ m. read_below grammar (number + 1) m lines)) takes ∙ read ∙ ap (λ n. Err (grammar.fault n)) (further number line lines))

reading_line : (Said : Type 0) (grammar : LineGrammar Said) (number : ℕ) (said : Said) (line : List ℕ) (lines : List (List ℕ)) (more : Option Said) → said_with grammar said line ≡ more
    → ((number : ℕ) (said : Said) → Reading Said grammar number said lines) → Reading Said grammar number said (line ∷ lines)
reading_line Said grammar number said line lines None cannot next =
    let same : number + 1 ≡ number + length {A = List ℕ} [] + 1 = omega arith in
    is_wrong [] lines line said refl refl cannot
    (ap (λ o. if_stands grammar (number + 1) o (λ m. read_below grammar (number + 1) m lines)) cannot ∙ ap (λ n. Err (grammar.fault n)) same)
reading_line Said grammar number said line lines (Some more) takes next = reading_below Said grammar number said more line lines takes (next (number + 1) more)

reading : (Said : Type 0) (grammar : LineGrammar Said) (lines : List (List ℕ)) (number : ℕ) (said : Said) → Reading Said grammar number said lines
reading Said grammar [] = λ number said. reading_end Said grammar number said (grammar.may_end said) refl
reading Said grammar (line ∷ lines) = λ number said. reading_line Said grammar number said line lines (said_with grammar said line) refl (reading Said grammar lines)

-- ---- the laws

one_said : {Said : Type 0} (first second : Said) → ◌≡◌ {A = Option Said} (Some first) (Some second) → first ≡ second
one_said first second e = cc

none_said : {Said : Type 0} (said : Said) → ◌≡◌ {A = Option Said} None (Some said) → ⊥
none_said said e = cc

one_read : {Said : Type 0} (first second : Said) → ◌≡◌ {A = Result Said LoadFault} (Ok first) (Ok second) → first ≡ second
one_read first second e = cc

one_fault : {Said : Type 0} (first second : LoadFault) → ◌≡◌ {A = Result Said LoadFault} (Err first) (Err second) → first ≡ second
one_fault first second e = cc

not_both : {Said : Type 0} (said : Said) (fault : LoadFault) → ◌≡◌ {A = Result Said LoadFault} (Ok said) (Err fault) → ⊥
not_both said fault e = cc

no_end : (b : Bool) → b ≡ false → b ≡ true → ⊥
no_end true e h = cc
no_end false e h = cc

-- lines that are read say what is read
read_whole : (Said : Type 0) (grammar : LineGrammar Said) (lines : List (List ℕ)) (said : Said) → Reading Said grammar 0 grammar.nothing lines
    → read_below grammar 0 grammar.nothing lines ≡ Ok said → SayWhole grammar lines said
read_whole Said grammar lines said (is_whole all says end read) e = subst (SayWhole grammar lines) (one_read all said (sym read ∙ e)) (says, end)
read_whole Said grammar lines said (is_wrong above below line more parts says cannot read) e = absurd (not_both said (grammar.fault (0 + length above + 1)) (sym e ∙ read))
read_whole Said grammar lines said (is_short all says end read) e = absurd (not_both said (grammar.fault (0 + length lines + 1)) (sym e ∙ read))

-- lines that say this as a whole are read so
whole_read : (Said : Type 0) (grammar : LineGrammar Said) (lines : List (List ℕ)) (said : Said) → Reading Said grammar 0 grammar.nothing lines
    → SayWhole grammar lines said → read_below grammar 0 grammar.nothing lines ≡ Ok said
whole_read Said grammar lines said (is_whole all says end read) h = read ∙ ap Ok (one_said all said (sym says ∙ h.0))
whole_read Said grammar lines said (is_wrong above below line more parts says cannot read) h =
    absurd (none_said said (sym (stuck-below Said grammar grammar.nothing more above below line says cannot) ∙ ap (said_below grammar grammar.nothing) (sym parts) ∙ h.0))
whole_read Said grammar lines said (is_short all says end read) h = absurd (no_end (grammar.may_end all) end (ap grammar.may_end (one_said all said (sym says ∙ h.0)) ∙ h.1))

pub lines_read : (Said : Type 0) → LinesRead Said
lines_read Said grammar text said =
    let how = reading Said grammar (lines_of text) 0 grammar.nothing in
    (read_whole Said grammar (lines_of text) said how, whole_read Said grammar (lines_of text) said how)

abbrev Begin : (Said : Type 0) → LineGrammar Said → List (List ℕ) → Type 0
Begin Said grammar lines = (said : Said) × Say grammar lines said

abbrev Whole : (Said : Type 0) → LineGrammar Said → List (List ℕ) → Type 0
Whole Said grammar lines = (said : Said) × SayWhole grammar lines said

stops : (Said : Type 0) (grammar : LineGrammar Said) (lines : List (List ℕ)) (fault : LoadFault) → Reading Said grammar 0 grammar.nothing lines
    → read_below grammar 0 grammar.nothing lines ≡ Err fault → (number : ℕ) × (fault ≡ grammar.fault number) × StopAt (Begin Said grammar) (Whole Said grammar) lines number
stops Said grammar lines fault (is_whole all says end read) e = absurd (not_both all fault (sym read ∙ e))
stops Said grammar lines fault (is_wrong above below line more parts says cannot read) e =
    let count : 0 + length above + 1 ≡ length above + 1 = omega arith in (
      length above + 1,
      one_fault {Said = Said} fault (grammar.fault (0 + length above + 1)) (sym e ∙ read) ∙ ap grammar.fault count,
      wrong_line above below line parts refl (more, says)
          (λ h. none_said h.0 (sym (stuck-below Said grammar grammar.nothing more above [] line says cannot) ∙ h.1)),
    )
stops Said grammar lines fault (is_short all says end read) e =
    let count : 0 + length lines + 1 ≡ length lines + 1 = omega arith in (
      length lines + 1,
      one_fault {Said = Said} fault (grammar.fault (0 + length lines + 1)) (sym e ∙ read) ∙ ap grammar.fault count,
      too_short refl (all, says)
          (λ h. no_end (grammar.may_end all) end (ap grammar.may_end (one_said all h.0 (sym says ∙ h.1.0)) ∙ h.1.1)),
    )

pub lines_stop : (Said : Type 0) → LinesStop Said
lines_stop Said grammar text fault e = stops Said grammar (lines_of text) fault (reading Said grammar (lines_of text) 0 grammar.nothing) e

-- the place where lines stop, told in other words
pub stop_so : (Begin Whole BeginSo WholeSo : List (List ℕ) → Type 0) (lines : List (List ℕ)) (number : ℕ)
    → ((ls : List (List ℕ)) → Begin ls → BeginSo ls) → ((ls : List (List ℕ)) → BeginSo ls → Begin ls) → (WholeSo lines → Whole lines)
    → StopAt Begin Whole lines number → StopAt BeginSo WholeSo lines number
stop_so Begin Whole BeginSo WholeSo lines number so back whole (wrong_line above below line parts count begun cannot) =
    wrong_line above below line parts count (so above begun) (λ h. cannot (back (above ++ line ∷ []) h))
stop_so Begin Whole BeginSo WholeSo lines number so back whole (too_short count begun none) = too_short count (so lines begun) (λ h. none (whole h))
