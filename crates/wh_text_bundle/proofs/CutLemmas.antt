-- Where the first part of some bytes begins.
use Rattle.std.proofs.Common.{◌≡◌, ◌+◌, ◌==◌, ℕ, Bool, true, false, List, [], ◌∷◌, ◌++◌, length, take, drop, refl, ap, sym, ◌∙◌, append_assoc, append-nil}
use Rattle.std.specs.List.{onto_first, list_all, concat}
use Rattle.std.proofs.Math.Seq.{take-add}
use Rattle.std.proofs.lemmas.List.{drop-drop}
use Rattle.std.proofs.lemmas.Bool.{and_parts, not-true, and_left, cond_both}
use Rattle.wh_text.specs.Line.{whole_lines}
use Rattle.wh_text_bundle.specs.PartLine.{is_plain, opens_part}
use Rattle.wh_text_bundle.specs.Cut.{Cut, cut, cut_lines, preceded, on_top, bytes_of, bytes_of_parts}

concat-onto_first : (b : ℕ) (ls : List (List ℕ)) → concat (onto_first b ls) ≡ b ∷ concat ls
concat-onto_first b [] = refl
concat-onto_first b (l ∷ ls) = refl

-- the lines, joined, are the bytes
pub concat-whole_lines : (xs : List ℕ) → concat (whole_lines xs) ≡ xs
concat-whole_lines [] = refl
concat-whole_lines (b ∷ bs) =
    cond_both (b == 10) _ _ (λ ls. concat ls ≡ b ∷ bs)
    (λ _. ap (λ xs. b ∷ xs) (concat-whole_lines bs))
    (λ _. concat-onto_first b (whole_lines bs) ∙ ap (λ xs. b ∷ xs) (concat-whole_lines bs))

opens-plain : (l : List ℕ) → is_plain l ≡ true → opens_part l ≡ false
opens-plain l h = and_left _ _ (not-true _ h)

preceded-preceded : (xs ys : List ℕ) (c : Cut) → preceded xs (preceded ys c) ≡ preceded (xs ++ ys) c
preceded-preceded xs ys c = ap (λ bytes. record { preface = bytes; parts = c.parts }) (sym (append_assoc xs ys c.preface))

cut_lines-plain : (ls ms : List (List ℕ)) → list_all is_plain ls ≡ true → cut_lines (ls ++ ms) ≡ preceded (concat ls) (cut_lines ms)
cut_lines-plain [] ms h = refl
cut_lines-plain (l ∷ ls) ms h =
    let parts = and_parts _ _ h in
    rw (opens-plain l parts.0, cut_lines-plain ls ms parts.1) (preceded-preceded l (concat ls) (cut_lines ms))

-- a line that opens no part, and plain lines below it
pub cut-skip : (rest line below : List ℕ) (n : ℕ) → whole_lines rest ≡ line ∷ whole_lines below → opens_part line ≡ false → whole_lines below ≡ whole_lines (take n below) ++ whole_lines (drop n below) → list_all is_plain (whole_lines (take n below)) ≡ true
    → cut rest ≡ preceded (line ++ take n below) (cut (drop n below))
cut-skip rest line below n lines closed split plain =
    rw (lines, closed, split, cut_lines-plain (whole_lines (take n below)) (whole_lines (drop n below)) plain, concat-whole_lines (take n below))
    (preceded-preceded line (take n below) (cut (drop n below)))

-- the same further down in a text
pub cut-skip_at : (text : List ℕ) (at : ℕ) (line below : List ℕ) (n : ℕ) → cut text ≡ preceded (take at text) (cut (drop at text))
    → line ≡ take (length line) (drop at text) → below ≡ drop (length line) (drop at text)
    → whole_lines (drop at text) ≡ line ∷ whole_lines below → opens_part line ≡ false → whole_lines below ≡ whole_lines (take n below) ++ whole_lines (drop n below) → list_all is_plain (whole_lines (take n below)) ≡ true
    → cut text ≡ preceded (take (at + (length line + n)) text) (cut (drop (at + (length line + n)) text))
cut-skip_at text at line below n above is_line is_below lines closed split plain =
    let rest = drop at text in
    let m = length line in
    let skipped : cut rest ≡ preceded (line ++ take n below) (cut (drop n below)) = cut-skip rest line below n lines closed split plain in
    let front : take (m + n) rest ≡ line ++ take n below =
    take-add m n rest ∙ ap (λ l. l ++ take n (drop m rest)) (sym is_line) ∙ ap (λ b. line ++ take n b) (sym is_below) in
    let back : drop n below ≡ drop (m + n) rest = ap (drop n) is_below ∙ drop-drop n m rest in
    let moved : preceded (take at text ++ (line ++ take n below)) (cut (drop n below)) ≡ preceded (take (at + (m + n)) text) (cut (drop (at + (m + n)) text)) =
    rw (take-add at (m + n) text, front, ← drop-drop (m + n) at text, ← back) refl in
    above ∙ ap (preceded (take at text)) skipped ∙ preceded-preceded (take at text) (line ++ take n below) (cut (drop n below)) ∙ moved

-- a line that opens a part
pub preface-opened : (rest line below : List ℕ) → whole_lines rest ≡ line ∷ whole_lines below → opens_part line ≡ true → (cut rest).preface ≡ []
preface-opened rest line below lines opens = rw (lines, opens) refl

pub preface-at : (text : List ℕ) (at : ℕ) → cut text ≡ preceded (take at text) (cut (drop at text)) → (cut (drop at text)).preface ≡ [] → (cut text).preface ≡ take at text
preface-at text at above none = ap (λ c. c.preface) above ∙ ap (λ bytes. take at text ++ bytes) none ∙ append-nil (take at text)

pub parts-at : (text : List ℕ) (at : ℕ) → cut text ≡ preceded (take at text) (cut (drop at text)) → (cut (drop at text)).preface ≡ [] → cut (drop at text) ≡ record { preface = []; parts = (cut text).parts }
parts-at text at above none = rw above (ap (λ bytes. record { preface = bytes; parts = (cut (drop at text)).parts }) none)

on_top-bytes : (opens : Bool) (line : List ℕ) (c : Cut) → bytes_of (on_top opens line c) ≡ line ++ bytes_of c
on_top-bytes true line c = append_assoc line c.preface (bytes_of_parts c.parts)
on_top-bytes false line c = append_assoc line c.preface (bytes_of_parts c.parts)

bytes_of-cut_lines : (lines : List (List ℕ)) → bytes_of (cut_lines lines) ≡ concat lines
bytes_of-cut_lines [] = refl
bytes_of-cut_lines (line ∷ lines) =
    on_top-bytes (opens_part line) line (cut_lines lines) ∙ ap (λ bytes. line ++ bytes) (bytes_of-cut_lines lines)

-- no byte is lost where some are cut
pub cut_whole : (bytes : List ℕ) → bytes_of (cut bytes) ≡ bytes
cut_whole bytes = bytes_of-cut_lines (whole_lines bytes) ∙ concat-whole_lines bytes
