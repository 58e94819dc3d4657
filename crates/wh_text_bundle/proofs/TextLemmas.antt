-- The text of a body, line by line.
use Rattle.std.proofs.Common.{◌≡◌, ◌+◌, ◌-◌, ◌<◌, ◌≤◌, ◌==◌, ◌&&◌, ℕ, Bool, true, false, List, [], ◌∷◌, ◌++◌, length, take, drop, refl, ap, sym, subst, ◌∙◌, arith, append_assoc, length-append, length-take, length-drop}
use Rattle.std.specs.List.{list_all, concat, flat_map}
use Rattle.std.proofs.Math.Seq.{take-add}
use Rattle.std.proofs.lemmas.List.{drop-drop}
use Rattle.std.proofs.lemmas.Bool.{and_parts, not-true, and_right, cond_both, false≢true}
use Rattle.wh_text.specs.Line.{whole_lines}
use Rattle.wh_text_bundle.specs.PartLine.{is_plain, is_escaped, has_cr, without_cr, unescaped}
use Rattle.wh_text_bundle.specs.Text.{body_text, line_text}
use Rattle.wh_text_bundle.proofs.CutLemmas.{concat-whole_lines}

flat_map-cons : (csv : Bool) (l : List ℕ) (ls : List (List ℕ)) → flat_map (line_text csv) (l ∷ ls) ≡ line_text csv l ++ flat_map (line_text csv) ls
flat_map-cons csv l ls = refl

-- the first line, and those below it
pub body_text-line : (csv : Bool) (rest line below : List ℕ) → whole_lines rest ≡ line ∷ whole_lines below → body_text csv rest ≡ line_text csv line ++ body_text csv below
body_text-line csv rest line below lines = rw lines refl

length-has_cr : (line : List ℕ) → has_cr line ≡ true → 2 ≤ length line
length-has_cr [] h = absurd (false≢true h)
length-has_cr (x ∷ []) h = absurd (false≢true (sym (and_right (13 == x) false refl) ∙ h))
length-has_cr (x ∷ y ∷ ys) h = omega arith

length-without_cr : (line : List ℕ) → length (without_cr line) ≤ length line
length-without_cr line =
    cond_both (has_cr line) _ _ (λ l. length l ≤ length line)
    (λ e.
    let long : 2 ≤ length line = length-has_cr line e in
    omega (arith, length-append (take (length line - 2) line) (10 ∷ []), length-take (length line - 2) line))
    (λ e. omega arith)

length-unescaped : (line : List ℕ) → length (unescaped line) ≤ length line
length-unescaped line = cond_both (is_escaped line) _ _ (λ l. length l ≤ length line) (λ e. omega (arith, length-drop 1 line)) (λ e. omega arith)

length-line_text : (csv : Bool) (line : List ℕ) → length (line_text csv line) ≤ length line
length-line_text true line = length-unescaped line
length-line_text false line = omega (arith, length-without_cr (unescaped line), length-unescaped line)

length-flat_map : (csv : Bool) (ls : List (List ℕ)) → length (flat_map (line_text csv) ls) ≤ length (concat ls)
length-flat_map csv [] = omega arith
length-flat_map csv (l ∷ ls) =
    omega (arith, length-flat_map csv ls, length-line_text csv l, length-append (line_text csv l) (flat_map (line_text csv) ls), length-append l (concat ls))

-- a text is no longer than its body
pub length-body_text : (csv : Bool) (body : List ℕ) → length (body_text csv body) ≤ length body
length-body_text csv body = subst (λ xs. length (body_text csv body) ≤ length xs) (concat-whole_lines body) (length-flat_map csv (whole_lines body))

and_true : (b : Bool) → (b && true) ≡ b
and_true true = refl
and_true false = refl

-- lines of CSV that begin with no `@`
unescaped-plain : (line : List ℕ) → is_plain line ≡ true → unescaped line ≡ line
unescaped-plain [] h = refl
unescaped-plain (x ∷ xs) h =
    let other : (64 == x) ≡ false = sym (and_true (64 == x)) ∙ not-true (64 == x && true) h in
    rw other refl

flat_map-plain : (ls : List (List ℕ)) → list_all is_plain ls ≡ true → flat_map (line_text true) ls ≡ concat ls
flat_map-plain [] h = refl
flat_map-plain (l ∷ ls) h =
    let parts = and_parts _ _ h in
    rw (unescaped-plain l parts.0, flat_map-plain ls parts.1) refl

flat_map-append : (ls ms : List (List ℕ)) → flat_map (line_text true) (ls ++ ms) ≡ flat_map (line_text true) ls ++ flat_map (line_text true) ms
flat_map-append [] ms = refl
flat_map-append (l ∷ ls) ms = ap (λ r. line_text true l ++ r) (flat_map-append ls ms) ∙ sym (append_assoc (line_text true l) (flat_map (line_text true) ls) (flat_map (line_text true) ms))

pub body_text-plain : (body : List ℕ) (n : ℕ) → whole_lines body ≡ whole_lines (take n body) ++ whole_lines (drop n body) → list_all is_plain (whole_lines (take n body)) ≡ true
    → body_text true body ≡ take n body ++ body_text true (drop n body)
body_text-plain body n lines plain =
    ap (flat_map (line_text true)) lines ∙ flat_map-append (whole_lines (take n body)) (whole_lines (drop n body))
    ∙ ap (λ r. r ++ body_text true (drop n body)) (flat_map-plain (whole_lines (take n body)) plain ∙ concat-whole_lines (take n body))

-- one kept line further down, and kept bytes below it
pub body_text-kept_at : (csv : Bool) (body : List ℕ) (at : ℕ) (line below : List ℕ) (n : ℕ) → body_text csv body ≡ take at body ++ body_text csv (drop at body)
    → line ≡ take (length line) (drop at body) → below ≡ drop (length line) (drop at body) → whole_lines (drop at body) ≡ line ∷ whole_lines below → line_text csv line ≡ line
    → body_text csv below ≡ take n below ++ body_text csv (drop n below)
    → body_text csv body ≡ take (at + (length line + n)) body ++ body_text csv (drop (at + (length line + n)) body)
body_text-kept_at csv body at line below n above is_line is_below lines kept more =
    let rest = drop at body in
    let m = length line in
    let front : take (m + n) rest ≡ line ++ take n below =
    take-add m n rest ∙ ap (λ l. l ++ take n (drop m rest)) (sym is_line) ∙ ap (λ b. line ++ take n b) (sym is_below) in
    let back : drop n below ≡ drop (m + n) rest = ap (drop n) is_below ∙ drop-drop n m rest in
    let this : body_text csv rest ≡ take (m + n) rest ++ body_text csv (drop (m + n) rest) =
    body_text-line csv rest line below lines ∙ ap (λ l. l ++ body_text csv below) kept ∙ ap (λ r. line ++ r) more
    ∙ sym (append_assoc line (take n below) (body_text csv (drop n below))) ∙ ap (λ f. f ++ body_text csv (drop n below)) (sym front) ∙ ap (λ b. take (m + n) rest ++ body_text csv b) back in
    above ∙ ap (λ r. take at body ++ r) this ∙ sym (append_assoc (take at body) (take (m + n) rest) (body_text csv (drop (m + n) rest)))
    ∙ ap (λ f. f ++ body_text csv (drop (m + n) rest)) (sym (take-add at (m + n) body)) ∙ ap (λ b. take (at + (m + n)) body ++ body_text csv b) (drop-drop (m + n) at body)

-- a line that changes makes the text shorter
pub body_text-changed_at : (csv : Bool) (body : List ℕ) (at : ℕ) (line below : List ℕ) → at ≤ length body → body_text csv body ≡ take at body ++ body_text csv (drop at body)
    → length line + length below ≡ length (drop at body) → whole_lines (drop at body) ≡ line ∷ whole_lines below → length (line_text csv line) < length line → length (body_text csv body) < length body
body_text-changed_at csv body at line below within above lens lines shorter =
    let rest = drop at body in
    let this = ap length (body_text-line csv rest line below lines) in
    let all = ap length above in
    omega (arith, this, all, length-body_text csv below, length-append (line_text csv line) (body_text csv below), length-append (take at body) (body_text csv rest), length-take at body, length-drop at body)
