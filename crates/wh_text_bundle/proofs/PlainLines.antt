-- Bytes of which no line begins with `@`.
use Rattle.std.proofs.Common.{◌≡◌, ◌+◌, ◌-◌, ◌<◌, ◌≤◌, ◌==◌, ◌&&◌, ◌||◌, ℕ, Bool, true, false, not, suc, zero, List, [], ◌∷◌, ◌++◌, length, get_or, take, drop, refl, ap, subst, sym, ◌∙◌, arith, length-take, take-append-drop}
use Rattle.std.proofs.Math.Seq.{take-add}
use Rattle.std.proofs.lemmas.List.{get_or-take, take_more}
use Rattle.std.specs.List.{onto_first, list_all}
use Rattle.std.proofs.lemmas.Bool.{false_from_ne_true, eqb-true, eq-eqb, false≢true, and_parts, not-true, cond_both, ne_eqb}
use Rattle.wh_text.specs.Line.{whole_lines}
use Rattle.wh_text.proofs.LineLemmas.{whole_lines-cons}
use Rattle.wh_text_bundle.specs.PartLine.{is_plain}

-- no line that begins below the given state has an `@` at its front; the state is whether the bytes begin a line
pub unmarked : Bool → List ℕ → Bool
unmarked starts [] = true
unmarked starts (b ∷ bs) = not (starts && (64 == b)) && unmarked (b == 10) bs

-- whether a line begins after the bytes
pub ends_line : Bool → List ℕ → Bool
ends_line starts [] = starts
ends_line starts (b ∷ bs) = ends_line (b == 10) bs

and_assoc : (x y z : Bool) → (x && (y && z)) ≡ ((x && y) && z)
and_assoc true y z = refl
and_assoc false y z = refl

unmarked-append : (starts : Bool) (xs ys : List ℕ) → unmarked starts (xs ++ ys) ≡ (unmarked starts xs && unmarked (ends_line starts xs) ys)
unfolding unmarked ends_line
unmarked-append starts [] ys = refl
unmarked-append starts (x ∷ xs) ys =
    ap (λ r. not (starts && (64 == x)) && r) (unmarked-append (x == 10) xs ys) ∙ and_assoc (not (starts && (64 == x))) (unmarked (x == 10) xs) (unmarked (ends_line (x == 10) xs) ys)

not_and : (s t : Bool) → t ≡ false → not (s && t) ≡ true
not_and true t e = rw e refl
not_and false t e = refl

other_way : (a b : ℕ) → ((b == a) ≡ true → ⊥) → (a == b) ≡ false
other_way a b h = false_from_ne_true (a == b) (λ e. h (eq-eqb b a (sym (eqb-true a b e))))

-- bytes without `@`
unmarked-none : (starts : Bool) (xs : List ℕ) → ((j : ℕ) → j < length xs → (get_or xs j 0 == 64) ≡ true → ⊥) → unmarked starts xs ≡ true
unfolding unmarked
unmarked-none starts [] none = refl
unmarked-none starts (x ∷ xs) none =
    rw (not_and starts (64 == x) (other_way 64 x (none 0 (omega arith)))) (unmarked-none (x == 10) xs (λ j h. none (suc j) (omega arith)))

ends_line-take : (starts : Bool) (xs : List ℕ) (n : ℕ) → n < length xs → ends_line starts (take (suc n) xs) ≡ (get_or xs n 0 == 10)
unfolding ends_line
ends_line-take starts [] n within = absurd (omega arith)
ends_line-take starts (x ∷ xs) zero within = refl
ends_line-take starts (x ∷ xs) (suc n) within = ends_line-take (x == 10) xs n (omega arith)

-- the lines that begin in some bytes
begun : Bool → List (List ℕ) → List (List ℕ)
begun true ls = ls
begun false ls = drop 1 ls

begun-onto_first : (b : ℕ) (ls : List (List ℕ)) → list_all is_plain (drop 1 ls) ≡ true → list_all is_plain (drop 1 (onto_first b ls)) ≡ true
begun-onto_first b [] h = refl
begun-onto_first b (l ∷ ls) h = h

plain-onto_first : (b : ℕ) (ls : List (List ℕ)) → (64 == b) ≡ false → list_all is_plain (drop 1 ls) ≡ true → list_all is_plain (onto_first b ls) ≡ true
plain-onto_first b [] other h = rw other refl
plain-onto_first b (l ∷ ls) other h = rw other h

plain_more : (starts lf : Bool) (x : ℕ) (xs : List ℕ) → (x == 10) ≡ lf → not (starts && (64 == x)) ≡ true → list_all is_plain (begun lf (whole_lines xs)) ≡ true
    → list_all is_plain (begun starts (whole_lines (x ∷ xs))) ≡ true
unfolding begun
plain_more true true x xs e front below = rw (whole_lines-cons x xs true e, not-true (64 == x) front) below
plain_more false true x xs e front below = rw (whole_lines-cons x xs true e) below
plain_more true false x xs e front below =
    rw (whole_lines-cons x xs false e) (plain-onto_first x (whole_lines xs) (not-true (64 == x) front) below)
plain_more false false x xs e front below = rw (whole_lines-cons x xs false e) (begun-onto_first x (whole_lines xs) below)

plain_lines : (starts : Bool) (xs : List ℕ) → unmarked starts xs ≡ true → list_all is_plain (begun starts (whole_lines xs)) ≡ true
unfolding unmarked begun
plain_lines true [] h = refl
plain_lines false [] h = refl
plain_lines starts (x ∷ xs) h =
    let parts = and_parts _ _ h in
    plain_more starts (x == 10) x xs refl parts.0 (plain_lines (x == 10) xs parts.1)

-- the lines of unmarked bytes begin with no `@`
pub plain-unmarked : (xs : List ℕ) → unmarked true xs ≡ true → list_all is_plain (whole_lines xs) ≡ true
unfolding begun
plain-unmarked xs h = plain_lines true xs h

onto_first-append : (b : ℕ) (ls ms : List (List ℕ)) → 0 < length ls → onto_first b (ls ++ ms) ≡ onto_first b ls ++ ms
onto_first-append b [] ms some = absurd (omega arith)
onto_first-append b (l ∷ ls) ms some = refl

some-onto_first : (b : ℕ) (ls : List (List ℕ)) → 0 < length (onto_first b ls)
some-onto_first b [] = omega arith
some-onto_first b (l ∷ ls) = omega arith

some_lines : (b : ℕ) (bs : List ℕ) → 0 < length (whole_lines (b ∷ bs))
some_lines b bs = cond_both (b == 10) _ _ (λ ls. 0 < length ls) (λ _. omega arith) (λ _. some-onto_first b (whole_lines bs))

append_more : (b : ℕ) (bs ys : List ℕ) (lf : Bool) → (b == 10) ≡ lf → (lf ≡ false → 0 < length (whole_lines bs)) → whole_lines (bs ++ ys) ≡ whole_lines bs ++ whole_lines ys
    → whole_lines (b ∷ (bs ++ ys)) ≡ whole_lines (b ∷ bs) ++ whole_lines ys
append_more b bs ys true e some more = rw (whole_lines-cons b bs true e, whole_lines-cons b (bs ++ ys) true e, more) refl
append_more b bs ys false e some more =
    rw (whole_lines-cons b bs false e, whole_lines-cons b (bs ++ ys) false e, more) (onto_first-append b (whole_lines bs) (whole_lines ys) (some refl))

-- bytes that end at a line's end, and what stands below them
pub whole_lines-append : (xs ys : List ℕ) → ends_line true xs ≡ true → whole_lines (xs ++ ys) ≡ whole_lines xs ++ whole_lines ys
unfolding ends_line
whole_lines-append [] ys ends = refl
whole_lines-append (b ∷ []) ys ends = append_more b [] ys true ends (λ e. absurd (false≢true (sym e))) refl
whole_lines-append (b ∷ c ∷ cs) ys ends =
    append_more b (c ∷ cs) ys (b == 10) refl (λ _. some_lines c cs) (whole_lines-append (c ∷ cs) ys ends)

-- a stretch without `@` more
unmarked_more : (text : List ℕ) (at gap : ℕ) → unmarked true (take at text) ≡ true → ((j : ℕ) → j < gap → (get_or (drop at text) j 0 == 64) ≡ true → ⊥)
    → unmarked true (take (at + gap) text) ≡ true
unmarked_more text at gap before none =
    let short : length (take gap (drop at text)) ≤ gap = omega (arith, length-take gap (drop at text)) in
    rw (take-add at gap text, unmarked-append true (take at text) (take gap (drop at text)), before)
    (unmarked-none (ends_line true (take at text)) (take gap (drop at text)) (λ j h e.
    none j (omega arith) (rw (sym (get_or-take gap (drop at text) j 0 (omega arith))) e)))

-- whether a line begins at a place
ends_line-take_place : (text : List ℕ) (place : ℕ) → place ≤ length text → ends_line true (take place text) ≡ (place == 0 || get_or text (place - 1) 0 == 10)
unfolding ends_line
ends_line-take_place text zero within = refl
ends_line-take_place text (suc n) within =
    let last : suc n - 1 ≡ n = omega arith in
    rw (ends_line-take true text n (omega arith), ne_eqb (suc n) 0 (λ e. omega arith), last) refl

-- an `@` that stands within a line
pub unmarked_past : (text : List ℕ) (at gap : ℕ) → unmarked true (take at text) ≡ true → ((j : ℕ) → j < gap → (get_or (drop at text) j 0 == 64) ≡ true → ⊥)
    → at + gap < length text → (at + gap == 0 || get_or text (at + gap - 1) 0 == 10) ≡ false → unmarked true (take (at + gap + 1) text) ≡ true
unfolding unmarked
unmarked_past text at gap before none within inside =
    let place = at + gap in
    rw (take_more text place 0 within, unmarked-append true (take place text) (get_or text place 0 ∷ []), unmarked_more text at gap before none, ends_line-take_place text place (omega arith), inside) refl

-- an `@` that begins a line
pub lines_at_mark : (text : List ℕ) (place : ℕ) → place ≤ length text → (place == 0 || get_or text (place - 1) 0 == 10) ≡ true
    → whole_lines text ≡ whole_lines (take place text) ++ whole_lines (drop place text)
lines_at_mark text place within begins =
    ap whole_lines (sym (take-append-drop place text)) ∙ whole_lines-append (take place text) (drop place text) (ends_line-take_place text place within ∙ begins)

pub unmarked_start : unmarked true [] ≡ true
unfolding unmarked
unmarked_start = refl

pub unmarked_to : (text : List ℕ) (at gap : ℕ) → unmarked true (take at text) ≡ true → ((j : ℕ) → j < gap → (get_or (drop at text) j 0 == 64) ≡ true → ⊥)
    → list_all is_plain (whole_lines (take (at + gap) text)) ≡ true
unmarked_to text at gap before none = plain-unmarked (take (at + gap) text) (unmarked_more text at gap before none)

pub unmarked_all : (text : List ℕ) (at : ℕ) → at ≤ length text → unmarked true (take at text) ≡ true → ((j : ℕ) → j < length text - at → (get_or (drop at text) j 0 == 64) ≡ true → ⊥)
    → list_all is_plain (whole_lines (take (length text) text)) ≡ true
unmarked_all text at within before none =
    let e : at + (length text - at) ≡ length text = omega arith in
    subst (λ n. list_all is_plain (whole_lines (take n text)) ≡ true) e (unmarked_to text at (length text - at) before none)
