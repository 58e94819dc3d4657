-- What is read of a part whose lines stand in a file: the lines of the file.
use Rattle.std.proofs.Common.{◌≡◌, ◌+◌, ◌-◌, ◌<◌, ◌≤◌, ◌==◌, ◌&&◌, ℕ, Bool, true, false, cond, zero, suc, List, [], ◌∷◌, ◌++◌, length, drop, refl, ap, sym, subst, ◌∙◌, arith, append_assoc, append-nil, length-append}
use Rattle.std.specs.Prelude.{not, nat_eq, nat_lt}
use Rattle.std.specs.List.{concat, ends_with, flat_map, list_all, onto_first, starts_with}
use Rattle.std.proofs.lemmas.Bool.{and_parts, cond_both, eq-eqb, eqb-true, false_from_ne_true, false≢true, lt-ltb, not-true}
use lib.Pointwise.{pointwise}
use Rattle.wh_text.specs.Line.{whole_lines}
use Rattle.wh_text.proofs.LineLemmas.{whole_lines-cons}
use Rattle.wh_text_bundle.specs.Files.{IsReadAsItIs, all_escaped, body_of_file, ended, escaped}
use Rattle.wh_text_bundle.specs.PartLine.{is_escaped, opens_part, unescaped}
use Rattle.wh_text_bundle.specs.Text.{body_text, line_text}
use Rattle.wh_text_bundle.proofs.CutLemmas.{concat-whole_lines}

-- no LF among these bytes
abbrev pub is_open : List ℕ → Bool
is_open line = list_all (λ b. not (b == 10)) line

-- lines, each with a LF at its end and no other, but for the last one perhaps
pub data AreLines : List (List ℕ) → Type 0 where
  no_line : AreLines []
  last_line : (b : ℕ) (bs : List ℕ) → is_open (b ∷ bs) ≡ true → AreLines ((b ∷ bs) ∷ [])
  one_more : (front : List ℕ) (lines : List (List ℕ)) → is_open front ≡ true → AreLines lines → AreLines ((front ++ 10 ∷ []) ∷ lines)

longer_first : (b : ℕ) (lines : List (List ℕ)) → (b == 10) ≡ false → AreLines lines → AreLines (onto_first b lines)
longer_first b _ other no_line = last_line b [] (rw other refl)
longer_first b _ other (last_line c cs whole) = last_line b (c ∷ cs) (rw other whole)
longer_first b _ other (one_more front lines whole more) = one_more (b ∷ front) lines (rw other whole) more

pub are_lines : (xs : List ℕ) → AreLines (whole_lines xs)
are_lines [] = no_line
are_lines (b ∷ bs) = elim (b == 10) as (λ t. (b == 10) ≡ t → AreLines (whole_lines (b ∷ bs))) [
  | true ↦ λ e. subst AreLines (sym (whole_lines-cons b bs true e)) (subst (λ c. AreLines ((c ∷ []) ∷ whole_lines bs)) (sym (eqb-true b 10 e)) (one_more [] (whole_lines bs) refl (are_lines bs)))
  | false ↦ λ e. subst AreLines (sym (whole_lines-cons b bs false e)) (longer_first b (whole_lines bs) e (are_lines bs))
] refl

-- a line that is ended, and what stands below it
first_ended : (front more : List ℕ) → is_open front ≡ true → whole_lines (front ++ 10 ∷ more) ≡ (front ++ 10 ∷ []) ∷ whole_lines more
first_ended [] more h = refl
first_ended (b ∷ bs) more h =
    let parts = and_parts (not (b == 10)) (is_open bs) h in
    whole_lines-cons b (bs ++ 10 ∷ more) false (not-true (b == 10) parts.0) ∙ ap (onto_first b) (first_ended bs more parts.1)

-- ---- whether the last line is ended

drop-front : (xs ys : List ℕ) (k : ℕ) → drop (k + length xs) (xs ++ ys) ≡ drop k ys
drop-front [] ys k =
    let e : k + length {A = ℕ} [] ≡ k = omega arith in
    ap (λ n. drop n ys) e
drop-front (x ∷ xs) ys k =
    let e : k + length (x ∷ xs) ≡ suc (k + length xs) = omega arith in
    ap (λ n. drop n (x ∷ (xs ++ ys))) e ∙ drop-front xs ys k

-- whether the last byte is a LF
is_lf_at : List ℕ → Bool
is_lf_at tail = pointwise nat_eq (10 ∷ []) tail

ends-append : (xs : List ℕ) (y : ℕ) (ys : List ℕ) → ends_with nat_eq (xs ++ y ∷ ys) (10 ∷ []) ≡ ends_with nat_eq (y ∷ ys) (10 ∷ [])
unfolding is_lf_at
ends-append xs y ys =
    let far : length (xs ++ y ∷ ys) - 1 ≡ length ys + length xs = omega (arith, length-append xs (y ∷ ys)) in
    let near : length (y ∷ ys) - 1 ≡ length ys = omega arith in
    ap (λ n. is_lf_at (drop n (xs ++ y ∷ ys))) far ∙ ap is_lf_at (drop-front xs (y ∷ ys) (length ys)) ∙ sym (ap (λ n. is_lf_at (drop n (y ∷ ys))) near)

cond_none : (a b : Bool) (x y : List ℕ) → b ≡ false → cond (a && b) x y ≡ y
cond_none true b x y e = rw e refl
cond_none false b x y e = refl

-- bytes of which the last line is ended, and others
kept : (bytes : List ℕ) → ends_with nat_eq bytes (10 ∷ []) ≡ true → ended bytes ≡ bytes
kept bytes e = cond_none (nat_lt 0 (length bytes)) (not (ends_with nat_eq bytes (10 ∷ []))) (bytes ++ 10 ∷ []) bytes (ap not e)

ended_now : (bytes : List ℕ) → 0 < length bytes → ends_with nat_eq bytes (10 ∷ []) ≡ false → ended bytes ≡ bytes ++ 10 ∷ []
ended_now bytes some e = rw (lt-ltb 0 (length bytes) some, e) refl

some_bytes : (front more : List ℕ) (b : ℕ) → 0 < length (front ++ b ∷ more)
some_bytes front more b = omega (arith, length-append front (b ∷ more))

-- an ended line above others
above_by : (front more : List ℕ) (t : Bool) → ends_with nat_eq more (10 ∷ []) ≡ t → ends_with nat_eq (front ++ 10 ∷ more) (10 ∷ []) ≡ t → 0 < length more → ended (front ++ 10 ∷ more) ≡ front ++ 10 ∷ ended more
above_by front more true e f some = kept (front ++ 10 ∷ more) f ∙ ap (λ bs. front ++ 10 ∷ bs) (sym (kept more e))
above_by front more false e f some = ended_now (front ++ 10 ∷ more) (some_bytes front more 10) f ∙ append_assoc front (10 ∷ more) (10 ∷ []) ∙ ap (λ bs. front ++ 10 ∷ bs) (sym (ended_now more some e))

ended_above : (front more : List ℕ) → ended (front ++ 10 ∷ more) ≡ front ++ 10 ∷ ended more
ended_above front [] = kept (front ++ 10 ∷ []) (ends-append front 10 [])
ended_above front (m ∷ ms) =
    let far : ends_with nat_eq (front ++ 10 ∷ m ∷ ms) (10 ∷ []) ≡ ends_with nat_eq (m ∷ ms) (10 ∷ []) =
    ap (λ bs. ends_with nat_eq bs (10 ∷ [])) (sym (append_assoc front (10 ∷ []) (m ∷ ms))) ∙ ends-append (front ++ 10 ∷ []) m ms in
    above_by front (m ∷ ms) (ends_with nat_eq (m ∷ ms) (10 ∷ [])) refl far (omega arith)

-- a line without a LF
other_way : (b : ℕ) → (b == 10) ≡ false → nat_eq 10 b ≡ false
other_way b e = false_from_ne_true (nat_eq 10 b) (λ t. false≢true (sym e ∙ eq-eqb b 10 (sym (eqb-true 10 b t))))

last_whole : (b : ℕ) (bs : List ℕ) → is_open (b ∷ bs) ≡ true → ends_with nat_eq (b ∷ bs) (10 ∷ []) ≡ false
last_whole b [] h =
    let parts = and_parts (not (b == 10)) true h in
    rw (other_way b (not-true (b == 10) parts.0)) refl
last_whole b (c ∷ cs) h =
    let parts = and_parts (not (b == 10)) (is_open (c ∷ cs)) h in
    ends-append (b ∷ []) c cs ∙ last_whole c cs parts.1

ended_whole : (line : List ℕ) → 0 < length line → is_open line ≡ true → ended line ≡ line ++ 10 ∷ []
ended_whole [] some h = absurd (omega arith)
ended_whole (b ∷ bs) some h = ended_now (b ∷ bs) (omega arith) (last_whole b bs h)

-- ---- a line with one `@` more where it begins with one

open_escaped : (line : List ℕ) → is_open line ≡ true → is_open (escaped line) ≡ true
open_escaped line h = cond_both (starts_with nat_eq line (64 ∷ [])) (64 ∷ line) line (λ l. is_open l ≡ true) (λ _. h) (λ _. h)

some_escaped : (line : List ℕ) → 0 < length line → 0 < length (escaped line)
some_escaped line some = cond_both (starts_with nat_eq line (64 ∷ [])) (64 ∷ line) line (λ l. 0 < length l) (λ _. omega arith) (λ _. some)

cond-append : (t : Bool) (x y z : List ℕ) → cond t (x ++ z) (y ++ z) ≡ cond t x y ++ z
cond-append true x y z = refl
cond-append false x y z = refl

-- a line that is ended
escaped_front : (front : List ℕ) → escaped (front ++ 10 ∷ []) ≡ escaped front ++ 10 ∷ []
escaped_front [] = refl
escaped_front (b ∷ bs) = cond-append (nat_eq 64 b && true) (64 ∷ b ∷ bs) (b ∷ bs) (10 ∷ [])

back_by : (b : ℕ) (bs : List ℕ) (t : Bool) → nat_eq 64 b ≡ t → unescaped (escaped (b ∷ bs)) ≡ b ∷ bs
back_by b bs true e = rw e (rw e refl)
back_by b bs false e = rw e (rw e refl)

read_back : (line : List ℕ) → line_text true (escaped line) ≡ line
read_back [] = refl
read_back (b ∷ bs) = back_by b bs (nat_eq 64 b) refl

closed_by : (b : ℕ) (bs : List ℕ) (t : Bool) → nat_eq 64 b ≡ t → not (opens_part (escaped (b ∷ bs))) ≡ true
closed_by b bs true e = rw e (rw e refl)
closed_by b bs false e = rw e (rw e refl)

closed_line : (line : List ℕ) → not (opens_part (escaped line)) ≡ true
closed_line [] = refl
closed_line (b ∷ bs) = closed_by b bs (nat_eq 64 b) refl

-- ---- all lines of a file

-- its last line, which is not ended
last_lines : (line : List ℕ) → 0 < length line → is_open line ≡ true → whole_lines (ended (escaped line ++ [])) ≡ escaped (line ++ 10 ∷ []) ∷ []
last_lines line some h =
    ap whole_lines (ap ended (append-nil (escaped line)) ∙ ended_whole (escaped line) (some_escaped line some) (open_escaped line h))
    ∙ first_ended (escaped line) [] (open_escaped line h) ∙ ap (λ l. l ∷ []) (sym (escaped_front line))

-- a line that is ended, and those below it
first_lines : (front : List ℕ) (lines : List (List ℕ)) → is_open front ≡ true
    → whole_lines (ended (escaped (front ++ 10 ∷ []) ++ flat_map escaped lines)) ≡ escaped (front ++ 10 ∷ []) ∷ whole_lines (ended (flat_map escaped lines))
first_lines front lines h =
    let below = flat_map escaped lines in
    ap whole_lines (ap ended (ap (λ bs. bs ++ below) (escaped_front front) ∙ append_assoc (escaped front) (10 ∷ []) below) ∙ ended_above (escaped front) below)
    ∙ first_ended (escaped front) (ended below) (open_escaped front h) ∙ ap (λ l. l ∷ whole_lines (ended below)) (sym (escaped_front front))

text_of : (lines : List (List ℕ)) → AreLines lines → body_text true (ended (flat_map escaped lines)) ≡ ended (concat lines)
text_of _ no_line = refl
text_of _ (last_line b bs whole) =
    let line = b ∷ bs in
    ap (flat_map (line_text true)) (last_lines line (omega arith) whole) ∙ append-nil (line_text true (escaped (line ++ 10 ∷ []))) ∙ read_back (line ++ 10 ∷ [])
    ∙ sym (ap ended (append-nil line) ∙ ended_whole line (omega arith) whole)
text_of _ (one_more front lines whole more) =
    ap (flat_map (line_text true)) (first_lines front lines whole)
    ∙ (λ i. read_back (front ++ 10 ∷ []) i ++ text_of lines more i)
    ∙ append_assoc front (10 ∷ []) (ended (concat lines)) ∙ sym (ap ended (append_assoc front (10 ∷ []) (concat lines)) ∙ ended_above front (concat lines))

closed_all : (lines : List (List ℕ)) → AreLines lines → list_all (λ line. not (opens_part line)) (whole_lines (ended (flat_map escaped lines))) ≡ true
closed_all _ no_line = refl
closed_all _ (last_line b bs whole) =
    let line = b ∷ bs in
    ap (list_all (λ l. not (opens_part l))) (last_lines line (omega arith) whole) ∙ ap (λ t. t && true) (closed_line (line ++ 10 ∷ []))
closed_all _ (one_more front lines whole more) =
    ap (list_all (λ l. not (opens_part l))) (first_lines front lines whole) ∙ ap (λ t. t && list_all (λ l. not (opens_part l)) (whole_lines (ended (flat_map escaped lines)))) (closed_line (front ++ 10 ∷ []))
    ∙ closed_all lines more

pub read_as_it_is : (file : List ℕ) → IsReadAsItIs file
read_as_it_is file = record {
  text = text_of (whole_lines file) (are_lines file) ∙ ap ended (concat-whole_lines file);
  closed = closed_all (whole_lines file) (are_lines file);
}
