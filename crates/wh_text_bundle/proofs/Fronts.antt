-- Texts that begin with a front, and the first of some headings.
use Rattle.std.proofs.Common.{◌≡◌, ℕ, ◌+◌, ◌<◌, ◌&&◌, Bool, true, false, cond, Option, Some, None, List, [], ◌∷◌, ◌++◌, length, drop, get_or, refl, ap, sym, ◌∙◌, arith, length-append}
use Rattle.std.specs.Prelude.{nat_eq}
use Rattle.std.specs.Option.{option_or}
use Rattle.std.specs.List.{starts_with}
use Rattle.std.proofs.lemmas.Bool.{eqb-true, ltb-true, lt-ltb, and_parts}
use Rattle.wh_text_bundle.specs.Heading.{name_after}

and_assoc : (a b c : Bool) → (a && (b && c)) ≡ ((a && b) && c)
and_assoc true b c = refl
and_assoc false b c = refl

and_true : (a : Bool) → (a && true) ≡ a
and_true true = refl
and_true false = refl

-- a text begins with a front and a byte exactly where it begins with the front and that byte stands next
pub starts_with-then : (front text : List ℕ) (byte : ℕ) → length front < length text
    → starts_with nat_eq text (front ++ byte ∷ []) ≡ (starts_with nat_eq text front && nat_eq byte (get_or text (length front) 0))
starts_with-then front [] byte l = absurd (omega arith)
starts_with-then [] (t ∷ ts) byte l = and_true (nat_eq byte t)
starts_with-then (x ∷ xs) (t ∷ ts) byte l =
    ap (λ rest. nat_eq x t && rest) (starts_with-then xs ts byte (omega arith)) ∙ and_assoc (nat_eq x t) _ _

none_unless : {A : Type 0} (t : Bool) (x : A) → (t ≡ true → ⊥) → cond t (Some x) None ≡ None
none_unless true x never = absurd (never refl)
none_unless false x never = refl

-- what stands after the word and a blank
pub name_after-some : (word text : List ℕ) → starts_with nat_eq text word ≡ true → length word + 1 < length text → get_or text (length word) 0 ≡ 32
    → name_after word text ≡ Some (drop (length word + 1) text)
name_after-some word text begins more blank =
    let front : length (word ++ 32 ∷ []) ≡ length word + 1 = length-append word (32 ∷ []) in
    let same : starts_with nat_eq text (word ++ 32 ∷ []) ≡ true = starts_with-then word text 32 (omega arith) ∙ rw (begins, blank) refl in
    rw (same, front, lt-ltb (length word + 1) (length text) more) refl

-- nothing stands there
pub name_after-none : (word text : List ℕ) → (starts_with nat_eq text word ≡ true → length word + 1 < length text → get_or text (length word) 0 ≡ 32 → ⊥)
    → name_after word text ≡ None
name_after-none word text never =
    none_unless _ _ (λ t.
    let p = and_parts _ _ t in
    let l : length (word ++ 32 ∷ []) < length text = ltb-true _ _ p.1 in
    let front : length (word ++ 32 ∷ []) ≡ length word + 1 = length-append word (32 ∷ []) in
    let more : length word + 1 < length text = omega arith in
    let q = and_parts _ _ (sym (starts_with-then word text 32 (omega arith)) ∙ p.0) in
    never q.0 more (sym (eqb-true _ _ q.1)))

-- the first of some, with others in its place where it is none
pub or_cond : {A : Type 0} (b : Bool) (x : A) (r o : Option A) → option_or (cond b (Some x) r) o ≡ cond b (Some x) (option_or r o)
or_cond true x r o = refl
or_cond false x r o = refl
