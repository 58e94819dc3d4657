-- `parse` reads the natural numbers that words write.
use Rattle.std.proofs.Common.{◌≡◌, ◌<◌, ℕ, Bool, true, false, List, [], ◌∷◌, Some, None, Result, Ok, Err, ◌⊎◌, inl, inr, cond, drop, refl, sym, subst, ap, arith}
use Rattle.std.specs.Prelude.{◌&&◌, ◌^◌, ◌==◌, nat_lt, slice_index}
use Rattle.std.specs.Bool.{Decides}
use Rattle.std.specs.Result.{OkIff, result_ok}
use Rattle.std.specs.Char.{digit_value}
use Rattle.std.specs.Str.{IsUtf8}
use Rattle.std.specs.Str.Parse.{IsNumeral, ParsesUnsigned, digits_value, without_leading_plus}
use Rattle.std.proofs.lemmas.Bool.{cases_Bool}
use Rattle.std.proofs.lemmas.Bool.Decides.{Decides-and, Decides-eqb, Decides-ltb}
use Rattle.std.proofs.lemmas.Fmt.{IsAscii-from_digits}
use Rattle.std.proofs.lemmas.Str.{IsUtf8-from_ascii}
use Rattle.wh_text.specs.WholeNumber.{are_digits}
use Rattle.wh_text.proofs.WholeNumbers.{are_digits-decides}
use Rattle.wh_text_lines.specs.Natural.{natural}

-- the test of `natural`
test : List ℕ → Bool
test word = are_digits word && nat_lt (digits_value 10 word) (2 ^ 128)

test-decides : (word : List ℕ) → Decides (test word) (IsNumeral 10 word × (digits_value 10 word < 2 ^ 128))
unfolding test
test-decides word = Decides-and (are_digits word) (nat_lt (digits_value 10 word) (2 ^ 128)) (are_digits-decides word) (Decides-ltb (digits_value 10 word) (2 ^ 128))

natural-none : (word : List ℕ) → (IsNumeral 10 word → ⊥) → natural word ≡ None
unfolding natural test
natural-none word other = by (cases_Bool (test word))
  where
    by : (test word ≡ true) ⊎ (test word ≡ false) → natural word ≡ None
    by (inl e) = absurd (other ((test-decides word).0 e).0)
    by (inr e) = rw e refl

-- a plus is no digit
pub natural-plus : (word : List ℕ) → true ≡ (slice_index word 0 == 43) → natural word ≡ None
natural-plus [] e = cc
natural-plus (c ∷ cs) e =
    let is_plus : c ≡ 43 = ltb_eq c e in
    natural-none (c ∷ cs) (λ numeral. absurd (not_digit c is_plus numeral.1.0))
  where
    ltb_eq : (c : ℕ) → true ≡ (c == 43) → c ≡ 43
    ltb_eq c e = (Decides-eqb c 43).0 (sym e)

    not_digit : (c : ℕ) → c ≡ 43 → digit_value c < 10 → ⊥
    not_digit c e l = let l : digit_value 43 < 10 = subst (λ d. digit_value d < 10) e l in omega (arith, l)

-- digits are UTF-8
pub natural-other : (word : List ℕ) → (IsUtf8 word → ⊥) → natural word ≡ None
natural-other word other = natural-none word (λ numeral. other (IsUtf8-from_ascii word (IsAscii-from_digits word numeral.1)))

natural-from : {E : Type 0} (word : List ℕ) (r : Result ℕ E) → OkIff r (IsNumeral 10 word × (digits_value 10 word < 2 ^ 128)) (digits_value 10 word) → result_ok r ≡ natural word
unfolding natural test
natural-from word (Ok n) parses = rw ((test-decides word).1 parses.0, parses.1) refl
natural-from word (Err e) parses = by (cases_Bool (test word)) (test-decides word).0
  where
    by : (test word ≡ true) ⊎ (test word ≡ false) → (test word ≡ true → IsNumeral 10 word × (digits_value 10 word < 2 ^ 128)) → None ≡ natural word
    by (inl e) holds = absurd (parses (holds e))
    by (inr e) holds = rw e refl

-- what `parse` answers of a word with no plus, as an option
pub natural-parse : {E : Type 0} (word : List ℕ) (r : Result ℕ E) → false ≡ (slice_index word 0 == 43) → ParsesUnsigned 128 10 word r → result_ok r ≡ natural word
natural-parse word r plain parses =
    let bare : without_leading_plus word ≡ word = ap (λ b. drop (cond b 1 0) word) (sym plain) in
    natural-from word r (subst (λ ds. OkIff r (IsNumeral 10 ds × (digits_value 10 ds < 2 ^ 128)) (digits_value 10 ds)) bare parses)

-- digits write their number
pub natural-numeral : (word : List ℕ) (n : ℕ) → IsNumeral 10 word → digits_value 10 word ≡ n → n < 2 ^ 128 → natural word ≡ Some n
unfolding natural test
natural-numeral word n numeral value small = rw ((test-decides word).1 (numeral, subst (λ m. m < 2 ^ 128) (sym value) small), value) refl
