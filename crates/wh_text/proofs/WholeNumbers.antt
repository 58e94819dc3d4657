-- `parse` reads the whole numbers that cells write.
use Rattle.std.proofs.Common.{◌≡◌, ◌<◌, ℕ, ℤ, pos, negsuc, true, false, List, [], ◌∷◌, length, Option, Some, None, Result, Ok, Err, ◌⊎◌, inl, inr, refl, subst, sym, ap, arith, FitsSigned, w64}
use Rattle.std.proofs.lemmas.Int.{to_z-of_z}
use Rattle.std.specs.Prelude.{IfSome, ◌&&◌, ◌^◌, ◌==◌, nat_lt, if◌then◌else◌}
use Rattle.std.specs.Bool.{Decides}
use Rattle.std.specs.Char.{digit_value}
use Rattle.std.specs.List.{list_all}
use Rattle.std.specs.Result.{OkIff, result_ok}
use Rattle.std.specs.Str.Parse.{AllDigits, IsNumeral, ParsesSigned, digits_value, signed_digits_value, without_leading_sign}
use Rattle.std.proofs.lemmas.Bool.{cases_Bool}
use Rattle.std.proofs.lemmas.Bool.Decides.{Decides-and, Decides-eqb, Decides-like, Decides-ltb}
use Rattle.wh_text.specs.WholeNumber.{are_digits, is_i64, whole_number}

all-decides : (text : List ℕ) → Decides (list_all (λ digit. nat_lt (digit_value digit) 10) text) (AllDigits 10 text)
all-decides [] = (λ _. tt, λ _. refl)
all-decides (c ∷ cs) = Decides-and (nat_lt (digit_value c) 10) (list_all (λ digit. nat_lt (digit_value digit) 10) cs) (Decides-ltb (digit_value c) 10) (all-decides cs)

pub are_digits-decides : (text : List ℕ) → Decides (are_digits text) (IsNumeral 10 text)
are_digits-decides text = Decides-and (nat_lt 0 (length text)) (list_all (λ digit. nat_lt (digit_value digit) 10) text) (Decides-ltb 0 (length text)) (all-decides text)

pub is_i64-decides : (z : ℤ) → Decides (is_i64 z) (FitsSigned w64 z)
is_i64-decides (pos n) = Decides-like (nat_lt n (2 ^ 63)) (λ l. record { sfits = l }) (λ f. f.sfits) (Decides-ltb n (2 ^ 63))
is_i64-decides (negsuc n) = Decides-like (nat_lt n (2 ^ 63)) (λ l. record { sfits = l }) (λ f. f.sfits) (Decides-ltb n (2 ^ 63))

-- what `parse` answers, as an option
pub whole_number-parse : {E : Type 0} (text : List ℕ) (r : Result ℤ E) → ParsesSigned w64 10 text r → result_ok r ≡ whole_number text
unfolding whole_number
whole_number-parse text (Ok z) parses =
    let test = Decides-and (are_digits (without_leading_sign text)) (is_i64 (signed_digits_value 10 text)) (are_digits-decides (without_leading_sign text)) (is_i64-decides (signed_digits_value 10 text)) in
    rw (test.1 parses.0, parses.1) refl
whole_number-parse text (Err e) parses =
    let test = Decides-and (are_digits (without_leading_sign text)) (is_i64 (signed_digits_value 10 text)) (are_digits-decides (without_leading_sign text)) (is_i64-decides (signed_digits_value 10 text)) in
    by (cases_Bool (are_digits (without_leading_sign text) && is_i64 (signed_digits_value 10 text))) test.0
  where
    by : ((are_digits (without_leading_sign text) && is_i64 (signed_digits_value 10 text)) ≡ true) ⊎ ((are_digits (without_leading_sign text) && is_i64 (signed_digits_value 10 text)) ≡ false)
        → ((are_digits (without_leading_sign text) && is_i64 (signed_digits_value 10 text)) ≡ true → IsNumeral 10 (without_leading_sign text) × FitsSigned w64 (signed_digits_value 10 text))
        → result_ok (Err e) ≡ (if are_digits (without_leading_sign text) && is_i64 (signed_digits_value 10 text) then Some (signed_digits_value 10 text) else None)
    by (inl e) holds = absurd (parses (holds e))
    by (inr e) holds = rw e refl

pub whole_number-fits : (text : List ℕ) (o : Option ℤ) → o ≡ whole_number text → IfSome o (λ number. FitsSigned w64 number)
unfolding whole_number
whole_number-fits text o e =
    let test = Decides-and (are_digits (without_leading_sign text)) (is_i64 (signed_digits_value 10 text)) (are_digits-decides (without_leading_sign text)) (is_i64-decides (signed_digits_value 10 text)) in
    by o (cases_Bool (are_digits (without_leading_sign text) && is_i64 (signed_digits_value 10 text))) test.0 e
  where
    by : (o : Option ℤ) → ((are_digits (without_leading_sign text) && is_i64 (signed_digits_value 10 text)) ≡ true) ⊎ ((are_digits (without_leading_sign text) && is_i64 (signed_digits_value 10 text)) ≡ false)
        → ((are_digits (without_leading_sign text) && is_i64 (signed_digits_value 10 text)) ≡ true → IsNumeral 10 (without_leading_sign text) × FitsSigned w64 (signed_digits_value 10 text))
        → o ≡ (if are_digits (without_leading_sign text) && is_i64 (signed_digits_value 10 text) then Some (signed_digits_value 10 text) else None)
        → IfSome o (λ number. FitsSigned w64 number)
    by o (inl met) holds e = rw (e, met) (holds met).1
    by o (inr failed) holds e = rw (e, failed) tt

other-digit : (c k : ℕ) → digit_value c < 10 → (digit_value k < 10 → ⊥) → (c == k) ≡ false
other-digit c k digit other = by (cases_Bool (c == k))
  where
    by : ((c == k) ≡ true) ⊎ ((c == k) ≡ false) → (c == k) ≡ false
    by (inl e) = absurd (other (subst (λ d. digit_value d < 10) ((Decides-eqb c k).0 e) digit))
    by (inr e) = e

no-digit-plus : digit_value 43 < 10 → ⊥
no-digit-plus l = omega (arith, l)

no-digit-minus : digit_value 45 < 10 → ⊥
no-digit-minus l = omega (arith, l)

-- digits alone write their number
pub whole_number-plain : (text : List ℕ) (n : ℕ) → 0 < length text → AllDigits 10 text → digits_value 10 text ≡ n → FitsSigned w64 (pos n) → whole_number text ≡ Some (pos n)
unfolding whole_number
whole_number-plain [] n some digits value fits = absurd (omega (arith, some))
whole_number-plain (c ∷ cs) n some digits value fits =
    let minus = other-digit c 45 digits.0 no-digit-minus in
    let plus = other-digit c 43 digits.0 no-digit-plus in
    let bare : without_leading_sign (c ∷ cs) ≡ c ∷ cs = rw (minus, plus) refl in
    let signed : signed_digits_value 10 (c ∷ cs) ≡ pos n = rw (minus, plus) (ap (λ m. pos m) value) in
    let are : are_digits (without_leading_sign (c ∷ cs)) ≡ true = rw bare ((are_digits-decides (c ∷ cs)).1 (some, digits)) in
    let is : is_i64 (signed_digits_value 10 (c ∷ cs)) ≡ true = rw signed ((is_i64-decides (pos n)).1 fits) in
    rw (are, is) (ap (λ z. Some z) signed)

-- what is left of it where it is an i64
pub plain-fits : {E : Type 0} (text : List ℕ) (n : ℕ) (r : Result ℤ E) → 0 < length text → AllDigits 10 text → n ≡ digits_value 10 text → OkIff r (FitsSigned w64 (pos n)) (pos n) → IfSome (result_ok r) (λ number. whole_number text ≡ Some number)
plain-fits text n (Ok z) some digits value fits = rw fits.1 (whole_number-plain text n some digits (sym value) fits.0)
plain-fits text n (Err e) some digits value fits = tt

-- a number that fits is itself, in the code's bits
pub ruleset whole_numbers = (to_z-of_z)
