-- The names of columns that are read of a catalogue are UTF-8.
use Rattle.std.proofs.Common.{◌≡◌, ℕ, zero, suc, ◌<◌, ◌==◌, ◌||◌, ◌&&◌, true, List, [], ◌∷◌, length, get_or, inl, inr, arith}
use Rattle.std.specs.Prelude.{nat_le}
use Rattle.std.specs.Char.{is_ascii_alphabetic, is_ascii_alphanumeric}
use Rattle.std.specs.Int.{is_in_range}
use Rattle.std.specs.List.{list_all}
use Rattle.std.proofs.lemmas.Bool.{and_parts, eqb-true, leb-true, or_cases}
use Rattle.std.proofs.lemmas.Str.{IsUtf8-from_ascii}
use Rattle.wh_text.specs.NameForm.{begins_name, continues_name, is_name, underscore}
use Rattle.wh_text.specs.Columns.{names_of}
use Rattle.wh_text_tables.specs.TableReadsBack.{NamesAreText}

below-range : (low high c : ℕ) → high < 128 → is_in_range low high c ≡ true → c < 128
below-range low high c l h = let top = leb-true c high (and_parts (nat_le low c) (nat_le c high) h).1 in omega arith

begins-ascii : (c : ℕ) → begins_name c ≡ true → c < 128
begins-ascii c h = elim (or_cases (is_ascii_alphabetic c) (c == underscore) h) [
  | inl letter ↦ elim (or_cases (is_in_range 65 90 c) (is_in_range 97 122 c) letter) [
    | inl upper ↦ below-range 65 90 c (omega arith) upper
    | inr lower ↦ below-range 97 122 c (omega arith) lower
  ]
  | inr mark ↦ let same = eqb-true c 95 mark in omega arith
]

continues-ascii : (c : ℕ) → continues_name c ≡ true → c < 128
continues-ascii c h = elim (or_cases (is_ascii_alphanumeric c) (c == underscore) h) [
  | inl part ↦ elim (or_cases (is_in_range 48 57 c || is_in_range 65 90 c) (is_in_range 97 122 c) part) [
    | inl first ↦ elim (or_cases (is_in_range 48 57 c) (is_in_range 65 90 c) first) [
      | inl digit ↦ below-range 48 57 c (omega arith) digit
      | inr upper ↦ below-range 65 90 c (omega arith) upper
    ]
    | inr lower ↦ below-range 97 122 c (omega arith) lower
  ]
  | inr mark ↦ let same = eqb-true c 95 mark in omega arith
]

rest-ascii : (rest : List ℕ) → list_all continues_name rest ≡ true → (i : ℕ) → get_or rest i 0 < 128
rest-ascii [] h i = omega arith
rest-ascii (c ∷ rest) h zero = continues-ascii c (and_parts (continues_name c) (list_all continues_name rest) h).0
rest-ascii (c ∷ rest) h (suc i) = rest-ascii rest (and_parts (continues_name c) (list_all continues_name rest) h).1 i

name-ascii : (name : List ℕ) → is_name name ≡ true → (i : ℕ) → get_or name i 0 < 128
unfolding is_name
name-ascii [] h i = omega arith
name-ascii (first ∷ rest) h i = by (and_parts (begins_name first && list_all continues_name rest) (nat_le (length (first ∷ rest)) 64) h).0 i
  where
    by : (begins_name first && list_all continues_name rest) ≡ true → (i : ℕ) → get_or (first ∷ rest) i 0 < 128
    by e zero = begins-ascii first (and_parts (begins_name first) (list_all continues_name rest) e).0
    by e (suc i) = rest-ascii rest (and_parts (begins_name first) (list_all continues_name rest) e).1 i

pub names-are-text : NamesAreText
names-are-text columns are = λ k d l. IsUtf8-from_ascii (get_or (names_of columns) k d) (name-ascii (get_or (names_of columns) k d) (are.formed k d l))
