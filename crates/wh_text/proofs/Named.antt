-- The first of some names that is a word.
use Rattle.std.proofs.Common.{◌≡◌, ℕ, ◌+◌, Bool, true, false, cond, if◌then◌else◌, List, [], ◌∷◌, ◌++◌, length, take, ◌<◌, Option, Some, None, is_some, String, string_bytes, refl, ap, sym, subst, ◌∙◌, arith}
use Rattle.std.specs.declared.alloc.Global.{Global}
use Rattle.std.specs.List.{position_from}
use Rattle.std.specs.Option.{option_or}
use Rattle.std.specs.Str.{bytes_eq, IsUtf8}
use Rattle.std.proofs.lemmas.Iterator.Adapters.{position_from-zero}
use Rattle.std.proofs.lemmas.Slice.Eq.{bytes_eq-Decides}
use Rattle.std.proofs.lemmas.Str.{IsUtf8-string_bytes}
use Rattle.std.proofs.lemmas.List.{map-append, take_more}
use Rattle.wh_dag.specs.Written.{texts, name_of, number_of}

option_or-None : {T : Type 0} (o : Option T) → option_or o None ≡ o
option_or-None None = refl
option_or-None (Some x) = refl

position_from-push : {T : Type 0} (t : T → Bool) (i : ℕ) (xs : List T) (y : T) → position_from t i (xs ++ y ∷ []) ≡ option_or (position_from t i xs) (if t y then Some (i + length xs) else None)
position_from-push t i [] y = let e : i + 0 ≡ i = omega arith in rw e refl
position_from-push {T} t i (x ∷ xs) y = by (t x) (position_from-push t (i + 1) xs y)
  where
    by : (b : Bool) → position_from t (i + 1) (xs ++ y ∷ []) ≡ option_or (position_from t (i + 1) xs) (if t y then Some (i + 1 + length xs) else None)
        → cond b (Some i) (position_from t (i + 1) (xs ++ y ∷ [])) ≡ option_or (cond b (Some i) (position_from t (i + 1) xs)) (if t y then Some (i + length (x ∷ xs)) else None)
    by true more = refl
    by false more = let e : i + 1 + length xs ≡ i + length (x ∷ xs) = omega arith in rw (← e) more

-- the number of a word among some names, and one more
pub number_of-push : (names : List (List ℕ)) (name word : List ℕ) → number_of (names ++ name ∷ []) word ≡ option_or (number_of names word) (if bytes_eq name word then Some (length names) else None)
number_of-push names name word =
    let t : List ℕ → Bool = λ n. bytes_eq n word in
    let e : 0 + length names ≡ length names = omega arith in
    position_from-zero t (names ++ name ∷ []) ∙ position_from-push t 0 names name
    ∙ ap (λ o. option_or o (if bytes_eq name word then Some (0 + length names) else None)) (sym (position_from-zero t names))
    ∙ ap (λ n. option_or (number_of names word) (if bytes_eq name word then Some n else None)) e

-- what a look-up finds once a new name has its number
pub found_noted : (old : List ℕ → Option ℕ) (name word : List ℕ) (view : ℕ) → is_some (old name) ≡ false
    → cond (bytes_eq name word) (Some view) (old word) ≡ option_or (old word) (if bytes_eq name word then Some view else None)
found_noted old name word view new = by (bytes_eq name word) refl
  where
    none : (o : Option ℕ) → is_some o ≡ false → o ≡ None
    none None e = refl
    none (Some x) e = cc

    by : (b : Bool) → bytes_eq name word ≡ b → cond b (Some view) (old word) ≡ option_or (old word) (if b then Some view else None)
    by true e = let same : old word ≡ None = ap old (sym ((bytes_eq-Decides name word).0 e)) ∙ none (old name) new in rw same refl
    by false e = sym (option_or-None (old word))

no_name_from : (i : ℕ) (names : List (String Global)) (word : List ℕ) → (IsUtf8 word → ⊥) → position_from (λ n. bytes_eq n word) i (texts names) ≡ None
no_name_from i [] word other = refl
no_name_from i (name ∷ names) word other = by (bytes_eq (string_bytes name) word) refl (no_name_from (i + 1) names word other)
  where
    by : (b : Bool) → bytes_eq (string_bytes name) word ≡ b → position_from (λ n. bytes_eq n word) (i + 1) (texts names) ≡ None
        → cond b (Some i) (position_from (λ n. bytes_eq n word) (i + 1) (texts names)) ≡ None
    by true e rest = absurd (other (subst IsUtf8 ((bytes_eq-Decides (string_bytes name) word).0 e) (IsUtf8-string_bytes name)))
    by false e rest = rest

-- what is not UTF-8 is no name
pub no_name : (names : List (String Global)) (word : List ℕ) → (IsUtf8 word → ⊥) → number_of (texts names) word ≡ None
no_name names word other = position_from-zero (λ n. bytes_eq n word) (texts names) ∙ no_name_from 0 names word other

-- the names in memory, and one more
pub texts-push : (names : List (String Global)) (name : String Global) (all : List (List ℕ)) (view : ℕ) → texts names ≡ take view all → view < length all
    → string_bytes name ≡ name_of all view → texts (names ++ name ∷ []) ≡ take (view + 1) all
texts-push names name all view so_far within own =
    map-append string_bytes names (name ∷ []) ∙ ap (λ ts. ts ++ string_bytes name ∷ []) so_far ∙ ap (λ n. take view all ++ n ∷ []) own ∙ sym (take_more all view [] within)

-- the look-up of one more name
pub IsIndex-push : (old new : List ℕ → Option ℕ) (names : List (List ℕ)) (name : List ℕ) (view : ℕ) → ((word : List ℕ) → old word ≡ number_of names word)
    → ((word : List ℕ) → new word ≡ option_or (old word) (if bytes_eq name word then Some view else None)) → length names ≡ view
    → (word : List ℕ) → new word ≡ number_of (names ++ name ∷ []) word
IsIndex-push old new names name view so_far more long word =
    more word ∙ ap (λ o. option_or o (if bytes_eq name word then Some view else None)) (so_far word)
    ∙ ap (λ n. option_or (number_of names word) (if bytes_eq name word then Some n else None)) (sym long) ∙ sym (number_of-push names name word)
