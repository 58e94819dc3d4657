-- A search in a list of texts, and in the strings that hold them.
use Rattle.std.proofs.Common.{String, Global, string_bytes, if◌then◌else◌, ◌≡◌, ℕ, Bool, true, false, cond, ◌||◌, List, [], ◌∷◌, ◌++◌, map, length, position, Some, None, refl, sym, ap, ◌∙◌, nat_lt}
use Rattle.std.specs.List.{AllByRecursion, IsDistinct}
use Rattle.std.specs.List.{list_any, position_or_len}
use Rattle.std.proofs.lemmas.Option.{same_Some}
use Rattle.std.proofs.lemmas.Bool.{false≢true}
use Rattle.std.proofs.lemmas.List.{map-append}
use Rattle.std.specs.Str.{bytes_eq}
use Rattle.std.specs.String.{string_eq}
use Rattle.indexmap.specs.IndexSet.{insert_key}
use Rattle.wh_text.specs.Dict.{with_text, HasText}

pub list_any-map : {X Y : Type 0} (p : Y → Bool) (f : X → Y) (xs : List X) → list_any p (map f xs) ≡ list_any (λ x. p (f x)) xs
list_any-map p f [] = refl
list_any-map p f (x ∷ xs) = ap (λ b. p (f x) || b) (list_any-map p f xs)

pub position_or_len-map : {X Y : Type 0} (p : Y → Bool) (f : X → Y) (xs : List X) → position_or_len p (map f xs) ≡ position_or_len (λ x. p (f x)) xs
position_or_len-map p f [] = refl
position_or_len-map p f (x ∷ xs) = rw (position_or_len-map p f xs) refl

pub position-first : {X : Type 0} (p : X → Bool) (xs : List X) (n : ℕ) → Some n ≡ position p xs → n ≡ position_or_len p xs
position-first p xs n h = by (nat_lt (position_or_len p xs) (length xs)) h
  where
    by : (b : Bool) → Some n ≡ cond b (Some (position_or_len p xs)) None → n ≡ position_or_len p xs
    by true e = same_Some _ _ e
    by false e = cc

-- a string put last in the keys, and its text put last in the texts
pub map-insert_key : (keys : List (String Global)) (key : String Global) → map string_bytes (insert_key string_eq keys key) ≡ with_text (map string_bytes keys) (string_bytes key)
map-insert_key keys key = rw (list_any-map (bytes_eq (string_bytes key)) string_bytes keys) (by (list_any (λ x. bytes_eq (string_bytes key) (string_bytes x)) keys))
  where
    by : (b : Bool) → map string_bytes (if b then keys else keys ++ key ∷ []) ≡ (if b then map string_bytes keys else map string_bytes keys ++ string_bytes key ∷ [])
    by true = refl
    by false = map-append string_bytes keys (key ∷ [])

apart-texts : (key : String Global) (keys : List (String Global)) → AllByRecursion (λ k. string_eq key k ≡ false) keys → AllByRecursion (λ text. bytes_eq (string_bytes key) text ≡ false) (map string_bytes keys)
apart-texts key [] all = tt
apart-texts key (k ∷ keys) all = (all.0, apart-texts key keys all.1)

-- keys that differ have texts that differ
pub IsDistinct-texts : (keys : List (String Global)) → IsDistinct string_eq keys → IsDistinct bytes_eq (map string_bytes keys)
unfolding IsDistinct
IsDistinct-texts [] distinct = tt
IsDistinct-texts (key ∷ keys) distinct = (apart-texts key keys distinct.0, IsDistinct-texts keys distinct.1)

-- a text that none of the strings holds
pub new_text : (keys : List (String Global)) (texts : List (List ℕ)) (text : List ℕ) → map string_bytes keys ≡ texts → false ≡ list_any (λ k. bytes_eq text (string_bytes k)) keys → ¬ (HasText texts text)
new_text keys texts text is found has = false≢true (found ∙ sym (list_any-map (bytes_eq text) string_bytes keys) ∙ ap (list_any (bytes_eq text)) is ∙ has)
