-- A dictionary that grows keeps its numbers.
use Rattle.std.proofs.Common.{◌≡◌, ℕ, Bool, true, false, List, [], ◌∷◌, ◌++◌, ◌⊎◌, inl, inr, refl, sym, ap, ◌∙◌, append_assoc}
use Rattle.std.specs.List.{list_any, position_or_len}
use Rattle.std.specs.Str.{bytes_eq}
use Rattle.std.proofs.lemmas.Bool.{cases_Bool}
use Rattle.std.proofs.lemmas.List.{append-nil}
use Rattle.std.proofs.lemmas.List.Folds.{list_any-append}
use Rattle.std.proofs.lemmas.Slice.Eq.{bytes_eq-Decides}
use Rattle.wh_text.specs.Dict.{number_of_text, with_text, with_texts}
use Rattle.wh_text.specs.Inner.Dict.{BeginsWith, Grows}

pub with_texts-append : (texts xs ys : List (List ℕ)) → with_texts texts (xs ++ ys) ≡ with_texts (with_texts texts xs) ys
unfolding with_texts
with_texts-append texts [] ys = refl
with_texts-append texts (x ∷ xs) ys = with_texts-append (with_text texts x) xs ys

same-text : (text : List ℕ) → bytes_eq text text ≡ true
same-text text = (bytes_eq-Decides text text).1 refl

-- where one passes, what comes after it does not matter
position-found : {X : Type 0} (p : X → Bool) (xs ys : List X) → list_any p xs ≡ true → position_or_len p (xs ++ ys) ≡ position_or_len p xs
position-found p [] ys found = absurd (let bad : false ≡ true = found in cc)
position-found p (x ∷ xs) ys found = by (cases_Bool (p x)) (λ later. position-found p xs ys later)
  where
    by : (p x ≡ true) ⊎ (p x ≡ false) → (list_any p xs ≡ true → position_or_len p (xs ++ ys) ≡ position_or_len p xs) → position_or_len p ((x ∷ xs) ++ ys) ≡ position_or_len p (x ∷ xs)
    by (inl passes) same = rw passes refl
    by (inr fails) same = rw (fails, same (rw fails at found)) refl

-- one that passes, put last, does not move the first place
position-last : {X : Type 0} (p : X → Bool) (xs : List X) (y : X) → p y ≡ true → position_or_len p (xs ++ y ∷ []) ≡ position_or_len p xs
position-last p [] y passes = rw passes refl
position-last p (x ∷ xs) y passes = rw (position-last p xs y passes) refl

pub has-text : (texts : List (List ℕ)) (text : List ℕ) → list_any (bytes_eq text) (with_text texts text) ≡ true
has-text texts text = by (cases_Bool (list_any (bytes_eq text) texts))
  where
    by : (list_any (bytes_eq text) texts ≡ true) ⊎ (list_any (bytes_eq text) texts ≡ false) → list_any (bytes_eq text) (with_text texts text) ≡ true
    by (inl found) = rw found found
    by (inr new) = rw (new, list_any-append (bytes_eq text) texts (text ∷ []), new, same-text text) refl

pub number-own : (texts : List (List ℕ)) (text : List ℕ) → number_of_text (with_text texts text) text ≡ number_of_text texts text
number-own texts text = by (cases_Bool (list_any (bytes_eq text) texts))
  where
    by : (list_any (bytes_eq text) texts ≡ true) ⊎ (list_any (bytes_eq text) texts ≡ false) → number_of_text (with_text texts text) text ≡ number_of_text texts text
    by (inl found) = rw found refl
    by (inr new) = rw new (position-last (bytes_eq text) texts text (same-text text))

-- one text more
pub begins-text : (texts : List (List ℕ)) (text : List ℕ) → BeginsWith texts (with_text texts text)
begins-text texts text = by (cases_Bool (list_any (bytes_eq text) texts))
  where
    by : (list_any (bytes_eq text) texts ≡ true) ⊎ (list_any (bytes_eq text) texts ≡ false) → BeginsWith texts (with_text texts text)
    by (inl found) = record { more = []; parts = rw found (sym (append-nil texts)) }
    by (inr new) = record { more = text ∷ []; parts = rw new refl }

pub begins-trans : (xs ys zs : List (List ℕ)) → BeginsWith xs ys → BeginsWith ys zs → BeginsWith xs zs
begins-trans xs ys zs b c = record { more = b.more ++ c.more; parts = c.parts ∙ ap (λ t. t ++ c.more) b.parts ∙ append_assoc xs b.more c.more }

pub begins-same : (xs : List (List ℕ)) → BeginsWith xs xs
begins-same xs = record { more = []; parts = sym (append-nil xs) }

pub begins-texts : (texts more : List (List ℕ)) → BeginsWith texts (with_texts texts more)
unfolding with_texts
begins-texts texts [] = begins-same texts
begins-texts texts (text ∷ more) = begins-trans texts (with_text texts text) _ (begins-text texts text) (begins-texts (with_text texts text) more)

-- a text that has a number keeps it
pub number-begins : (texts all : List (List ℕ)) (text : List ℕ) → BeginsWith texts all → list_any (bytes_eq text) texts ≡ true → number_of_text all text ≡ number_of_text texts text
number-begins texts all text b found = ap (λ t. number_of_text t text) b.parts ∙ position-found (bytes_eq text) texts b.more found

-- the number that a text gets is its number from then on
pub number-kept : (texts more : List (List ℕ)) (text : List ℕ) → number_of_text (with_texts (with_text texts text) more) text ≡ number_of_text texts text
number-kept texts more text = number-begins (with_text texts text) (with_texts (with_text texts text) more) text (begins-texts (with_text texts text) more) (has-text texts text) ∙ number-own texts text

-- a list that grew begins with what it was
pub grown-begins : (texts after : List (List ℕ)) → Grows texts after → BeginsWith texts after
grown-begins texts after grows = grows texts (begins-same texts)

-- a text more
pub grows-text : (texts : List (List ℕ)) (text : List ℕ) → Grows texts (with_text texts text)
grows-text texts text first begins = begins-trans first texts (with_text texts text) begins (begins-text texts text)
