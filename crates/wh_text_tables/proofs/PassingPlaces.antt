-- Which elements of a list pass a test.
use Rattle.std.proofs.Common.{◌≡◌, ◌+◌, ℕ, zero, suc, Bool, true, false, cond, ◌||◌, List, [], ◌∷◌, Some, ◌⊎◌, inl, inr, refl, ap, ◌∙◌}
use Rattle.std.specs.Prelude.{is_some, position, slice_get}
use Rattle.std.specs.List.{list_any, position_from}
use Rattle.std.proofs.lemmas.Bool.{cases_Bool}
use Rattle.std.proofs.lemmas.Iterator.Adapters.{position_from-zero}

pub any-at : {X : Type 0} (p : X → Bool) (xs : List X) → list_any p xs ≡ true → (place : ℕ) × (x : X) × (slice_get xs place ≡ Some x) × (p x ≡ true)
any-at p [] e = cc
any-at {X} p (x ∷ xs) e = by (cases_Bool (p x)) (any-at p xs)
  where
    by : (p x ≡ true) ⊎ (p x ≡ false) → (list_any p xs ≡ true → (place : ℕ) × (y : X) × (slice_get xs place ≡ Some y) × (p y ≡ true)) → (place : ℕ) × (y : X) × (slice_get (x ∷ xs) place ≡ Some y) × (p y ≡ true)
    by (inl passes) more = (zero, x, refl, passes)
    by (inr fails) more =
        let later = more (rw fails at e) in
        (suc later.0, later.1, later.2, later.3)

pub none-at : {X : Type 0} (p : X → Bool) (xs : List X) (place : ℕ) (x : X) → list_any p xs ≡ false → slice_get xs place ≡ Some x → p x ≡ false
none-at p [] place x e at = cc
none-at p (y ∷ xs) zero x e at = (let same : y ≡ x = cc in rw (← same) (by (p y) (list_any p xs) e))
  where
    by : (a b : Bool) → (a || b) ≡ false → a ≡ false
    by true b e = e
    by false b e = refl
none-at p (y ∷ xs) (suc place) x e at = none-at p xs place x (by (p y) (list_any p xs) e) at
  where
    by : (a b : Bool) → (a || b) ≡ false → b ≡ false
    by true b e = cc
    by false b e = e

from-any : {X : Type 0} (p : X → Bool) (i : ℕ) (xs : List X) → is_some (position_from p i xs) ≡ list_any p xs
from-any p i [] = refl
from-any p i (x ∷ xs) = by (p x) (from-any p (i + 1) xs)
  where
    by : (b : Bool) → is_some (position_from p (i + 1) xs) ≡ list_any p xs → is_some (cond b (Some i) (position_from p (i + 1) xs)) ≡ (b || list_any p xs)
    by true more = refl
    by false more = more

-- a place is found where one passes
pub position-any : {X : Type 0} (p : X → Bool) (xs : List X) → is_some (position p xs) ≡ list_any p xs
position-any p xs = ap is_some (position_from-zero p xs) ∙ from-any p 0 xs
