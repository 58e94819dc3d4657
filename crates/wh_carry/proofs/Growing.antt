-- Lists that grow by an item.
use Rattle.std.proofs.Common.{◌≡◌, refl, sym, ap, ◌∙◌, ℕ, zero, suc, ◌+◌, ◌<◌, List, [], ◌∷◌, ◌++◌, length, Some, arith}
use Rattle.std.specs.Prelude.{slice_get}

pub last_item : {A : Type 0} (xs : List A) (x : A) (n : ℕ) → length xs ≡ n → slice_get (xs ++ x ∷ []) n ≡ Some x
last_item [] x n e = ap (slice_get (x ∷ [])) (sym e)
last_item (y ∷ xs) x n e = ap (slice_get (y ∷ (xs ++ x ∷ []))) (sym e) ∙ last_item xs x (length xs) refl

pub front_item : {A : Type 0} (xs ys : List A) (n : ℕ) → n < length xs → slice_get (xs ++ ys) n ≡ slice_get xs n
front_item [] ys n l = absurd (omega arith)
front_item (x ∷ xs) ys zero l = refl
front_item (x ∷ xs) ys (suc n) l = front_item xs ys n (omega arith)

pub longer : {A : Type 0} (xs : List A) (x : A) → length (xs ++ x ∷ []) ≡ length xs + 1
longer [] x = refl
longer (y ∷ xs) x = let e = longer xs x in omega arith
