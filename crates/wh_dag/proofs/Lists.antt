-- Lists in memory, compared.
use Rattle.std.proofs.Common.{◌≡◌, ℕ, List, [], ◌∷◌, ◌++◌, refl, ap, length, ◌+◌, ◌<◌, subst, sym, arith, inl, inr}
use Rattle.std.specs.Prelude.{Vec, ◌&&◌, slice_index}
use Rattle.std.specs.Str.{bytes_eq}
use Rattle.std.specs.Cmp.Lexicographic.{pointwise}
use Rattle.std.specs.declared.alloc.Global.{Global}
use Rattle.std.proofs.lemmas.List.{get_or_append_left, get_or_push}
use Rattle.std.proofs.lemmas.Bool.{cases_lt}
use Rattle.wh_dag.specs.Lists.{lists_of}

pub pointwise-lists_of : (xs ys : List (Vec ℕ Global)) →
    pointwise (λ (x y : Vec ℕ Global). bytes_eq x.items y.items) xs ys ≡ pointwise bytes_eq (lists_of xs) (lists_of ys)
pointwise-lists_of [] [] = refl
pointwise-lists_of [] (y ∷ ys) = refl
pointwise-lists_of (x ∷ xs) [] = refl
pointwise-lists_of (x ∷ xs) (y ∷ ys) = ap (λ b. bytes_eq x.items y.items && b) (pointwise-lists_of xs ys)

-- what holds at each place still does after a push, where it holds of what was pushed
pub each_push : (P : ℕ → ℕ → Type 0) (xs : List ℕ) (x n : ℕ) → length xs ≡ n →
    ((v : ℕ) → v < n → P v (slice_index xs v)) → P n x →
    (v : ℕ) → v < n + 1 → P v (slice_index (xs ++ x ∷ []) v)
each_push P xs x n counted each new v l =
    elim (cases_lt v n) [
      | inl below ↦
          let h : v < length xs = omega arith in
          subst (P v) (sym (get_or_append_left xs (x ∷ []) 0 v h)) (each v below)
      | inr above ↦
          let e : n ≡ v = omega arith in
          subst (λ k. P k (slice_index (xs ++ x ∷ []) k)) e
          (subst (P n) (sym (get_or_push xs x 0 n counted)) new)
    ]
