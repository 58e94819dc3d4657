-- Whether an element passes a test, and where the first one stands.
use Rattle.std.proofs.Common.{◌≡◌, ◌∙◌, ◌<◌, ◌≤◌, ℕ, Bool, cond, arith, ap, false, true, refl, List, length, None, Some}
use Rattle.std.specs.Prelude.{nat_lt, position}
use Rattle.std.specs.List.{list_any, position_or_len, slice_index_or}
use Rattle.std.proofs.lemmas.List.{get_or_default}
use Rattle.std.proofs.lemmas.Bool.{ltb-false, ltb-true}
use Rattle.std.proofs.lemmas.List.Folds.{Any-from_list_any, list_any-from_Any}
use Rattle.std.proofs.lemmas.List.Sums.{fails_before_first, passes_at_first}

module _ {X : Type 0} (p : X → Bool) (xs : List X) where
  -- the first that passes stands at i
  pub record IsFirstAt (i : ℕ) : Type 0 where
    pub place : position_or_len p xs ≡ i
    pub below : position_or_len p xs < length xs

  pub first_at : (i : ℕ) → position p xs ≡ Some i → IsFirstAt i
  first_at i found = go (nat_lt (position_or_len p xs) (length xs)) refl found
    where
      go : (b : Bool) → nat_lt (position_or_len p xs) (length xs) ≡ b → cond b (Some (position_or_len p xs)) None ≡ Some i → IsFirstAt i
      go true below e = record { place = cc; below = ltb-true _ _ below }
      go false below e = let bad : ⊥ = cc in absurd bad

  pub past_all : position p xs ≡ None → length xs ≤ position_or_len p xs
  past_all none = go (nat_lt (position_or_len p xs) (length xs)) refl none
    where
      go : (b : Bool) → nat_lt (position_or_len p xs) (length xs) ≡ b → cond b (Some (position_or_len p xs)) None ≡ None → length xs ≤ position_or_len p xs
      go true below e = let bad : ⊥ = cc in absurd bad
      go false below e = ltb-false _ _ below

  pub any_passes : (d : X) → position_or_len p xs < length xs → list_any p xs ≡ true
  any_passes d below =
      let q = position_or_len p xs in
      let x : X = slice_index_or xs q d in
      list_any-from_Any p xs (q, x, below, get_or_default xs q x d below, passes_at_first p xs d below)

  pub none_passes : length xs ≤ position_or_len p xs → list_any p xs ≡ false
  none_passes past = go (list_any p xs) refl
    where
      go : (b : Bool) → list_any p xs ≡ b → b ≡ false
      go false e = refl
      go true e =
          let any = Any-from_list_any p xs e in
          let fails = fails_before_first p xs any.0 any.1 (omega (arith, any.2)) in
          let holds : p (slice_index_or xs any.0 any.1) ≡ true = ap p any.3 ∙ any.4 in
          cc
