-- Rows side by side, cut in two.
use Rattle.std.proofs.Common.{◌≡◌, sym, ap, ◌∙◌, ℕ, zero, suc, ◌+◌, ◌-◌, ◌*◌, ◌≤◌, ◌<◌, ℤ, List, [], ◌∷◌, ◌++◌, length, take, drop, arith, length-drop}
use Rattle.std.proofs.lemmas.List.{length-take-le, take-append-drop, append_assoc, append-nil}
use Rattle.wh_pieces.specs.Row.{Row}
use Rattle.wh_pieces.specs.Flat.{flat}
use Rattle.wh_pieces.specs.Pieces.{all_of}
use Rattle.wh_pieces.specs.Inner.Pieces.{AreNotEmpty}
use Rattle.wh_pieces.proofs.FlatLaws.{take-flat, drop-flat, place_within}
use Rattle.wh_pieces.proofs.PieceLaws.{all-append}

mul_split : (w k m : ℕ) → w * (k + m) ≡ w * k + w * m
mul_split w zero m = omega arith
mul_split w (suc k) m = omega (arith, mul_split w k m)

module _ {T : Type 0} (w k : ℕ) (cells : List ℤ) (vs : List T) (even : length cells ≡ w * length vs) (within : k ≤ length vs) where
  pub front_even : length (take (w * k) cells) ≡ w * length (take k vs)
  front_even = length-take-le (w * k) cells (omega (arith, even, place_within w k (length vs) within)) ∙ ap (λ n. w * n) (sym (length-take-le k vs within))

  pub back_even : length (drop (w * k) cells) ≡ w * length (drop k vs)
  back_even =
      let left : length (drop k vs) ≡ length vs - k = length-drop k vs in
      let whole : length vs ≡ k + length (drop k vs) = omega (arith, left, within) in
      omega (arith, length-drop (w * k) cells, even, ap (λ n. w * n) whole, mul_split w k (length (drop k vs)))

  pub cut-flat : flat w (take (w * k) cells) (take k vs) ++ flat w (drop (w * k) cells) (drop k vs) ≡ flat w cells vs
  cut-flat = (λ i. sym (take-flat w cells vs k) i ++ sym (drop-flat w cells vs k) i) ∙ take-append-drop k (flat w cells vs)

-- a piece more
pub one_more : {T : Type 0} (ls : List (List (Row × T))) (x rest : List (Row × T)) → all_of (ls ++ x ∷ []) ++ rest ≡ all_of ls ++ (x ++ rest)
one_more ls x rest =
    ap (λ (es : List _). es ++ rest) (all-append ls (x ∷ []) ∙ ap (λ (es : List _). all_of ls ++ es) (append-nil x))
    ∙ append_assoc (all_of ls) x rest

pub some_more : {T : Type 0} (ls : List (List (Row × T))) (x : List (Row × T)) → AreNotEmpty ls → 0 < length x → AreNotEmpty (ls ++ x ∷ [])
some_more [] x some l = (l, tt)
some_more (y ∷ ls) x some l = (some.0, some_more ls x some.1 l)
