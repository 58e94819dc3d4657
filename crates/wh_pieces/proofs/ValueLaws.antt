-- The same rows with other values.
use Rattle.std.proofs.Common.{◌≡◌, refl, sym, ap, subst, ℕ, suc, ◌+◌, ℤ, List, [], ◌∷◌, ◌++◌, length, take, drop, arith}
use Rattle.wh_pieces.specs.Flat.{flat}
use Rattle.std.specs.List.Sorted.{IsStrictlySortedBy}
use Rattle.std.specs.Map.{keys_of}
use Rattle.wh_pieces.specs.Row.{Row, row_cmp}
use Rattle.wh_pieces.specs.Pieces.{AreRevalued, all_of}
use Rattle.wh_pieces.specs.Inner.Pieces.{AreMade, AreNotEmpty, AreCounted}

-- ---- one piece

pub made_more : {T U : Type 0} (P : T → U → Type 0) (ts : List T) (us : List U) (i : ℕ) (t : T) (u : U) → take (i + 1) ts ≡ take i ts ++ t ∷ [] → AreMade P (take i ts) us → P t u → AreMade P (take (i + 1) ts) (us ++ u ∷ [])
made_more {T} {U} P ts us i t u next made p = subst (λ (xs : List T). AreMade P xs (us ++ u ∷ [])) (sym next) (behind (take i ts) us made)
  where
    behind : (xs : List T) (ys : List U) → AreMade P xs ys → AreMade P (xs ++ t ∷ []) (ys ++ u ∷ [])
    behind [] [] m = (p, tt)
    behind [] (y ∷ ys) m = absurd m
    behind (x ∷ xs) [] m = absurd m
    behind (x ∷ xs) (y ∷ ys) m = (m.0, behind xs ys m.1)

pub made_length : {T U : Type 0} (P : T → U → Type 0) (ts : List T) (us : List U) → AreMade P ts us → length us ≡ length ts
made_length P [] [] m = refl
made_length P [] (u ∷ us) m = absurd m
made_length P (t ∷ ts) [] m = absurd m
made_length P (t ∷ ts) (u ∷ us) m = ap suc (made_length P ts us m.1)

pub flat_made : {T U : Type 0} (P : T → U → Type 0) (w : ℕ) (cells : List ℤ) (ts : List T) (us : List U) → AreMade P ts us → AreRevalued P (flat w cells ts) (flat w cells us)
flat_made P w cells [] [] m = tt
flat_made P w cells [] (u ∷ us) m = absurd m
flat_made P w cells (t ∷ ts) [] m = absurd m
flat_made P w cells (t ∷ ts) (u ∷ us) m = (refl, m.0, flat_made P w (drop w cells) ts us m.1)

-- ---- all pieces

pub revalued_append : {T U : Type 0} (P : T → U → Type 0) (es gs : List (Row × T)) (fs hs : List (Row × U)) → AreRevalued P es fs → AreRevalued P gs hs → AreRevalued P (es ++ gs) (fs ++ hs)
revalued_append P [] gs [] hs a b = b
revalued_append P [] gs (f ∷ fs) hs a b = absurd a
revalued_append P (e ∷ es) gs [] hs a b = absurd a
revalued_append P (e ∷ es) gs (f ∷ fs) hs a b = (a.0, a.1, revalued_append P es gs fs hs a.2 b)

pub all_revalued : {T U : Type 0} (P : T → U → Type 0) (ls : List (List (Row × T))) (ms : List (List (Row × U))) → AreMade (AreRevalued P) ls ms → AreRevalued P (all_of ls) (all_of ms)
all_revalued P [] [] a = tt
all_revalued P [] (m ∷ ms) a = absurd a
all_revalued P (l ∷ ls) [] a = absurd a
all_revalued P (l ∷ ls) (m ∷ ms) a = revalued_append P l (all_of ls) m (all_of ms) a.0 (all_revalued P ls ms a.1)

revalued_length : {T U : Type 0} (P : T → U → Type 0) (es : List (Row × T)) (fs : List (Row × U)) → AreRevalued P es fs → length fs ≡ length es
revalued_length P [] [] a = refl
revalued_length P [] (f ∷ fs) a = absurd a
revalued_length P (e ∷ es) [] a = absurd a
revalued_length P (e ∷ es) (f ∷ fs) a = ap suc (revalued_length P es fs a.2)

-- ---- their order

keys_same : {T U : Type 0} (P : T → U → Type 0) (es : List (Row × T)) (fs : List (Row × U)) → AreRevalued P es fs → keys_of fs ≡ keys_of es
keys_same P [] [] a = refl
keys_same P [] (f ∷ fs) a = absurd a
keys_same P (e ∷ es) [] a = absurd a
keys_same P (e ∷ es) (f ∷ fs) a = λ i. a.0 i ∷ keys_same P es fs a.2 i

some_revalued : {T U : Type 0} (P : T → U → Type 0) (ls : List (List (Row × T))) (ms : List (List (Row × U))) → AreMade (AreRevalued P) ls ms → AreNotEmpty ls → AreNotEmpty ms
some_revalued P [] [] a some = tt
some_revalued P [] (m ∷ ms) a some = absurd a
some_revalued P (l ∷ ls) [] a some = absurd a
some_revalued P (l ∷ ls) (m ∷ ms) a some = (omega (arith, revalued_length P l m a.0, some.0), some_revalued P ls ms a.1 some.1)

pub counted_revalued : {T U : Type 0} (P : T → U → Type 0) (ls : List (List (Row × T))) (ms : List (List (Row × U))) (count : ℕ) → AreMade (AreRevalued P) ls ms → AreCounted ls count → AreCounted ms count
counted_revalued P ls ms count a c =
    let all = all_revalued P ls ms a in
    record {
      pieces = record {
        rising = subst (λ (rows : List Row). IsStrictlySortedBy row_cmp rows) (sym (keys_same P (all_of ls) (all_of ms) all)) c.pieces.rising;
        some = some_revalued P ls ms a c.pieces.some;
      };
      exact = omega (arith, c.exact, revalued_length P (all_of ls) (all_of ms) all);
      small = c.small;
    }
