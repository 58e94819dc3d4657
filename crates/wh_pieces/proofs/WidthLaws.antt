-- Whether all rows have one width.
use Rattle.std.proofs.Common.{◌≡◌, ◌≢◌, refl, sym, subst, ◌∙◌, ℕ, suc, ◌*◌, ◌<◌, ℤ, List, [], ◌∷◌, ◌++◌, length, take, drop, arith, length-drop}
use Rattle.std.proofs.lemmas.List.{length-take-le}
use Rattle.wh_pieces.specs.Row.{Row}
use Rattle.wh_pieces.specs.Flat.{flat}
use Rattle.wh_pieces.specs.Pieces.{AreWide, all_of}
use Rattle.wh_pieces.specs.Inner.Pieces.{piece_at}
use Rattle.wh_pieces.proofs.PieceLaws.{all-split}

pub flat_wide : {T : Type 0} (w : ℕ) (cells : List ℤ) (vs : List T) → length cells ≡ w * length vs → AreWide w (flat w cells vs)
flat_wide w cells [] e = tt
flat_wide w cells (v ∷ vs) e = (length-take-le w cells (omega arith), flat_wide w (drop w cells) vs (omega (arith, length-drop w cells)))

-- and no other
pub flat_width : {T : Type 0} (w u : ℕ) (cells : List ℤ) (vs : List T) → length cells ≡ w * length vs → 0 < length vs → AreWide u (flat w cells vs) → w ≡ u
flat_width w u cells [] e some wide = absurd (omega arith)
flat_width w u cells (v ∷ vs) e some wide = sym (length-take-le w cells (omega arith)) ∙ wide.0

pub wide-append : {T : Type 0} (w : ℕ) (a b : List (Row × T)) → AreWide w a → AreWide w b → AreWide w (a ++ b)
wide-append w [] b x y = y
wide-append w (e ∷ a) b x y = (x.0, wide-append w a b x.1 y)

wide-front : {T : Type 0} (w : ℕ) (a b : List (Row × T)) → AreWide w (a ++ b) → AreWide w a
wide-front w [] b x = tt
wide-front w (e ∷ a) b x = (x.0, wide-front w a b x.1)

wide-back : {T : Type 0} (w : ℕ) (a b : List (Row × T)) → AreWide w (a ++ b) → AreWide w b
wide-back w [] b x = x
wide-back w (e ∷ a) b x = wide-back w a b x.1

-- all rows have a width where those of each piece have
pub wide-piece : {T : Type 0} (w : ℕ) (ls : List (List (Row × T))) (nth : ℕ) → nth < length ls → AreWide w (all_of ls) → AreWide w (piece_at ls nth)
wide-piece w ls nth within wide =
    wide-front w (piece_at ls nth) (all_of (drop (suc nth) ls)) (wide-back w (all_of (take nth ls)) _ (subst (AreWide w) (all-split ls nth within) wide))

pub none_wide : {T : Type 0} (w u : ℕ) (cells : List ℤ) (vs : List T) → length vs ≡ 0 → AreWide u (flat w cells vs)
none_wide w u cells [] e = tt
none_wide w u cells (v ∷ vs) e = absurd (omega arith)

pub none_or_width : {T : Type 0} (w u : ℕ) (cells : List ℤ) (vs : List T) → length cells ≡ w * length vs → w ≢ u → AreWide u (flat w cells vs) → length vs ≡ 0
none_or_width w u cells [] e other wide = refl
none_or_width w u cells (v ∷ vs) e other wide = absurd (other (flat_width w u cells (v ∷ vs) e (omega arith) wide))
