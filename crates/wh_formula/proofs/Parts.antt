-- The parts of a test, one by one.
use Rattle.std.proofs.Common.{◌≡◌, ◌<◌, ◌≤◌, ℕ, zero, suc, List, [], ◌∷◌, length, get_or, Bool, true, false, ◌&&◌, All, arith, IsTrue, refl, sym, subst}
use Rattle.wh_formula.specs.Pred.{PredTree, parts_of, depth, most_levels, fits, all_fit}

depth_at : (ps : List PredTree) (i : ℕ) (d : PredTree) → i < length ps → depth (get_or ps i d) ≤ most_levels (parts_of ps)
depth_at [] i d h = absurd (omega arith)
depth_at (p ∷ ps) zero d h = omega arith
depth_at (p ∷ ps) (suc i) d h = omega (arith, depth_at ps i d (omega arith))

-- no part has more levels than the deepest
pub depth_of_part : (ps : List PredTree) (i : ℕ) (p : PredTree) → i < length ps → p ≡ get_or ps i p → depth p ≤ most_levels (parts_of ps)
depth_of_part ps i p h e = subst (λ (q : PredTree). depth q ≤ most_levels (parts_of ps)) (sym e) (depth_at ps i p h)

both : (a b : Bool) → IsTrue (a && b) → IsTrue a × IsTrue b
both true b h = (refl, h)
both false b h = cc

fits_at : (width : ℕ) (ps : List PredTree) (i : ℕ) (d : PredTree) → i < length ps → IsTrue (all_fit width (parts_of ps)) → IsTrue (fits width (get_or ps i d))
fits_at width [] i d h t = absurd (omega arith)
fits_at width (p ∷ ps) zero d h t = (both (fits width p) (all_fit width (parts_of ps)) t).0
fits_at width (p ∷ ps) (suc i) d h t =
    fits_at width ps i d (omega arith) (both (fits width p) (all_fit width (parts_of ps)) t).1

-- where all parts fit, each does
pub fits_of_part : (width : ℕ) (ps : List PredTree) (i : ℕ) (p : PredTree) → i < length ps → p ≡ get_or ps i p → IsTrue (all_fit width (parts_of ps)) → IsTrue (fits width p)
fits_of_part width ps i p h e t = subst (λ (q : PredTree). IsTrue (fits width q)) (sym e) (fits_at width ps i p h t)

-- where each part has fewer levels than this, so has the deepest
pub most_levels-below : (ps : List PredTree) (n : ℕ) → All (λ p. depth p < n) ps → 0 < n → most_levels (parts_of ps) < n
most_levels-below [] n h z = z
most_levels-below (p ∷ ps) n h z =
    omega (arith, h 0 p (omega arith), most_levels-below ps n (λ k d l. h (suc k) d (omega arith)) z)
