-- Records that are gone through once before a bag is made of them all.
use Rattle.std.proofs.Common.{◌≡◌, ◌≢◌, ◌+◌, sym, ap, subst, ◌∙◌, ℕ, ℤ, pos, [], ◌∷◌, ◌++◌, take, Some, slice_get, add-one, FitsSigned}
use Rattle.std.proofs.lemmas.List.Sums.{sum_by_push}
use Rattle.std.specs.List.{sum_by}
use Rattle.std.specs.List.Sorted.{IsStrictlySortedBy}
use Rattle.std.specs.declared.cmp.Ordering.TheVariants.{Less, Greater}
use mir.Syntax.{w64}
use Rattle.wh_pieces.specs.Place.{AreRisingRows, IsAbove}
use Rattle.wh_pieces.proofs.OrderLaws.{turned, still_above}
use Rattle.wh_pieces.proofs.PieceLaws.{rising-pushed}
use Rattle.wh_row.specs.Row.{Row, row_cmp}
use Rattle.wh_row.specs.Weigh.{Counted}
use Rattle.wh_row.specs.Inner.Stored.{AreCounts}
use Rattle.wh_row.proofs.KeptSums.{all_pushed}
use Rattle.wh_row.proofs.RunningSums.{next_taken}

-- a row above this one is above each of these
abbrev pub IsHighest : Row → Counted → Type 0
IsHighest last es = (row : Row) → row_cmp row last ≡ Greater → IsAbove row es

pub none_rise : (es : Counted) → es ≡ [] → AreRisingRows es
unfolding IsStrictlySortedBy
none_rise es none = subst (λ (xs : Counted). AreRisingRows xs) (sym none) tt

-- ---- the first record

module _ (es : Counted) (e : Row × ℤ) (is : slice_get es 0 ≡ Some e) where
  pub first_rises : AreRisingRows (take 1 es)
  unfolding IsStrictlySortedBy
  first_rises = subst (λ (xs : Counted). AreRisingRows xs) (sym (next_taken es 0 e is)) (tt, tt)

  pub first_highest : IsHighest e.0 (take 1 es)
  first_highest row h = subst (λ (xs : Counted). IsAbove row xs) (sym (next_taken es 0 e is)) (h, tt)

-- ---- one record more

module _ (es : Counted) (p : ℕ) (e : Row × ℤ) (is : slice_get es p ≡ Some e) where
  taken : take (p + 1) es ≡ take p es ++ e ∷ []
  taken = ap (λ n. take n es) (add-one p) ∙ next_taken es p e is

  pub next_rises : (last : Row) → row_cmp last e.0 ≡ Less → IsHighest last (take p es) → AreRisingRows (take p es) → AreRisingRows (take (p + 1) es)
  next_rises last below highest rising = subst (λ (xs : Counted). AreRisingRows xs) (sym taken) (rising-pushed e.0 e.1 (take p es) (highest e.0 (turned last e.0 Less below)) rising)

  pub next_highest : (last : Row) → row_cmp last e.0 ≡ Less → IsHighest last (take p es) → IsHighest e.0 (take (p + 1) es)
  next_highest last below highest row h =
      subst (λ (xs : Counted). IsAbove row xs) (sym taken)
      (all_pushed (λ (x : Row × ℤ). row_cmp row x.0 ≡ Greater) (take p es) e (highest row (still_above row e.0 last h below)) h)

  pub next_counts : AreCounts (take p es) → (e.1 ≢ pos 0) → FitsSigned w64 e.1 → AreCounts (take (p + 1) es)
  next_counts counts some fits =
      subst (λ (xs : Counted). AreCounts xs) (sym taken)
      (all_pushed (λ (x : Row × ℤ). (x.1 ≢ pos 0) × FitsSigned w64 x.1) (take p es) e counts (some, fits))

  pub next_sum : (f : ℤ → ℕ) → sum_by (λ (x : Row × ℤ). f x.1) (take (p + 1) es) ≡ sum_by (λ (x : Row × ℤ). f x.1) (take p es) + f e.1
  next_sum f = ap (λ (xs : Counted). sum_by (λ (x : Row × ℤ). f x.1) xs) taken ∙ sum_by_push (λ (x : Row × ℤ). f x.1) (take p es) e
