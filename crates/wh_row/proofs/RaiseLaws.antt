-- More that is added to what a row counts by one search, at either width.
use Rattle.std.proofs.Common.{◌≡◌, ◌≢◌, refl, sym, ap, subst, ◌∙◌, ℤ, pos, ◌+ℤ◌, Option, Some, None, unwrap_or, FitsSigned, to_z, of_z, to_z-of_z}
use lib.IntN.{+ℤ_idl}
use Rattle.std.specs.Int.{Width}
use Rattle.wh_pieces.specs.Pieces.{found, with_entry, remade}
use Rattle.wh_row.specs.Row.{Row}
use Rattle.wh_row.specs.Weigh.{Counted}
use Rattle.wh_row.specs.Bag.{Bag, count, set_count, plus}
use Rattle.wh_row.specs.Inner.Room.{IsRaised, unless_zero}
use Rattle.wh_row.specs.Stored.{from_counts}
use Rattle.wh_row.specs.Inner.Stored.{AreCountsIn}
use Rattle.wh_row.proofs.CountLaws.{set_same}
use Rattle.wh_row.proofs.MapLaws.{from_counts-with, from_counts-without, counts-with, counts-without, found_counts, seen_count, or-unless_zero, some-unless_zero}

-- ---- a row with what is made of it

from_counts-remade : (es fs : Counted) (r : Row) (o : Option ℤ) → fs ≡ remade es r o → found r fs ≡ o → from_counts fs ≡ set_count (from_counts es) r (unwrap_or o (pos 0))
from_counts-remade es fs r None is there = from_counts-without es fs r is there
from_counts-remade es fs r (Some v) is there = ap from_counts is ∙ from_counts-with es r v

counts-remade : (w : Width) (es fs : Counted) (r : Row) (o : Option ℤ) → fs ≡ remade es r o → AreCountsIn w es → ((z : ℤ) → o ≡ Some z → (z ≢ pos 0) × FitsSigned w z) → AreCountsIn w fs
counts-remade w es fs r None is counts each = subst (λ (xs : Counted). AreCountsIn w xs) (sym is) (counts-without w es r counts)
counts-remade w es fs r (Some v) is counts each = subst (λ (xs : Counted). AreCountsIn w xs) (sym is) (counts-with w es r v counts (each v refl))

-- ---- the entries that the code makes

-- the numbers are counts, and those of this bag
abbrev pub AreCountsOf : Width → Counted → Bag → Type 0
AreCountsOf w es b = AreCountsIn w es × (from_counts es ≡ b)

module _ (w : Width) (es fs : Counted) (b : Bag) (row : Row) (more : ℤ) (allowed : ℤ → Option ℤ → Type 0)
    (tells : (n : ℤ) (o : Option ℤ) → allowed n o → FitsSigned w n → IsRaised w n more o) (seen : from_counts es ≡ b) (counts : AreCountsIn w es) (some : more ≢ pos 0) (fits : FitsSigned w more)
    (new : found row es ≡ None → fs ≡ with_entry es row (to_z w (of_z w more)))
    (there : (n : ℤ) → found row es ≡ Some n → (o : Option ℤ) × allowed n o × (fs ≡ remade es row o) × (found row fs ≡ o)) where
  before : (o : Option ℤ) → found row es ≡ o → unwrap_or o (pos 0) ≡ count b row
  before o is = sym (ap (λ x. unwrap_or x (pos 0)) is) ∙ seen_count es b row seen

  -- a row that is new counts as much
  sum_of_none : found row es ≡ None → more ≡ count b row +ℤ more
  sum_of_none is = sym (+ℤ_idl more) ∙ ap (λ z. z +ℤ more) (before None is)

  summed : (o : Option ℤ) → found row es ≡ o → FitsSigned w (count b row +ℤ more) → AreCountsOf w fs (plus b row more)
  summed None is sum_fits =
      let entry : fs ≡ with_entry es row more = new is ∙ ap (with_entry es row) (to_z-of_z fits) in (
        subst (λ (xs : Counted). AreCountsIn w xs) (sym entry) (counts-with w es row more counts (some, fits)),
        ap from_counts entry ∙ from_counts-with es row more ∙ (λ i. set_count (seen i) row (sum_of_none is i)),
      )
  summed (Some n) is sum_fits =
      let told = there n is in
      let here : FitsSigned w (n +ℤ more) = subst (λ z. FitsSigned w (z +ℤ more)) (sym (before (Some n) is)) sum_fits in
      let made : told.0 ≡ unless_zero (n +ℤ more) = (tells n told.0 told.1 (found_counts w es counts row n is).1).sum here in
      let value : unwrap_or told.0 (pos 0) ≡ count b row +ℤ more = ap (λ o. unwrap_or o (pos 0)) made ∙ or-unless_zero (n +ℤ more) ∙ ap (λ z. z +ℤ more) (before (Some n) is) in (
        counts-remade w es fs row told.0 told.2 counts (λ z e. let x = some-unless_zero (n +ℤ more) z (sym made ∙ e) in (x.1, subst (FitsSigned w) x.0 here)),
        from_counts-remade es fs row told.0 told.2 told.3 ∙ (λ i. set_count (seen i) row (value i)),
      )

  kept : (o : Option ℤ) → found row es ≡ o → ¬ (FitsSigned w (count b row +ℤ more)) → AreCountsOf w fs b
  kept None is large = absurd (large (subst (FitsSigned w) (sum_of_none is) fits))
  kept (Some n) is large =
      let told = there n is in
      let stood = found_counts w es counts row n is in
      let made : told.0 ≡ Some n = (tells n told.0 told.1 stood.1).large (λ here. large (subst (λ z. FitsSigned w (z +ℤ more)) (before (Some n) is) here)) in
      let value : unwrap_or told.0 (pos 0) ≡ count b row = ap (λ o. unwrap_or o (pos 0)) made ∙ before (Some n) is in (
        counts-remade w es fs row told.0 told.2 counts (λ z e. let both : Some n ≡ Some z = sym made ∙ e in let same : n ≡ z = cc in subst (λ (x : ℤ). (x ≢ pos 0) × FitsSigned w x) same stood),
        from_counts-remade es fs row told.0 told.2 told.3 ∙ (λ i. set_count (seen i) row (value i)) ∙ set_same b row,
      )

  pub raised_sum : FitsSigned w (count b row +ℤ more) → AreCountsOf w fs (plus b row more)
  raised_sum = summed (found row es) refl

  pub raised_large : ¬ (FitsSigned w (count b row +ℤ more)) → AreCountsOf w fs b
  raised_large = kept (found row es) refl

-- ---- the sum that the code looks at

module _ (w : Width) (es : Counted) (b : Bag) (row : Row) (stood : Option ℤ) (before more : ℤ) (is : before ≡ unwrap_or stood (pos 0)) (gives : stood ≡ found row es) (seen : from_counts es ≡ b)
    (g : FitsSigned w before) (f : FitsSigned w more) where
  pub counted_before : to_z w (of_z w before) ≡ count b row
  counted_before = to_z-of_z g ∙ is ∙ ap (λ o. unwrap_or o (pos 0)) gives ∙ seen_count es b row seen

  pub summed_there : to_z w (of_z w before) +ℤ to_z w (of_z w more) ≡ count b row +ℤ more
  summed_there i = counted_before i +ℤ to_z-of_z f i
