-- A bag behind another whose rows are all below its own.
use Rattle.std.proofs.Common.{◌≡◌, ◌≢◌, ◌+◌, refl, sym, ap, subst, ◌∙◌, ℕ, ℤ, pos, [], ◌∷◌, ◌++◌, unwrap_or, FitsSigned, arith}
use Rattle.std.proofs.lemmas.Int.{ints}
use Rattle.std.proofs.lemmas.List.Sums.{sum_by-append}
use Rattle.std.specs.List.{sum_by}
use Rattle.std.specs.Prelude.{unsigned_abs}
use mir.Syntax.{w64}
use Rattle.std.specs.Int.{Width}
use Rattle.wh_pieces.specs.Place.{AreRisingRows}
use Rattle.wh_pieces.proofs.PieceLaws.{rising-front, rising-back}
use Rattle.wh_pieces.proofs.MergeLaws.{above_front}
use Rattle.wh_pieces.proofs.LastLaws.{found_above}
use Rattle.wh_row.specs.Row.{Row}
use Rattle.wh_row.specs.Weigh.{Counted, count_in}
use Rattle.wh_row.specs.Bag.{Bag, count, bag_of, written, sum_of, SumFits, HasRowsOf}
use Rattle.wh_row.specs.Stored.{from_counts}
use Rattle.wh_row.specs.declared.kept.Kept.{Kept}
use Rattle.wh_row.specs.Inner.Stored.{AreCountsIn, AreCounts}
use Rattle.wh_row.specs.Inner.Kept.{IsKeptOf, one_below}
use Rattle.wh_row.proofs.CountLaws.{same_bag, count-bag_of, count_in-written, count-sum_of}
use Rattle.wh_row.proofs.MapLaws.{written-from_counts, fits-from_counts, count-from_counts}
use Rattle.wh_pieces.proofs.BringLaws.{found_first}

counts-append : (w : Width) (es fs : Counted) → AreCountsIn w es → AreCountsIn w fs → AreCountsIn w (es ++ fs)
counts-append w [] fs h k = k
counts-append w (e ∷ es) fs h k = (h.0, counts-append w es fs h.1 k)

-- the rows that two bags are written as are those that they are kept as
pub as_kept : (w : Width) (es fs : Counted) (mine others : Bag) → from_counts es ≡ mine → from_counts fs ≡ others → AreRisingRows es → AreRisingRows fs → AreCountsIn w es → AreCountsIn w fs → written mine ++ written others ≡ es ++ fs
as_kept w es fs mine others is of rising more h k =
    let one : written mine ≡ es = ap written (sym is) ∙ written-from_counts w es rising h in
    let two : written others ≡ fs = ap written (sym of) ∙ written-from_counts w fs more k in
    λ i. one i ++ two i

module _ (w : Width) (es fs : Counted) (mine others : Bag) (is : from_counts es ≡ mine) (of : from_counts fs ≡ others) (rising : AreRisingRows (es ++ fs)) (h : AreCountsIn w es) (k : AreCountsIn w fs) where
  pub joined_counts : AreCountsIn w (es ++ fs)
  joined_counts = counts-append w es fs h k

  all_listed : written (from_counts (es ++ fs)) ≡ es ++ fs
  all_listed = written-from_counts w (es ++ fs) rising joined_counts

  mine_listed : written mine ≡ es
  mine_listed = ap written (sym is) ∙ written-from_counts w es (rising-front es fs rising) h

  others_listed : written others ≡ fs
  others_listed = ap written (sym of) ∙ written-from_counts w fs (rising-back es fs rising) k

  pub joined_sum : from_counts (es ++ fs) ≡ sum_of mine others
  joined_sum =
      same_bag (from_counts (es ++ fs)) (bag_of (es ++ fs)) (λ q. sym (count_in-written (from_counts (es ++ fs)) q) ∙ ap (λ (xs : Counted). count_in xs q) all_listed ∙ sym (count-bag_of (es ++ fs) q))
      ∙ (λ i. bag_of (sym mine_listed i ++ sym others_listed i))

  together : (f : ℤ → ℕ) → sum_by (λ (e : Row × ℤ). f e.1) (written (from_counts (es ++ fs))) ≡ sum_by (λ (e : Row × ℤ). f e.1) (written mine) + sum_by (λ (e : Row × ℤ). f e.1) (written others)
  together f =
      ap (λ (xs : Counted). sum_by (λ (e : Row × ℤ). f e.1) xs) all_listed
      ∙ sum_by-append (λ (e : Row × ℤ). f e.1) es fs
      ∙ (λ i. sum_by (λ (e : Row × ℤ). f e.1) (sym mine_listed i) + sum_by (λ (e : Row × ℤ). f e.1) (sym others_listed i))

  pub joined_kept : (a b both : Kept) → IsKeptOf mine a → IsKeptOf others b → both.total ≡ a.total + b.total → both.below ≡ a.below + b.below → IsKeptOf (from_counts (es ++ fs)) both
  joined_kept a b both p q total below = record {
    total = omega (arith, total, p.total, q.total, together unsigned_abs);
    below = omega (arith, below, p.below, q.below, together one_below);
  }

module _ (es fs : Counted) (mine others : Bag) (is : from_counts es ≡ mine) (of : from_counts fs ≡ others) (rising : AreRisingRows (es ++ fs)) (h : AreCounts es) (k : AreCounts fs) where
  pub joined_fits : SumFits mine others
  joined_fits row =
      subst (FitsSigned w64) (ap (λ b. count b row) (joined_sum w64 es fs mine others is of rising h k) ∙ count-sum_of mine others row)
      (fits-from_counts w64 (omega (arith, ints)) (es ++ fs) (joined_counts w64 es fs mine others is of rising h k) row)

module _ (w : Width) (es : Counted) (mine others : Bag) (is : from_counts es ≡ mine) where
  pub joined_new : (fs : Counted) → from_counts fs ≡ others → AreRisingRows (es ++ fs) → AreCountsIn w fs → fs ≢ [] → ¬ (HasRowsOf mine others)
  joined_new [] of rising k some has = some refl
  joined_new (e ∷ fs) of rising k some has =
      let there : count others e.0 ≡ e.1 = ap (λ b. count b e.0) (sym of) ∙ count-from_counts (e ∷ fs) e.0 ∙ ap (λ o. unwrap_or o (pos 0)) (found_first e fs) in
      let not_here : count mine e.0 ≡ pos 0 = ap (λ b. count b e.0) (sym is) ∙ count-from_counts es e.0 ∙ ap (λ o. unwrap_or o (pos 0)) (found_above e.0 es (above_front es e fs rising)) in
      has e.0 (λ none. k.0.0 (sym there ∙ none)) not_here
