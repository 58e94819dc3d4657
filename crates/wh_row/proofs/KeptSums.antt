-- What is kept while the counts of another bag are added one after another.
use Rattle.std.proofs.Common.{◌≡◌, ◌≢◌, ◌+◌, ◌*◌, ◌≤◌, ◌<◌, refl, sym, ap, subst, ◌∙◌, ℤ, pos, ◌+ℤ◌, true, false, cond, List, [], ◌∷◌, ◌++◌, length, arith, FitsSigned, append_assoc, length-append}
use Rattle.std.proofs.lemmas.List.{append-nil}
use Rattle.std.specs.List.{AllByRecursion}
use Rattle.std.specs.Map.{keys_of}
use Rattle.std.specs.Ordering.{is_eq}
use Rattle.std.specs.Prelude.{unsigned_abs}
use Rattle.std.specs.declared.cmp.Ordering.TheVariants.{Less}
use lib.IntN.{+ℤ_idl, +ℤ_idr}
use mir.Syntax.{w64}
use Rattle.wh_pieces.proofs.PieceLaws.{all_less}
use Rattle.wh_row.specs.declared.kept.Kept.{Kept}
use Rattle.wh_row.specs.Inner.Kept.{one_below, IsKeptOf}
use Rattle.wh_row.specs.Row.{Row, row_cmp, is_row}
use Rattle.wh_row.specs.Weigh.{Counted, count_in}
use Rattle.wh_row.specs.Bag.{Bag, count, set_count, bag_of, sum_of, written, SumFits}
use Rattle.wh_row.proofs.RowLaws.{rows_total, same_row}
use Rattle.wh_row.proofs.CountLaws.{same_bag, count-set_count, count-bag_of, count-sum_of, count_in-append, count_in-written}
use Rattle.wh_row.proofs.WrittenLaws.{rising-written, written_lists, from_entry, of_each_row}
use Rattle.wh_row.proofs.KeptLaws.{has_total, has_below, kept_set, abs_small, one_small}

-- these of the other bag's rows are added, and those are still to come
pub record IsUpTo (b c : Bag) (ys zs : Counted) (kept : Kept) : Type 0 where
  pub parts : ys ++ zs ≡ written c
  pub fits : AllByRecursion (λ (e : Row × ℤ). FitsSigned w64 (count b e.0 +ℤ e.1)) ys
  pub of_sum : IsKeptOf (sum_of b (bag_of ys)) kept
  pub small : kept.total < 85070591730234615865843651857942052864 + length ys * 9223372036854775808
  pub few : kept.below < 9223372036854775808 + length ys

none_in : (q : Row) (ys : Counted) → AllByRecursion (λ (e : Row × ℤ). row_cmp e.0 q ≡ Less) ys → count_in ys q ≡ pos 0
none_in q [] h = refl
none_in q (e ∷ ys) h =
    let apart : is_row q e.0 ≡ false = ap is_eq (rows_total.antisymm q e.0) ∙ ap (λ o. is_eq (Rattle.std.specs.Ordering.ordering_reverse o)) h.0 in
    ap (λ t. cond t e.1 (pos 0) +ℤ count_in ys q) apart ∙ +ℤ_idl (count_in ys q) ∙ none_in q ys h.1

middle : {A : Type 0} (P : A → Type 0) (xs : List A) (x : A) (ys : List A) → AllByRecursion P (xs ++ x ∷ ys) → P x
middle P [] x ys h = h.0
middle P (y ∷ xs) x ys h = middle P xs x ys h.1

pub all_pushed : {A : Type 0} (P : A → Type 0) (xs : List A) (x : A) → AllByRecursion P xs → P x → AllByRecursion P (xs ++ x ∷ [])
all_pushed P [] x h p = (p, tt)
all_pushed P (y ∷ xs) x h p = (h.0, all_pushed P xs x h.1 p)

pub none_yet : (b c : Bag) (kept : Kept) (is : IsKeptOf b kept) → kept.total < 85070591730234615865843651857942052864 → kept.below < 9223372036854775808 → IsUpTo b c [] (written c) kept
none_yet b c kept is t u = record {
  parts = refl;
  fits = tt;
  of_sum = subst (λ (x : Bag). IsKeptOf x kept) (same_bag b (sum_of b (bag_of [])) (λ q. sym (count-sum_of b (bag_of []) q ∙ ap (λ z. count b q +ℤ z) (count-bag_of [] q) ∙ +ℤ_idr (count b q)))) is;
  small = omega (arith, t);
  few = omega (arith, u);
}

module _ (b c : Bag) (ys zs : Counted) (e : Row × ℤ) (kept : Kept) (h : IsUpTo b c ys (e ∷ zs) kept) where
  unseen : count_in ys e.0 ≡ pos 0
  unseen = none_in e.0 ys (all_less ys (e ∷ zs) e.0 (subst (λ (es : Counted). Rattle.wh_pieces.specs.Place.AreRisingRows es) (sym h.parts) (rising-written c)) refl)

  pub as_before : count (sum_of b (bag_of ys)) e.0 ≡ count b e.0
  as_before = count-sum_of b (bag_of ys) e.0 ∙ ap (λ z. count b e.0 +ℤ z) (count-bag_of ys e.0 ∙ unseen) ∙ +ℤ_idr (count b e.0)

  pub before_total : unsigned_abs (count b e.0) ≤ kept.total
  before_total = subst (λ (z : ℤ). unsigned_abs z ≤ kept.total) as_before (has_total (sum_of b (bag_of ys)) kept e.0 h.of_sum)

  pub before_below : one_below (count b e.0) ≤ kept.below
  before_below = subst (λ (z : ℤ). one_below z ≤ kept.below) as_before (has_below (sum_of b (bag_of ys)) kept e.0 h.of_sum)

  -- the row counts in the other bag what stands there
  counted : count c e.0 ≡ e.1
  counted = (middle (λ (x : Row × ℤ). (count c x.0 ≡ x.1) × (x.1 ≢ pos 0)) ys e zs (subst (λ (es : Counted). AllByRecursion (λ (x : Row × ℤ). (count c x.0 ≡ x.1) × (x.1 ≢ pos 0)) es) (sym h.parts) (written_lists c).counted)).0

  pub too_large : ¬ (FitsSigned w64 (count b e.0 +ℤ e.1)) → ¬ (SumFits b c)
  too_large large fits = large (subst (λ (z : ℤ). FitsSigned w64 (count b e.0 +ℤ z)) counted (fits e.0))

  summed : sum_of b (bag_of (ys ++ e ∷ [])) ≡ set_count (sum_of b (bag_of ys)) e.0 (count b e.0 +ℤ e.1)
  summed = same_bag _ _ (λ q.
      count-sum_of b (bag_of (ys ++ e ∷ [])) q
      ∙ ap (λ z. count b q +ℤ z) (count-bag_of (ys ++ e ∷ []) q ∙ count_in-append ys (e ∷ []) q ∙ ap (λ z. count_in ys q +ℤ z) (+ℤ_idr (cond (is_row q e.0) e.1 (pos 0))))
      ∙ elim (is_row q e.0) as (λ t. is_row q e.0 ≡ t → count b q +ℤ (count_in ys q +ℤ cond t e.1 (pos 0)) ≡ cond t (count b e.0 +ℤ e.1) (count (sum_of b (bag_of ys)) q)) [
        | true ↦ λ t.
            let same = same_row q e.0 t in
            ap (λ x. count b x +ℤ (count_in ys x +ℤ e.1)) same ∙ ap (λ z. count b e.0 +ℤ (z +ℤ e.1)) unseen ∙ ap (λ z. count b e.0 +ℤ z) (+ℤ_idl e.1)
        | false ↦ λ t. ap (λ z. count b q +ℤ z) (+ℤ_idr (count_in ys q)) ∙ sym (count-sum_of b (bag_of ys) q ∙ ap (λ z. count b q +ℤ z) (count-bag_of ys q))
      ] refl
      ∙ sym (count-set_count (sum_of b (bag_of ys)) e.0 (count b e.0 +ℤ e.1) q))

  pub one_more : (k : Kept) → FitsSigned w64 (count b e.0 +ℤ e.1)
      → k.total + unsigned_abs (count b e.0) ≡ kept.total + unsigned_abs (count b e.0 +ℤ e.1)
      → k.below + one_below (count b e.0) ≡ kept.below + one_below (count b e.0 +ℤ e.1)
      → IsUpTo b c (ys ++ e ∷ []) zs k
  one_more k fits t u =
      let n = count b e.0 +ℤ e.1 in
      let ta = ap unsigned_abs as_before in
      let ua = ap one_below as_before in
      let len = length-append ys (e ∷ []) in
      let a = abs_small n fits in
      let o = one_small n in
      record {
        parts = append_assoc ys (e ∷ []) zs ∙ h.parts;
        fits = all_pushed (λ (x : Row × ℤ). FitsSigned w64 (count b x.0 +ℤ x.1)) ys e h.fits fits;
        of_sum = subst (λ (x : Bag). IsKeptOf x k) (sym summed) (kept_set (sum_of b (bag_of ys)) kept e.0 h.of_sum k n (omega (arith, t, ta)) (omega (arith, u, ua)));
        small = omega (arith, t, a, len, h.small);
        few = omega (arith, u, o, len, h.few);
      }

module _ (b c : Bag) (ys zs : Counted) (kept : Kept) (h : IsUpTo b c ys zs kept) (none : zs ≡ []) where
  whole : ys ≡ written c
  whole = sym (append-nil ys) ∙ ap (λ (es : Counted). ys ++ es) (sym none) ∙ h.parts

  pub all_fit : ((q : Row) → FitsSigned w64 (count b q)) → SumFits b c
  all_fit own q = of_each_row (λ q n. FitsSigned w64 (count b q +ℤ n)) c (λ q. subst (FitsSigned w64) (sym (+ℤ_idr (count b q))) (own q))
      (from_entry (λ q n. FitsSigned w64 (count b q +ℤ n)) c (subst (λ (es : Counted). AllByRecursion (λ (e : Row × ℤ). FitsSigned w64 (count b e.0 +ℤ e.1)) es) whole h.fits)) q

  pub all_kept : IsKeptOf (sum_of b c) kept
  all_kept = subst (λ (x : Bag). IsKeptOf x kept) (same_bag (sum_of b (bag_of ys)) (sum_of b c) (λ q.
      count-sum_of b (bag_of ys) q ∙ ap (λ z. count b q +ℤ z) (count-bag_of ys q ∙ ap (λ (es : Counted). count_in es q) whole ∙ count_in-written c q) ∙ sym (count-sum_of b c q))) h.of_sum
