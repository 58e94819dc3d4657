-- Where no table has a negative count, no column 0 has one, and the other columns are 0 where it is.
use Rattle.std.proofs.Common.{◌≡◌, ℕ, zero, suc, refl, sym, ap, subst, ◌∙◌, ℤ, pos, negsuc, ◌+ℤ◌, ◌*ℤ◌, Bool, true, false, cond, List, [], ◌∷◌, ◌++◌, map, Some, None, arith}
use Rattle.std.specs.Prelude.{◌≤ℤ◌}
use Rattle.std.specs.List.{AllByRecursion, flat_map}
use Rattle.std.proofs.lemmas.Int.{ints}
use Rattle.wh_dag.specs.Shape.{has}
use Rattle.wh_row.specs.Row.{Row, is_row}
use Rattle.wh_row.specs.Weigh.{Counted, weigh, count_in}
use Rattle.wh_row.specs.Bag.{Bag, IsTable, written, count}
use Rattle.wh_row.proofs.Ring.{mul-assoc}
use Rattle.wh_row.proofs.BagLaws.{each_entry}
use Rattle.wh_maint.specs.Product.{beside, product}
use Rattle.wh_maint.specs.View.{View, Joined, Summed, column, weight_of}
use Rattle.wh_maint.specs.Inner.Share.{row_test, share}
use Rattle.wh_maint.specs.Summary.{shown, summary, if_positive, cells, group_of}
use Rattle.wh_maint.specs.Value.{accumulators, view_value}
use Rattle.wh_maint.specs.SummaryLaws.{AreDetermined}
use Rattle.wh_maint.proofs.Products.{weigh-product}
use Rattle.wh_maint.proofs.Folds.{count-value}
use Rattle.wh_maint.proofs.Telescope.{has_first, has_rest}
use Rattle.wh_maint.proofs.Summaries.{count-summary}
use lib.IntN.{*ℤ-one, *ℤ-zero, *ℤ_comm, one}

-- no negative number
abbrev pub IsCount : ℤ → Type 0
IsCount (pos n) = Unit {0}
IsCount (negsuc n) = ⊥

pub as_count : (n : ℤ) → pos 0 ≤ℤ n → IsCount n
as_count (pos n) l = tt
as_count (negsuc n) l = absurd (omega (arith, ints))

pub from_count : (n : ℤ) → IsCount n → pos 0 ≤ℤ n
from_count (pos n) c = omega (arith, ints)
from_count (negsuc n) c = absurd c

pub add_counts : (a b : ℤ) → IsCount a → IsCount b → IsCount (a +ℤ b)
add_counts (pos m) (pos n) x y = tt
add_counts (pos m) (negsuc n) x y = absurd y
add_counts (negsuc m) b x y = absurd x

mul_counts : (a b : ℤ) → IsCount a → IsCount b → IsCount (a *ℤ b)
mul_counts (pos m) (pos n) x y = tt
mul_counts (pos m) (negsuc n) x y = absurd y
mul_counts (negsuc m) b x y = absurd x

both_zero : (a b : ℤ) → IsCount a → IsCount b → a +ℤ b ≡ pos 0 → (a ≡ pos 0) × (b ≡ pos 0)
both_zero (pos m) (pos n) x y e = (omega (arith, ints), omega (arith, ints))
both_zero (pos m) (negsuc n) x y e = absurd y
both_zero (negsuc m) b x y e = absurd x

-- ---- products

abbrev pub AllCounts : Counted → Type 0
AllCounts es = AllByRecursion (λ (e : Row × ℤ). IsCount e.1) es

written_counts : (b : Bag) → IsTable b → AllCounts (written b)
written_counts b h = each_entry (λ q n. IsCount n) b (λ q n. as_count (count b q) (h q))

append_counts : (xs ys : Counted) → AllCounts xs → AllCounts ys → AllCounts (xs ++ ys)
append_counts [] ys a b = b
append_counts (x ∷ xs) ys a b = (a.0, append_counts xs ys a.1 b)

beside_counts : (e : Row × ℤ) (fs : Counted) → IsCount e.1 → AllCounts fs → AllCounts (beside e fs)
beside_counts e [] x a = tt
beside_counts e (f ∷ fs) x a = (mul_counts e.1 f.1 x a.0, beside_counts e fs x a.1)

all_beside_counts : (es fs : Counted) → AllCounts es → AllCounts fs → AllCounts (flat_map {X = Row × ℤ} (λ e. beside e fs) es)
all_beside_counts [] fs a b = tt
all_beside_counts (e ∷ es) fs a b = append_counts (beside e fs) (flat_map {X = Row × ℤ} (λ x. beside x fs) es) (beside_counts e fs a.0 b) (all_beside_counts es fs a.1 b)

-- the children's tables have no negative count
abbrev pub AreTables : List ℕ → (ℕ → Bag) → Type 0
AreTables us tables = (u : ℕ) → has us u ≡ true → IsTable (tables u)

pub first_table : (u : ℕ) (us : List ℕ) (tables : ℕ → Bag) → AreTables (u ∷ us) tables → IsTable (tables u)
first_table u us tables h = h u (has_first u us)

pub rest_tables : (u : ℕ) (us : List ℕ) (tables : ℕ → Bag) → AreTables (u ∷ us) tables → AreTables us tables
rest_tables u us tables h v t = h v (has_rest u us v t)

pub product_counts : (us : List ℕ) (tables : ℕ → Bag) → AreTables us tables → AllCounts (product (map written (map tables us)))
product_counts [] tables h = (tt, tt)
product_counts (u ∷ us) tables h =
    all_beside_counts (written (tables u)) (product (map written (map tables us)))
    (written_counts (tables u) (first_table u us tables h))
    (product_counts us tables (rest_tables u us tables h))

weigh_counts : (h : Row → ℤ) → ((r : Row) → IsCount (h r)) → (es : Counted) → AllCounts es → IsCount (weigh h es)
weigh_counts h c [] a = tt
weigh_counts h c (e ∷ es) a = add_counts (e.1 *ℤ h e.0) (weigh h es) (mul_counts e.1 (h e.0) a.0 (c e.0)) (weigh_counts h c es a.1)

zero_times : (n w t : ℤ) → n *ℤ t ≡ pos 0 → n *ℤ (w *ℤ t) ≡ pos 0
zero_times n w t e = sym (mul-assoc n w t) ∙ ap (λ z. z *ℤ t) (*ℤ_comm n w) ∙ mul-assoc w n t ∙ ap (λ z. w *ℤ z) e ∙ *ℤ-zero w

weigh_zero : (h w : Row → ℤ) → ((r : Row) → IsCount (h r)) → (es : Counted) → AllCounts es → weigh h es ≡ pos 0 → weigh (λ r. w r *ℤ h r) es ≡ pos 0
weigh_zero h w c [] a e = refl
weigh_zero h w c (x ∷ es) a e =
    let both = both_zero (x.1 *ℤ h x.0) (weigh h es) (mul_counts x.1 (h x.0) a.0 (c x.0)) (weigh_counts h c es a.1) e in
    λ i. zero_times x.1 (w x.0) (h x.0) both.0 i +ℤ weigh_zero h w c es a.1 both.1 i

-- ---- the accumulators of a view

share_counts : (v : View) (g r : Row) → IsCount (share (column v 0) g r)
share_counts v g r =
    elim (v.passes r) as (λ b. IsCount (cond b (pos 1 *ℤ row_test g (v.goes_to r)) (pos 0))) [
      | true ↦ elim (v.goes_to r) as (λ o. IsCount (pos 1 *ℤ row_test g o)) [
        | None ↦ tt
        | Some s ↦ elim (is_row g s) as (λ t. IsCount (pos 1 *ℤ cond t (pos 1) (pos 0))) [ true ↦ tt | false ↦ tt ]
      ]
      | false ↦ tt
    ]

weighted : (b : Bool) (w t : ℤ) → cond b (w *ℤ t) (pos 0) ≡ w *ℤ cond b (pos 1 *ℤ t) (pos 0)
unfolding one
weighted true w t = ap (λ z. w *ℤ z) (sym (*ℤ_comm (pos 1) t ∙ *ℤ-one t))
weighted false w t = sym (*ℤ-zero w)

column_at : (v : View) (j : ℕ) (tables : List Bag) (g : Row) → count (accumulators v tables j) g ≡ weigh (share (column v j) g) (product (map written tables))
column_at v j tables g = count-value (column v j) tables g ∙ sym (weigh-product (share (column v j) g) (map written tables))

pub first_counts : (v : View) (us : List ℕ) (tables : ℕ → Bag) → AreTables us tables → IsTable (accumulators v (map tables us) 0)
first_counts v us tables h g =
    from_count _ (subst IsCount (sym (column_at v 0 (map tables us) g)) (weigh_counts (share (column v 0) g) (share_counts v g) (product (map written (map tables us))) (product_counts us tables h)))

pub determined : (v : View) (us : List ℕ) (tables : ℕ → Bag) → AreTables us tables → AreDetermined (accumulators v (map tables us))
determined v us tables h = record {
  counts = first_counts v us tables h;
  sums = λ j g e.
      let es : Counted = product (map written (map tables us)) in
      column_at v j (map tables us) g
      ∙ (λ i. weigh (λ r. weighted (v.passes r) (weight_of v j r) (row_test g (v.goes_to r)) i) es)
      ∙ weigh_zero (share (column v 0) g) (weight_of v j) (share_counts v g) es (product_counts us tables h) (sym (column_at v 0 (map tables us) g) ∙ e);
}

-- ---- its table

positive_counts : (n : ℤ) (r q : Row) → IsCount (count_in (if_positive n r) q)
positive_counts (pos zero) r q = tt
positive_counts (pos (suc n)) r q = elim (is_row q r) as (λ t. IsCount (cond t (pos 1) (pos 0) +ℤ pos 0)) [ true ↦ tt | false ↦ tt ]
positive_counts (negsuc n) r q = tt

pub summary_counts : (k : ℕ) (a : ℕ → Bag) → IsTable (summary k a)
summary_counts k a q = from_count _ (subst IsCount (sym (count-summary k a q)) (positive_counts (count (a 0) (group_of k q)) (group_of k q ++ cells k a (group_of k q)) q))

pub view_counts : (v : View) (us : List ℕ) (tables : ℕ → Bag) → AreTables us tables → IsTable (view_value v (map tables us))
view_counts v us tables h =
    elim v.kind as (λ k. IsTable (shown k (accumulators v (map tables us)))) [
      | Joined ↦ first_counts v us tables h
      | Summed k ↦ summary_counts k (accumulators v (map tables us))
    ]
