-- What the counts of a bag add up to, and how that changes with one of them.
use Rattle.std.proofs.Common.{◌≡◌, ◌≢◌, ℕ, ◌+◌, ◌*◌, ◌≤◌, ◌<◌, refl, sym, ap, subst, ◌∙◌, ℤ, pos, negsuc, ◌≤ℤ◌, cond, List, [], ◌∷◌, map, length, Some, T, ◌&&◌, ◌⊎◌, inl, inr, arith, FitsSigned}
use Rattle.std.proofs.lemmas.Int.{ints}
use Rattle.std.proofs.lemmas.List.Sums.{sum_by-cons}
use Rattle.std.specs.List.{sum_by, AllByRecursion}
use Rattle.std.specs.Prelude.{unsigned_abs}
use Rattle.std.specs.FinMap as fin
use Rattle.std.specs.FinMap.Entries.{by_order, put, find, is_sorted, below_all}
use Rattle.std.specs.Ordering.{is_lt, is_eq}
use Rattle.std.specs.declared.cmp.Ordering.{Ordering}
use Rattle.std.specs.declared.cmp.Ordering.TheVariants.{Less, Equal, Greater}
use Rattle.wh_row.specs.Row.{Row, row_cmp}
use Rattle.wh_row.specs.Weigh.{Counted}
use Rattle.wh_row.specs.Bag.{Bag, NonZero, whole, number, count, set_count, written, empty, IsTable}
use Rattle.wh_row.proofs.RowLaws.{rows_total, and_first, and_second, is_less}
use Rattle.wh_row.proofs.CountLaws.{count-set_count, set_twice, set_same}
use Rattle.wh_row.proofs.WrittenLaws.{none_found, written-empty, zero_or_not, each_entry}
use mir.Syntax.{w64}
use Rattle.wh_pieces.specs.Place.{AreRisingRows}
use Rattle.wh_row.specs.declared.kept.Kept.{Kept}
use Rattle.wh_row.specs.Inner.Kept.{one_below, rows_below, IsKeptOf, AreKept}
use Rattle.wh_row.specs.Inner.Stored.{AreCounts}
use Rattle.wh_row.proofs.MapLaws.{nz, whole-nz, entries-set_count, written-from_counts}

-- the entries of a bag, written out
abbrev pub shown : List (Row × NonZero) → Counted
shown es = map {A = Row × NonZero} {B = Row × ℤ} (λ e. (e.0, whole e.1)) es

lower : (k x : Row) (es : List (Row × NonZero)) → row_cmp k x ≡ Less → T (below_all row_cmp x es) → T (below_all row_cmp k es)
lower k x [] h b = tt
lower k x (e ∷ es) h b =
    let here = rows_total.trans k x e.0 h (is_less (row_cmp x e.0) (and_first _ _ b)) in
    let rest = lower k x es h (and_second _ _ b) in
    let P : Ordering → Type 0 = λ o. T (is_lt o && below_all row_cmp k es) in
    subst P (sym here) rest

module _ (f : ℤ → ℕ) (none : f (pos 0) ≡ 0) where
  -- what f makes of each number, together
  abbrev pub all_in : Counted → ℕ
  all_in es = sum_by (λ (e : Row × ℤ). f e.1) es

  all-put : (k : Row) (n : NonZero) (es : List (Row × NonZero)) → T (is_sorted row_cmp es)
      → all_in (shown (put row_cmp k n es)) + f (number (find row_cmp k es)) ≡ all_in (shown es) + f (whole n)
  all-put k n [] s = let one = sum_by-cons (λ (e : Row × ℤ). f e.1) (k, whole n) [] in omega (arith, none, one)
  all-put k n (e ∷ es) s =
      let rest : all_in (shown (put row_cmp k n es)) + f (number (find row_cmp k es)) ≡ all_in (shown es) + f (whole n) = all-put k n es (and_second _ _ s) in
      let old = sum_by-cons (λ (x : Row × ℤ). f x.1) (e.0, whole e.1) (shown es) in
      elim (row_cmp k e.0) as (λ o. row_cmp k e.0 ≡ o → all_in (shown (by_order o ((k, n) ∷ e ∷ es) ((e.0, n) ∷ es) (e ∷ put row_cmp k n es))) + f (number (cond (is_eq o) (Some e.1) (find row_cmp k es))) ≡ all_in (shown (e ∷ es)) + f (whole n)) [
        | Less ↦ λ is.
            let new = sum_by-cons (λ (x : Row × ℤ). f x.1) (k, whole n) (shown (e ∷ es)) in
            let gone : f (number (find row_cmp k es)) ≡ 0 = ap (λ o. f (number o)) (none_found k es (lower k e.0 es is (and_first _ _ s))) ∙ none in
            omega (arith, new, gone)
        | Equal ↦ λ is.
            let new = sum_by-cons (λ (x : Row × ℤ). f x.1) (e.0, whole n) (shown es) in
            omega (arith, new, old)
        | Greater ↦ λ is.
            let new = sum_by-cons (λ (x : Row × ℤ). f x.1) (e.0, whole e.1) (shown (put row_cmp k n es)) in
            omega (arith, new, old, rest)
      ] refl

  set_some : (b : Bag) (r : Row) (z : ℤ) → (z ≢ pos 0) → all_in (written (set_count b r z)) + f (count b r) ≡ all_in (written b) + f z
  set_some b r z some =
      let is = all-put r (nz z) (fin.entries b) (fin.entries_sorted b) in
      let new : all_in (written (set_count b r z)) ≡ all_in (shown (put row_cmp r (nz z) (fin.entries b))) = ap (λ es. all_in (shown es)) (entries-set_count b r z some) in
      let old : f (count b r) ≡ f (number (find row_cmp r (fin.entries b))) = ap (λ o. f (number o)) (fin.get-entries b r) in
      let put_in : f (whole (nz z)) ≡ f z = ap f (whole-nz z some) in
      omega (arith, is, new, old, put_in)

  set_none : (b : Bag) (r : Row) → all_in (written (set_count b r (pos 0))) + f (count b r) ≡ all_in (written b)
  set_none b r = by (zero_or_not (count b r))
    where
      by : (count b r ≡ pos 0) ⊎ (count b r ≢ pos 0) → all_in (written (set_count b r (pos 0))) + f (count b r) ≡ all_in (written b)
      by (inl is) =
          let same : set_count b r (pos 0) ≡ b = ap (set_count b r) (sym is) ∙ set_same b r in
          let a = ap (λ x. all_in (written x)) same in
          let z : f (count b r) ≡ 0 = ap f is ∙ none in
          omega (arith, a, z)
      by (inr some) =
          let c : Bag = set_count b r (pos 0) in
          let back = set_some c r (count b r) some in
          let same : set_count c r (count b r) ≡ b = set_twice b r (pos 0) (count b r) ∙ set_same b r in
          let gone : count c r ≡ pos 0 = count-set_count b r (pos 0) r ∙ ap (λ t. cond t (pos 0) (count b r)) (Rattle.wh_row.proofs.RowLaws.itself r) in
          let z : f (count c r) ≡ 0 = ap f gone ∙ none in
          let a = ap (λ x. all_in (written x)) same in
          omega (arith, back, z, a)

  -- one count in place of another
  pub all-set : (b : Bag) (r : Row) (z : ℤ) → all_in (written (set_count b r z)) + f (count b r) ≡ all_in (written b) + f z
  all-set b r z = by (zero_or_not z)
    where
      by : (z ≡ pos 0) ⊎ (z ≢ pos 0) → all_in (written (set_count b r z)) + f (count b r) ≡ all_in (written b) + f z
      by (inl is) =
          let a = ap (λ x. all_in (written (set_count b r x))) is in
          let c : f z ≡ 0 = ap f is ∙ none in
          let d = set_none b r in
          omega (arith, a, c, d)
      by (inr some) = set_some b r z some

  -- a row's part is no more than all
  pub part_small : (b : Bag) (r : Row) → f (count b r) ≤ all_in (written b)
  part_small b r = let is = set_none b r in omega (arith, is)

  pub all-none : all_in (written empty) ≡ 0
  all-none = ap all_in written-empty

-- all together are no more than their number times the most of one
pub all_small : (f : ℤ → ℕ) (most : ℕ) (es : Counted) → AllByRecursion (λ (e : Row × ℤ). f e.1 ≤ most) es → sum_by (λ (e : Row × ℤ). f e.1) es ≤ length es * most
all_small f most [] h = omega arith
all_small f most (e ∷ es) h =
    let rest = all_small f most es h.1 in
    let is = sum_by-cons (λ (x : Row × ℤ). f x.1) e es in
    let here = h.0 in
    omega (arith, is, rest, here)

-- ---- what is kept of a bag

pub kept_none : (k : Kept) → k.total ≡ 0 → k.below ≡ 0 → IsKeptOf empty k
kept_none k t b = record {
  total = t ∙ sym (all-none unsigned_abs refl);
  below = b ∙ sym (all-none one_below refl);
}

module _ (b : Bag) (kept : Kept) (row : Row) (is : IsKeptOf b kept) where
  pub has_total : unsigned_abs (count b row) ≤ kept.total
  has_total = let t = is.total in let small = part_small unsigned_abs refl b row in omega (arith, t, small)

  pub has_below : one_below (count b row) ≤ kept.below
  has_below = let t = is.below in let small = part_small one_below refl b row in omega (arith, t, small)

  pub kept_set : (k : Kept) (n : ℤ) → k.total + unsigned_abs (count b row) ≡ kept.total + unsigned_abs n → k.below + one_below (count b row) ≡ kept.below + one_below n → IsKeptOf (set_count b row n) k
  kept_set k n t u = record {
    total = let a = is.total in let new = all-set unsigned_abs refl b row n in omega (arith, a, new, t);
    below = let a = is.below in let new = all-set one_below refl b row n in omega (arith, a, new, u);
  }

-- ---- it is small

pub abs_small : (z : ℤ) → FitsSigned w64 z → unsigned_abs z ≤ 9223372036854775808
abs_small z f = omega (arith, ints, f)

pub one_small : (z : ℤ) → one_below z ≤ 1
one_small (pos n) = omega arith
one_small (negsuc n) = omega arith

each_abs : (es : Counted) → AreCounts es → AllByRecursion (λ (e : Row × ℤ). unsigned_abs e.1 ≤ 9223372036854775808) es
each_abs [] h = tt
each_abs (e ∷ es) h = (abs_small e.1 h.0.1, each_abs es h.1)

each_one : (es : Counted) → AllByRecursion (λ (e : Row × ℤ). one_below e.1 ≤ 1) es
each_one [] = tt
each_one (e ∷ es) = (one_small e.1, each_one es)

module _ (es : Counted) (kept : Kept) (h : AreKept es kept) (rising : AreRisingRows es) (few : length es < 9223372036854775808) where
  pub total_small : kept.total < 85070591730234615865843651857942052864
  total_small =
      let t = h.of_bag.total in
      let w = ap (λ (xs : Counted). sum_by (λ (e : Row × ℤ). unsigned_abs e.1) xs) (written-from_counts w64 es rising h.counts) in
      let most = all_small unsigned_abs 9223372036854775808 es (each_abs es h.counts) in
      omega (arith, t, w, most, few)

  pub below_small : kept.below < 9223372036854775808
  below_small =
      let t = h.of_bag.below in
      let w = ap (λ (xs : Counted). sum_by (λ (e : Row × ℤ). one_below e.1) xs) (written-from_counts w64 es rising h.counts) in
      let most = all_small one_below 1 es (each_one es) in
      omega (arith, t, w, most, few)

-- ---- a table is a bag of which none is below zero

not_below : (z : ℤ) → one_below z ≤ 0 → pos 0 ≤ℤ z
not_below (pos n) h = omega (arith, ints)
not_below (negsuc n) h = absurd (omega (arith, h))

none_below : (z : ℤ) → pos 0 ≤ℤ z → one_below z ≤ 0
none_below (pos n) h = omega arith
none_below (negsuc n) h = absurd (omega (arith, ints, h))

pub table_below : (b : Bag) → rows_below b ≡ 0 → IsTable b
table_below b none row = not_below (count b row) (let small = part_small one_below refl b row in omega (arith, small, none))

pub below_table : (b : Bag) → IsTable b → rows_below b ≡ 0
below_table b table =
    let small = all_small one_below 0 (written b) (each_entry (λ q n. one_below n ≤ 0) b (λ q counts. none_below (count b q) (table q))) in
    omega (arith, small)
