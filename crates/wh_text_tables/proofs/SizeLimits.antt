-- The sizes that rows give are within their limits.
use Rattle.std.proofs.Common.{◌≡◌, ◌≤◌, ◌+◌, ◌^◌, ℕ, ℤ, pos, negsuc, zero, suc, true, false, List, [], ◌∷◌, length, set, replicate, Option, Some, None, Ok, ◌⊎◌, inl, inr, refl, subst, arith}
use Rattle.std.specs.Prelude.{IfSome, ◌&&◌, nat_le, if◌then◌else◌, ok_or, option_and_then, option_map}
use Rattle.std.specs.List.{AllByRecursion, filter_map}
use Rattle.std.proofs.lemmas.Bool.{cases_Bool}
use Rattle.std.proofs.lemmas.Bool.Decides.{nat_tests}
use Rattle.std.proofs.lemmas.Option.{same_Some}
use Rattle.wh_strategy.specs.Sizes.{AreSizeRows, IsSizeRow}
use Rattle.wh_strategy.specs.declared.sizes.SizeRow.{SizeRow}
use Rattle.wh_text.specs.declared.fault.LoadFault.TheVariants.{Number, Sizes}
use Rattle.wh_text_tables.specs.Part.{below_header, part_of, record_gives, records_give}
use Rattle.wh_text_tables.specs.Records.{cell, form_fault, records_of}
use Rattle.wh_text_tables.specs.RowSizes.{counts_of, rows_in, size_within, weight_in}
use Rattle.wh_text_tables.specs.SizesText.{all_sizes, fresh_view, missing_fault, placed, size_written, sizes_of_text, sizes_scheme}
use Rattle.wh_text_tables.specs.declared.sizes.Counts.{Counts}
use Rattle.wh_text_tables.specs.declared.sizes.header.Columns.{Columns}
use Rattle.wh_text_tables.proofs.PartReads.{from_step, or_fault-ok, same_Ok, some-or}

few-rows : (z : ℤ) → IfSome (rows_in z) (λ n. n ≤ 2 ^ 40)
few-rows (pos n) = by (cases_Bool (nat_le n (2 ^ 40)))
  where
    by : (nat_le n (2 ^ 40) ≡ true) ⊎ (nat_le n (2 ^ 40) ≡ false) → IfSome (rows_in (pos n)) (λ n. n ≤ 2 ^ 40)
    by (inl e) = rw e (grind (arith, nat_tests))
    by (inr e) = rw e tt
few-rows (negsuc n) = tt

little : (z : ℤ) → IfSome (weight_in z) (λ n. (1 ≤ n) × (n ≤ 1000))
little (pos n) = by (cases_Bool (nat_le 1 n && nat_le n 1000))
  where
    by : ((nat_le 1 n && nat_le n 1000) ≡ true) ⊎ ((nat_le 1 n && nat_le n 1000) ≡ false) → IfSome (weight_in (pos n)) (λ n. (1 ≤ n) × (n ≤ 1000))
    by (inl e) = rw e (grind (arith, nat_tests), grind (arith, nat_tests))
    by (inr e) = rw e tt
little (negsuc n) = tt

near : (post pre change : ℕ) → (nat_le post (pre + change) && nat_le pre (post + change)) ≡ true → (post ≤ pre + change) × (pre ≤ post + change)
near post pre change e = (grind (arith, nat_tests), grind (arith, nat_tests))

-- the sizes of these numbers of rows and a weight, if there is one
abbrev pub weighing : ℕ → ℕ → ℕ → Option ℕ → Option SizeRow
weighing pre post change weight = option_map (λ weight. record { pre = pre; post = post; change = change; weight = weight }) weight

within : (pre post change : ℕ) (weight : Option ℕ) (size : SizeRow) → pre ≤ 2 ^ 40 → post ≤ 2 ^ 40 → change ≤ 2 ^ 40 → IfSome weight (λ n. (1 ≤ n) × (n ≤ 1000))
    → (if nat_le post (pre + change) && nat_le pre (post + change) then weighing pre post change weight else None) ≡ Some size → IsSizeRow size
within pre post change weight size a b c d e = by (cases_Bool (nat_le post (pre + change) && nat_le pre (post + change)))
  where
    weighed : (post ≤ pre + change) × (pre ≤ post + change) → (w : Option ℕ) → IfSome w (λ n. (1 ≤ n) × (n ≤ 1000)) → weighing pre post change w ≡ Some size → IsSizeRow size
    weighed limits None light e = cc e
    weighed limits (Some w) light e =
        subst IsSizeRow (same_Some _ _ e) (record {
          few_before = a;
          few_after = b;
          small_change = c;
          grows_within = limits.0;
          shrinks_within = limits.1;
          some_weight = light.0;
          little_weight = light.1;
        })

    by : ((nat_le post (pre + change) && nat_le pre (post + change)) ≡ true) ⊎ ((nat_le post (pre + change) && nat_le pre (post + change)) ≡ false) → IsSizeRow size
    by (inl close) = weighed (near post pre change close) weight d (rw close at e)
    by (inr apart) = cc (rw apart at e)

size_within-limits : (counts : Counts) (size : SizeRow) → size_within counts ≡ Some size → IsSizeRow size
unfolding size_within
size_within-limits counts size e = by (rows_in counts.pre) (rows_in counts.post) (rows_in counts.change) (few-rows counts.pre) (few-rows counts.post) (few-rows counts.change) e
  where
    by : (a b c : Option ℕ) → IfSome a (λ n. n ≤ 2 ^ 40) → IfSome b (λ n. n ≤ 2 ^ 40) → IfSome c (λ n. n ≤ 2 ^ 40)
        → option_and_then (λ pre. option_and_then (λ post. option_and_then (λ change.
        if nat_le post (pre + change) && nat_le pre (post + change) then weighing pre post change (weight_in counts.weight) else None) c) b) a ≡ Some size → IsSizeRow size
    by None b c fa fb fc e = cc e
    by (Some pre) None c fa fb fc e = cc e
    by (Some pre) (Some post) None fa fb fc e = cc e
    by (Some pre) (Some post) (Some change) fa fb fc e = within pre post change (weight_in counts.weight) size fa fb fc (little counts.weight) e

size_written-within : (columns : Columns) (number : ℕ) (row : List (List ℕ)) (size : SizeRow) → size_written columns number row ≡ Ok size → IsSizeRow size
size_written-within columns number row size e =
    let counts = from_step (ok_or (counts_of columns row) (Number number)) (λ counts. ok_or (size_within counts) (Sizes (cell row 0))) size e in
    size_within-limits counts.0 size (some-or (size_within counts.0) (Sizes (cell row 0)) size counts.2)

-- each view that was given sizes has some within their limits
abbrev AreWithin : List (Option SizeRow) → Type 0
AreWithin given = AllByRecursion (λ size. IfSome size IsSizeRow) given

none-within : (views : ℕ) → AreWithin (replicate views None)
none-within zero = tt
none-within (suc views) = (tt, none-within views)

set-within : (given : List (Option SizeRow)) (view : ℕ) (size : SizeRow) → AreWithin given → IsSizeRow size → AreWithin (set given view (Some size))
set-within [] view size are is = tt
set-within (o ∷ given) zero size are is = (is, are.1)
set-within (o ∷ given) (suc view) size are is = (are.0, set-within given view size are.1 is)

placed-within : (names : List (List ℕ)) (columns : Columns) (given after : List (Option SizeRow)) (number : ℕ) (row : List (List ℕ)) → AreWithin given → placed names columns given number row ≡ Ok after → AreWithin after
placed-within names columns given after number row are e =
    let view = from_step (fresh_view names given (cell row 0)) _ after e in
    let size = from_step (size_written columns number row) _ after view.2 in
    subst AreWithin (same_Ok _ _ _ refl size.2) (set-within given view.0 size.0 are (size_written-within columns number row size.0 size.1))

rows-within : (names : List (List ℕ)) (columns : Columns) (width number : ℕ) (given after : List (Option SizeRow)) (rows : List (List (List ℕ))) → AreWithin given
    → records_give (sizes_scheme names) width columns number given rows ≡ Ok after → AreWithin after
unfolding records_give
rows-within names columns width number given after [] are e = subst AreWithin (same_Ok _ _ _ refl e) are
rows-within names columns width number given after (row ∷ rows) are e =
    let next = from_step (record_gives (sizes_scheme names) width columns given number row) _ after e in
    let own = or_fault-ok (form_fault width number row) (placed names columns given number row) next.0 next.1 in
    rows-within names columns width (number + 1) next.0 after rows (placed-within names columns given next.0 number row are own) next.2

first-size : (s : SizeRow) (rows : List SizeRow) → IsSizeRow s → AreSizeRows rows → AreSizeRows (s ∷ rows)
first-size s rows is more zero row there = subst IsSizeRow (same_Some _ _ there) is
first-size s rows is more (suc u) row there = more u row there

found : (given : List (Option SizeRow)) → AreWithin given → AreSizeRows (filter_map (λ size. size) given)
found [] are = λ u row there. cc there
found (None ∷ given) are = found given are.1
found (Some size ∷ given) are = first-size size (filter_map (λ s. s) given) are.0 (found given are.1)

-- what the rows of a part give the views
pub given-sizes : (names : List (List ℕ)) (text : List ℕ) (given : List (Option SizeRow)) → part_of (sizes_scheme names) (replicate (length names) None) text ≡ Ok given → AreSizeRows (filter_map (λ size. size) given)
given-sizes names text given e =
    let below = from_step (below_header (sizes_scheme names) (records_of text)) _ given e in
    found given (rows-within names below.0.kind below.0.width 2 (replicate (length names) None) given below.0.rows (none-within (length names)) below.2)

-- the sizes that a text gives
pub text-sizes : (names : List (List ℕ)) (text : List ℕ) (rows : List SizeRow) → sizes_of_text names text ≡ Ok rows → AreSizeRows rows
unfolding sizes_of_text
text-sizes names text rows e =
    let given = from_step (part_of (sizes_scheme names) (replicate (length names) None) text) (all_sizes names) rows e in
    let all = or_fault-ok (missing_fault names given.0) (Ok (filter_map (λ size. size) given.0)) rows given.2 in
    subst AreSizeRows (same_Ok _ _ _ refl all) (given-sizes names text given.0 given.1)
