-- A summary's table tells its accumulators, and its change makes the table of the new ones.
use Rattle.std.proofs.Common.{◌≡◌, ℕ, zero, suc, ◌+◌, ◌-◌, ◌<◌, ◌≤◌, refl, sym, ap, ◌∙◌, ℤ, pos, negsuc, ◌+ℤ◌, ◌-ℤ◌, ◌*ℤ◌, Bool, true, false, cond, [], ◌∷◌, ◌++◌, map, length, take, get_or, inl, inr, arith, length-append}
use Rattle.std.specs.Prelude.{neg_ℤ, ◌≤ℤ◌}
use Rattle.std.specs.List.{flat_map, filter, list_any, range_with_len}
use Rattle.std.proofs.lemmas.Int.{ints}
use Rattle.std.proofs.lemmas.Bool.{false_from_ne_true, both_ways, or_parts, cases_order}
use Rattle.std.proofs.lemmas.List.{get_or-append-add}
use Rattle.std.proofs.lemmas.List.FromFn.{length-map-range_with_len, get_or-map-range_with_len}
use Rattle.wh_row.specs.Row.{Row, is_row}
use Rattle.wh_row.specs.Weigh.{Counted, weigh, count_in, negated}
use Rattle.wh_row.specs.Bag.{Bag, written, sum_of, difference_of, count}
use Rattle.wh_row.proofs.BagLaws.{same_bag, same_row, itself, count-bag_of, count-sum_of, count-difference_of, count_in-written, count_in-weigh, weigh-bag_of, flat_one}
use Rattle.wh_maint.specs.Summary.{cells, if_positive, group_row, summary, group_of, cell_of, read_back, new_accumulators, is_nonzero, is_touched, summary_change}
use Rattle.wh_maint.specs.SummaryLaws.{AreDetermined}
use lib.IntN.{+ℤ_idl, +ℤ_idr, *ℤ-zero, *ℤ_comm, *ℤ-one, one}

-- ---- a row's group and cells

take_front : (g c : Row) → take (length g) (g ++ c) ≡ g
take_front [] c = refl
take_front (x ∷ g) c = ap (λ z. x ∷ z) (take_front g c)

front_length : (k : ℕ) (g c : Row) → length c ≡ suc k → length (g ++ c) - suc k ≡ length g
front_length k g c e = omega (arith, length-append g c)

pub cells_length : (k : ℕ) (a : ℕ → Bag) (g : Row) → length (cells k a g) ≡ suc k
cells_length k a g = length-map-range_with_len (λ j. count (a j) g) 0 (suc k)

pub group_of-row : (k : ℕ) (a : ℕ → Bag) (g : Row) → group_of k (g ++ cells k a g) ≡ g
group_of-row k a g = ap (λ n. take n (g ++ cells k a g)) (front_length k g (cells k a g) (cells_length k a g)) ∙ take_front g (cells k a g)

pub cell_of-row : (k : ℕ) (a : ℕ → Bag) (g : Row) (j : ℕ) → j < suc k → cell_of k j (g ++ cells k a g) ≡ count (a j) g
cell_of-row k a g j l =
    ap (λ n. get_or (g ++ cells k a g) (n + j) (pos 0)) (front_length k g (cells k a g) (cells_length k a g))
    ∙ get_or-append-add g (cells k a g) j (pos 0)
    ∙ get_or-map-range_with_len (λ i. count (a i) g) 0 (suc k) j j (pos 0) l (omega arith)

-- ---- the counts of a summary

pub weigh-if_positive : (h : Row → ℤ) (n : ℤ) (r : Row) → h r ≡ pos 0 → weigh h (if_positive n r) ≡ pos 0
weigh-if_positive h (pos zero) r e = refl
weigh-if_positive h (pos (suc n)) r e = ap (λ z. (pos 1 *ℤ z) +ℤ pos 0) e
weigh-if_positive h (negsuc n) r e = refl

-- the row of its own group alone counts
pub count-summary : (k : ℕ) (a : ℕ → Bag) (q : Row) → count (summary k a) q ≡ count_in (group_row k a (group_of k q)) q
count-summary k a q =
    let h : Row → ℤ = λ r. cond (is_row q r) (pos 1) (pos 0) in
    let rows : Counted = flat_map {X = Row × ℤ} (λ e. group_row k a e.0) (written (a 0)) in
    let g : Row = group_of k q in
    count-bag_of rows q ∙ count_in-weigh rows q
    ∙ flat_one (a 0) (group_row k a) h g
    (λ p f. weigh-if_positive h (count (a 0) p) (p ++ cells k a p)
    (λ i. cond (false_from_ne_true (is_row q (p ++ cells k a p)) (λ t. both_ways (is_row g p) f (ap (is_row g) (sym (ap (group_of k) (same_row q (p ++ cells k a p) t) ∙ group_of-row k a p)) ∙ itself g)) i) (pos 1) (pos 0)))
    (λ e. ap (λ n. weigh h (if_positive n (g ++ cells k a g))) e)
    ∙ sym (count_in-weigh (group_row k a g) q)

-- and it depends on the accumulators of its group
same_cells : (a b : ℕ → Bag) (g : Row) (n from : ℕ) → ((j : ℕ) → j < from + n → count (a j) g ≡ count (b j) g) → map (λ j. count (a j) g) (range_with_len from n) ≡ map (λ j. count (b j) g) (range_with_len from n)
same_cells a b g zero from h = refl
same_cells a b g (suc n) from h = λ i. h from (omega arith) i ∷ same_cells a b g n (from + 1) (λ j l. h j (omega arith)) i

pub same_summary : (k : ℕ) (a b : ℕ → Bag) (q : Row) → ((j : ℕ) → j < suc k → count (a j) (group_of k q) ≡ count (b j) (group_of k q)) → count (summary k a) q ≡ count (summary k b) q
same_summary k a b q h =
    let g : Row = group_of k q in
    count-summary k a q
    ∙ (λ i. count_in (if_positive (h 0 (omega arith) i) (g ++ same_cells a b g (suc k) 0 (λ j l. h j (omega arith)) i)) q)
    ∙ sym (count-summary k b q)

-- ---- reading back

times_cond : (t : Bool) (n c : ℤ) → cond t (n *ℤ c) (pos 0) ≡ n *ℤ cond t c (pos 0)
times_cond true n c = refl
times_cond false n c = sym (*ℤ-zero n)

pub count_in-read : (k j : ℕ) (g : Row) (es : Counted) → count_in (map {A = Row × ℤ} {B = Row × ℤ} (λ e. (group_of k e.0, e.1 *ℤ cell_of k j e.0)) es) g ≡ weigh (λ r. cond (is_row g (group_of k r)) (cell_of k j r) (pos 0)) es
count_in-read k j g [] = refl
count_in-read k j g (e ∷ es) = λ i. times_cond (is_row g (group_of k e.0)) e.1 (cell_of k j e.0) i +ℤ count_in-read k j g es i

one_row : (h : Row → ℤ) (n : ℤ) (r : Row) (s : ℤ) → h r ≡ s → pos 0 ≤ℤ n → (n ≡ pos 0 → s ≡ pos 0) → weigh h (if_positive n r) ≡ s
unfolding one
one_row h (pos zero) r s e z none = sym (none refl)
one_row h (pos (suc n)) r s e z none = +ℤ_idr _ ∙ *ℤ_comm (pos 1) (h r) ∙ *ℤ-one (h r) ∙ e
one_row h (negsuc n) r s e z none = absurd (omega (arith, ints))

pub read_back-summary : (k : ℕ) (a : ℕ → Bag) → AreDetermined a → (j : ℕ) → j < suc k → read_back k (summary k a) j ≡ a j
read_back-summary k a det j l = same_bag _ _ (λ g.
    let h : Row → ℤ = λ r. cond (is_row g (group_of k r)) (cell_of k j r) (pos 0) in
    let at_row : (p : Row) → h (p ++ cells k a p) ≡ cond (is_row g p) (count (a j) p) (pos 0) = λ p i. cond (is_row g (group_of-row k a p i)) (cell_of-row k a p j l i) (pos 0) in
    let none : count (a 0) g ≡ pos 0 → weigh h (group_row k a g) ≡ pos 0 = λ e. ap (λ n. weigh h (if_positive n (g ++ cells k a g))) e in
    count-bag_of (map {A = Row × ℤ} {B = Row × ℤ} (λ e. (group_of k e.0, e.1 *ℤ cell_of k j e.0)) (written (summary k a))) g
    ∙ count_in-read k j g (written (summary k a))
    ∙ weigh-bag_of (flat_map {X = Row × ℤ} (λ e. group_row k a e.0) (written (a 0))) h
    ∙ flat_one (a 0) (group_row k a) h g
    (λ p f. weigh-if_positive h (count (a 0) p) (p ++ cells k a p) (at_row p ∙ (λ i. cond (f i) (count (a j) p) (pos 0))))
    none
    ∙ one_row h (count (a 0) g) (g ++ cells k a g) (count (a j) g) (at_row g ∙ (λ i. cond (itself g i) (count (a j) g) (pos 0))) (det.counts g) (det.sums j g))

-- ---- the change

pub count_in-filter : (t : Row → Bool) (es : Counted) (q : Row) → count_in (filter (λ e. t e.0) es) q ≡ cond (t q) (count_in es q) (pos 0)
count_in-filter t [] q = elim (t q) as (λ b. pos 0 ≡ cond b (pos 0) (pos 0)) [ true ↦ refl | false ↦ refl ]
count_in-filter t (e ∷ es) q =
    let rest = count_in-filter t es q in
    elim (is_row q e.0) as (λ s. is_row q e.0 ≡ s → count_in (filter (λ x. t x.0) (e ∷ es)) q ≡ cond (t q) (cond s e.1 (pos 0) +ℤ count_in es q) (pos 0)) [
      | true ↦ λ s.
          let same : t e.0 ≡ t q = ap t (sym (same_row q e.0 s)) in
          elim (t e.0) as (λ b. t e.0 ≡ b → count_in (cond b (e ∷ filter (λ x. t x.0) es) (filter (λ x. t x.0) es)) q ≡ cond (t q) (e.1 +ℤ count_in es q) (pos 0)) [
            | true ↦ λ b. let c : t q ≡ true = sym same ∙ b in
                (λ i. cond (s i) e.1 (pos 0) +ℤ (rest ∙ (λ j. cond (c j) (count_in es q) (pos 0))) i) ∙ (λ i. cond (sym c i) (e.1 +ℤ count_in es q) (pos 0))
            | false ↦ λ b. let c : t q ≡ false = sym same ∙ b in rest ∙ (λ j. cond (c j) (count_in es q) (pos 0)) ∙ (λ i. cond (sym c i) (e.1 +ℤ count_in es q) (pos 0))
          ] refl
      | false ↦ λ s.
          elim (t e.0) as (λ b. count_in (cond b (e ∷ filter (λ x. t x.0) es) (filter (λ x. t x.0) es)) q ≡ cond (t q) (pos 0 +ℤ count_in es q) (pos 0)) [
            | true ↦ (λ i. cond (s i) e.1 (pos 0) +ℤ rest i) ∙ +ℤ_idl _ ∙ ap (λ z. cond (t q) z (pos 0)) (sym (+ℤ_idl (count_in es q)))
            | false ↦ rest ∙ ap (λ z. cond (t q) z (pos 0)) (sym (+ℤ_idl (count_in es q)))
          ]
    ] refl

neg_step : (t : Bool) (n c d : ℤ) → c ≡ neg_ℤ d → cond t (neg_ℤ n) (pos 0) +ℤ c ≡ neg_ℤ (cond t n (pos 0) +ℤ d)
neg_step true n c d e = omega (arith, ints)
neg_step false n c d e = omega (arith, ints)

pub count_in-negated : (es : Counted) (q : Row) → count_in (negated es) q ≡ neg_ℤ (count_in es q)
count_in-negated [] q = refl
count_in-negated (e ∷ es) q = neg_step (is_row q e.0) e.1 (count_in (negated es) q) (count_in es q) (count_in-negated es q)

zero_from : (n : ℤ) → is_nonzero n ≡ false → n ≡ pos 0
zero_from (pos zero) e = refl
zero_from (pos (suc n)) e = cc
zero_from (negsuc n) e = cc

untouched_from : (p : ℕ → Bag) (g : Row) (n from : ℕ) → list_any (λ j. is_nonzero (count (p j) g)) (range_with_len from n) ≡ false → (j : ℕ) → from ≤ j → j < from + n → count (p j) g ≡ pos 0
untouched_from p g zero from e j a b = absurd (omega arith)
untouched_from p g (suc n) from e j a b =
    let both = or_parts (is_nonzero (count (p from) g)) _ e in
    elim (cases_order from j) as (λ _. count (p j) g ≡ pos 0) [
      | inl s ↦ ap (λ x. count (p x) g) (sym s) ∙ zero_from _ both.0
      | inr s ↦ untouched_from p g n (from + 1) both.1 j (omega arith) (omega arith)
    ]

-- a group that is not touched has no pending numbers
pub untouched : (k : ℕ) (p : ℕ → Bag) (g : Row) → is_touched k p g ≡ false → (j : ℕ) → j < suc k → count (p j) g ≡ pos 0
untouched k p g t j l = untouched_from p g (suc k) 0 t j (omega arith) (omega arith)

-- so its new accumulators are the old ones
pub new-untouched : (k : ℕ) (table : Bag) (p : ℕ → Bag) (g : Row) → is_touched k p g ≡ false → (j : ℕ) → j < suc k → count (new_accumulators k table p j) g ≡ count (read_back k table j) g
new-untouched k table p g t j l =
    count-sum_of (read_back k table j) (p j) g ∙ ap (λ z. count (read_back k table j) g +ℤ z) (untouched k p g t j l) ∙ +ℤ_idr _

put : (b c : ℤ) → c +ℤ (b -ℤ c) ≡ b
put b c = omega (arith, ints)

pub count-change : (k : ℕ) (table : Bag) (p : ℕ → Bag) (q : Row)
    → count (summary_change k table p) q ≡ cond (is_touched k p (group_of k q)) (count (summary k (new_accumulators k table p)) q -ℤ count table q) (pos 0)
count-change k table p q =
    let rows : Bag = difference_of (summary k (new_accumulators k table p)) table in
    count-bag_of (filter (λ e. is_touched k p (group_of k e.0)) (written rows)) q
    ∙ count_in-filter (λ r. is_touched k p (group_of k r)) (written rows) q
    ∙ ap (λ z. cond (is_touched k p (group_of k q)) z (pos 0)) (count_in-written rows q ∙ count-difference_of (summary k (new_accumulators k table p)) table q)

-- where a group is not touched, its row stays
pub row_stays : (k : ℕ) (table : Bag) (p : ℕ → Bag) (q : Row) → table ≡ summary k (read_back k table) → is_touched k p (group_of k q) ≡ false
    → count table q ≡ count (summary k (new_accumulators k table p)) q
row_stays k table p q told t =
    ap (λ b. count b q) told ∙ same_summary k (read_back k table) (new_accumulators k table p) q (λ j l. sym (new-untouched k table p (group_of k q) t j l))

-- with its change, a table that is what its rows tell is that of the new accumulators
pub change_is_whole : (k : ℕ) (table : Bag) (p : ℕ → Bag) → table ≡ summary k (read_back k table)
    → sum_of table (summary_change k table p) ≡ summary k (new_accumulators k table p)
change_is_whole k table p told = same_bag _ _ (λ q.
    let new : Bag = summary k (new_accumulators k table p) in
    count-sum_of table (summary_change k table p) q ∙ ap (λ z. count table q +ℤ z) (count-change k table p q)
    ∙ elim (is_touched k p (group_of k q)) as (λ t. is_touched k p (group_of k q) ≡ t → count table q +ℤ cond t (count new q -ℤ count table q) (pos 0) ≡ count new q) [
      | true ↦ λ t. put (count new q) (count table q)
      | false ↦ λ t. +ℤ_idr (count table q) ∙ row_stays k table p q told t
    ] refl)

-- the table of determined accumulators is what its rows tell
pub summary_told : (k : ℕ) (a : ℕ → Bag) → AreDetermined a → summary k a ≡ summary k (read_back k (summary k a))
summary_told k a det = same_bag _ _ (λ q. same_summary k a (read_back k (summary k a)) q (λ j l. ap (λ b. count b (group_of k q)) (sym (read_back-summary k a det j l))))

-- and its change leads to that of the accumulators with the pending ones added
pub summary_changed : (k : ℕ) (a p : ℕ → Bag) → AreDetermined a → sum_of (summary k a) (summary_change k (summary k a) p) ≡ summary k (λ j. sum_of (a j) (p j))
summary_changed k a p det =
    change_is_whole k (summary k a) p (summary_told k a det)
    ∙ same_bag _ _ (λ q. same_summary k (new_accumulators k (summary k a) p) (λ j. sum_of (a j) (p j)) q (λ j l.
    ap (λ b. count (sum_of b (p j)) (group_of k q)) (read_back-summary k a det j l)))
