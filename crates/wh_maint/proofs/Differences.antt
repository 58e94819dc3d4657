-- A Comp adds what the changes of its sources make different, and Comps in turn what all changes do.
use Rattle.std.proofs.Common.{◌≡◌, ℕ, refl, sym, ap, ◌∙◌, ℤ, ◌+ℤ◌, ◌-ℤ◌, Bool, true, false, ◌||◌, cond, eqb, List, [], ◌∷◌, ◌++◌, map, arith, ⊎_elim}
use Rattle.std.specs.List.{flat_map}
use Rattle.std.specs.FinMap as fin
use Rattle.std.proofs.lemmas.Bool.{false≢true, cases_Bool, eqb-true, or_left, or_right, or_cases, or_parts, false_from_ne_true, both_ways}
use Rattle.std.proofs.lemmas.Int.{ints}
use Rattle.wh_dag.specs.Shape.{has, Distinct}
use Rattle.wh_dag.specs.Parts.{parts}
use Rattle.wh_row.specs.Row.{Row, row_cmp}
use Rattle.wh_row.specs.Weigh.{Counted, weigh}
use Rattle.wh_row.specs.Bag.{Bag, written, sum_of, difference_of, count, empty, number}
use Rattle.wh_row.proofs.WeighLaws.{weigh-append}
use Rattle.wh_row.proofs.BagLaws.{same_bag, count-sum_of, count-difference_of, count-weigh, weigh-bag_of, weigh-sum_of}
use Rattle.wh_maint.specs.Product.{combined}
use Rattle.wh_join.specs.CombinedRows.{over}
use Rattle.wh_maint.specs.View.{Fold, value}
use Rattle.wh_maint.specs.Inner.Share.{sum_over, share}
use Rattle.wh_maint.specs.Comp.{at_set, term_rows, changed_rows, comp}
use Rattle.wh_maint.specs.Laws.{AreAmong, changed, CompsAreDifferences, comps_in_turn, joined, CompsInAnyOrder}
use Rattle.wh_maint.proofs.Products.{passing, row_itself, weigh-matching, count-combined}
use Rattle.wh_maint.proofs.Folds.{part, count-fold, count-value}
use Rattle.wh_maint.proofs.Telescope.{E, terms, AreAdded, telescope, has_first, has_rest, has-append}
use lib.IntN.{+ℤ_assoc, +ℤ_idr}

-- the tables written out
abbrev pub lists : (ℕ → Bag) → ℕ → Counted
lists f u = written (f u)

pub map-lists : (f : ℕ → Bag) (us : List ℕ) → map written (map f us) ≡ map (lists f) us
map-lists f [] = refl
map-lists f (u ∷ us) = λ i. written (f u) ∷ map-lists f us i

pub at-lists : (s : List ℕ) (g f : ℕ → Bag) (u : ℕ) → lists (at_set s g f) u ≡ at_set s (lists g) (lists f) u
at-lists s g f u = elim (has s u) as (λ t. written (cond t (g u) (f u)) ≡ cond t (written (g u)) (written (f u))) [ true ↦ refl | false ↦ refl ]

pub over-at : (h : Row → ℤ) (us s : List ℕ) (g f : ℕ → Bag) → over h (map written (map (at_set s g f) us)) ≡ E h us (at_set s (lists g) (lists f))
over-at h us s g f = ap (over h) (map-lists (at_set s g f) us ∙ (λ j. map (λ u. at-lists s g f u j) us))

weigh-terms : (passes : Row → Bool) (h : Row → ℤ) (us : List ℕ) (state change : ℕ → Bag) (ss : List (List ℕ))
    → weigh h (flat_map (term_rows passes us state change) ss) ≡ sum_over ss (λ s. E (passing passes h) us (at_set s (lists change) (lists state)))
weigh-terms passes h us state change [] = refl
weigh-terms passes h us state change (s ∷ ss) =
    weigh-append h (term_rows passes us state change s) (flat_map (term_rows passes us state change) ss)
    ∙ (λ i. (weigh-matching passes h (map (at_set s change state) us) ∙ over-at (passing passes h) us s change state) i
    +ℤ weigh-terms passes h us state change ss i)

pub weigh-changed : (passes : Row → Bool) (h : Row → ℤ) (us ys : List ℕ) (state change : ℕ → Bag)
    → weigh h (written (changed_rows passes us ys state change)) ≡ terms (passing passes h) us ys (lists state) (lists change)
weigh-changed passes h us ys state change =
    weigh-bag_of (flat_map (term_rows passes us state change) (parts ys)) h
    ∙ weigh-terms passes h us state change (parts ys)

-- the counts of a Comp are the sums of its terms
pub count-comp : (f : Fold) (us ys : List ℕ) (state change : ℕ → Bag) (q : Row) → count (comp f us ys state change) q ≡ terms (share f q) us ys (lists state) (lists change)
count-comp f us ys state change q =
    count-fold f (changed_rows f.passes us ys state change) q ∙ weigh-changed f.passes (part f q) us ys state change

pub count-changed : (passes : Row → Bool) (us ys : List ℕ) (state change : ℕ → Bag) (q : Row)
    → count (changed_rows passes us ys state change) q ≡ terms (passing passes (row_itself q)) us ys (lists state) (lists change)
count-changed passes us ys state change q =
    count-weigh (changed_rows passes us ys state change) q ∙ weigh-changed passes (row_itself q) us ys state change

-- ---- one Comp

-- at the sources, the new tables are the old ones with their changes
abbrev pub AreChanged : List ℕ → (ℕ → Bag) → (ℕ → Bag) → (ℕ → Bag) → Type 0
AreChanged ys state change new = (y : ℕ) → has ys y ≡ true → new y ≡ sum_of (state y) (change y)

are_added : (ys : List ℕ) (state change new : ℕ → Bag) → AreChanged ys state change new → AreAdded ys (lists new) (lists state) (lists change)
are_added ys state change new is y t h = ap (λ x. weigh h (written x)) (is y t) ∙ weigh-sum_of (state y) (change y) h

over_step : (h : Row → ℤ) (us ys : List ℕ) → Distinct us → Distinct ys → AreAmong ys us → (state change new : ℕ → Bag) → AreChanged ys state change new
    → over h (map written (map (at_set ys new state) us)) ≡ over h (map written (map state us)) +ℤ terms h us ys (lists state) (lists change)
over_step h us ys a b among state change new is =
    over-at h us ys new state
    ∙ telescope us ys a b among (lists state) (lists change) (lists new) (are_added ys state change new is) h
    ∙ ap (λ z. z +ℤ terms h us ys (lists state) (lists change)) (ap (over h) (sym (map-lists state us)))

pub value_step : (f : Fold) (us ys : List ℕ) → Distinct us → Distinct ys → AreAmong ys us → (state change new : ℕ → Bag) → AreChanged ys state change new
    → value f (map (at_set ys new state) us) ≡ sum_of (value f (map state us)) (comp f us ys state change)
value_step f us ys a b among state change new is = same_bag _ _ (λ q.
    count-value f (map (at_set ys new state) us) q
    ∙ over_step (share f q) us ys a b among state change new is
    ∙ sym (count-sum_of (value f (map state us)) (comp f us ys state change) q
    ∙ (λ i. count-value f (map state us) q i +ℤ count-comp f us ys state change q i)))

pub rows_step : (passes : Row → Bool) (us ys : List ℕ) → Distinct us → Distinct ys → AreAmong ys us → (state change new : ℕ → Bag) → AreChanged ys state change new
    → combined passes (map (at_set ys new state) us) ≡ sum_of (combined passes (map state us)) (changed_rows passes us ys state change)
rows_step passes us ys a b among state change new is = same_bag _ _ (λ q.
    count-combined passes (map (at_set ys new state) us) q
    ∙ over_step (passing passes (row_itself q)) us ys a b among state change new is
    ∙ sym (count-sum_of (combined passes (map state us)) (changed_rows passes us ys state change) q
    ∙ (λ i. count-combined passes (map state us) q i +ℤ count-changed passes us ys state change q i)))

less : (a b c : ℤ) → a ≡ b +ℤ c → c ≡ a -ℤ b
less a b c e = omega (arith, ints)

-- what is added is the difference
pub is_difference : (new old added : Bag) → new ≡ sum_of old added → added ≡ difference_of new old
is_difference new old added e = same_bag _ _ (λ q.
    less (count new q) (count old q) (count added q) (ap (λ b. count b q) e ∙ count-sum_of old added q) ∙ sym (count-difference_of new old q))

gain : (a b : ℤ) → a +ℤ (b -ℤ a) ≡ b
gain a b = omega (arith, ints)

-- and with the difference, the old is the new
pub sum_difference : (old new : Bag) → sum_of old (difference_of new old) ≡ new
sum_difference old new = same_bag _ _ (λ q. count-sum_of old (difference_of new old) q ∙ ap (λ z. count old q +ℤ z) (count-difference_of new old q) ∙ gain (count old q) (count new q))

pub comps_are_differences : CompsAreDifferences
comps_are_differences = λ f us ys state change a b among. record {
  rows = is_difference _ _ _ (rows_step f.passes us ys a b among state change (changed state change) (λ y t. refl));
  value = is_difference _ _ _ (value_step f us ys a b among state change (changed state change) (λ y t. refl));
}

-- ---- Comps in turn

pub sum-empty : (b : Bag) → sum_of b empty ≡ b
sum-empty b = same_bag _ _ (λ q. count-sum_of b empty q ∙ ap (λ z. count b q +ℤ z) (ap number (fin.get-empty row_cmp q)) ∙ +ℤ_idr (count b q))

pub sum_assoc : (a b c : Bag) → sum_of a (sum_of b c) ≡ sum_of (sum_of a b) c
sum_assoc a b c = same_bag _ _ (λ q.
    count-sum_of a (sum_of b c) q ∙ ap (λ z. count a q +ℤ z) (count-sum_of b c q) ∙ sym (+ℤ_assoc (count a q) (count b q) (count c q))
    ∙ sym (count-sum_of (sum_of a b) c q ∙ ap (λ z. z +ℤ count c q) (count-sum_of a b q)))

pub same_tables : (us : List ℕ) (f g : ℕ → Bag) → ((u : ℕ) → has us u ≡ true → f u ≡ g u) → map f us ≡ map g us
same_tables [] f g h = refl
same_tables (u ∷ us) f g h = λ i. h u (has_first u us) i ∷ same_tables us f g (λ v t. h v (has_rest u us v t)) i

pub nested : {A : Type 0} (a b : Bool) (x z : A) → cond a x (cond b x z) ≡ cond (a || b) x z
nested true b x z = refl
nested false b x z = refl

-- distinct lists in one are distinct, and have nothing in common
distinct_parts : (xs ys : List ℕ) → Distinct (xs ++ ys) → Distinct xs × Distinct ys × ((u : ℕ) → has xs u ≡ true → has ys u ≡ false)
unfolding has Distinct
distinct_parts [] ys d = (tt, d, λ u t. absurd (false≢true t))
distinct_parts (x ∷ xs) ys d =
    let rest = distinct_parts xs ys d.1 in
    let out = or_parts (has xs x) (has ys x) (sym (has-append xs ys x) ∙ d.0) in (
      (out.0, rest.0),
      rest.1,
      (λ u t. ⊎_elim (λ e. ap (has ys) (sym (eqb-true x u e)) ∙ out.1) (λ m. rest.2 u m) (or_cases (eqb x u) (has xs u) t)),
    )

module _ (f : Fold) (us : List ℕ) (apart : Distinct us) (old change : ℕ → Bag) where
  in_turn : (lists : List (List ℕ)) (done : List ℕ) → Distinct (joined lists) → AreAmong (joined lists) us
      → ((u : ℕ) → has (joined lists) u ≡ true → has done u ≡ false)
      → ((u : ℕ) → has us u ≡ true → has (joined lists) u ≡ false → has done u ≡ true)
      → value f (map (changed old change) us) ≡ sum_of (value f (map (at_set done (changed old change) old) us)) (comps_in_turn f us done lists old change)
  unfolding has
  in_turn [] done distinct among fresh all =
      ap (value f) (same_tables us (changed old change) (at_set done (changed old change) old) (λ u t i. cond (sym (all u t refl) i) (changed old change u) (old u)))
      ∙ sym (sum-empty (value f (map (at_set done (changed old change) old) us)))
  in_turn (ys ∷ lists) done distinct among fresh all =
      let apart' = distinct_parts ys (joined lists) distinct in
      let here : (u : ℕ) → has ys u ≡ true → has (ys ++ joined lists) u ≡ true = λ u t. has-append ys (joined lists) u ∙ or_left (has ys u) (has (joined lists) u) t in
      let later : (u : ℕ) → has (joined lists) u ≡ true → has (ys ++ joined lists) u ≡ true = λ u t. has-append ys (joined lists) u ∙ or_right (has ys u) (has (joined lists) u) t in
      let before : ℕ → Bag = at_set done (changed old change) old in
      let is : AreChanged ys before change (changed old change) = λ y t i. sum_of (cond (sym (fresh y (here y t)) i) (changed old change y) (old y)) (change y) in
      let rest = in_turn lists (ys ++ done) apart'.1 (λ u t. among u (later u t))
      (λ u t. has-append ys done u ∙ (λ i. false_from_ne_true (has ys u) (λ m. both_ways (has (joined lists) u) (apart'.2 u m) t) i || fresh u (later u t) i))
      (λ u t out. has-append ys done u ∙ ⊎_elim
      (λ m. or_left (has ys u) (has done u) m)
      (λ n. or_right (has ys u) (has done u) (all u t (has-append ys (joined lists) u ∙ (λ i. n i || out i))))
      (cases_Bool (has ys u))) in
      rest
      ∙ ap (λ b. sum_of b (comps_in_turn f us (ys ++ done) lists old change))
      ((λ i. value f (map (λ u. (ap (λ b. cond b (changed old change u) (old u)) (has-append ys done u) ∙ sym (nested (has ys u) (has done u) (changed old change u) (old u))) i) us))
      ∙ value_step f us ys apart apart'.0 (λ u t. among u (here u t)) before change (changed old change) is)
      ∙ sym (sum_assoc (value f (map before us)) (comp f us ys before change) (comps_in_turn f us (ys ++ done) lists old change))

pub comps_in_any_order : CompsInAnyOrder
unfolding has
comps_in_any_order = λ f us lists old change apart is.
    is_difference (value f (map (changed old change) us)) (value f (map old us)) (comps_in_turn f us [] lists old change)
    (in_turn f us apart old change lists [] is.distinct (λ u t. (is.same u).0 t) (λ u t. refl) (λ u t out. absurd (both_ways (has (joined lists) u) out ((is.same u).1 t))))
