-- The first row of which too much is taken, while bags are walked in rising order.
use Rattle.std.proofs.Common.{◌≡◌, ◌≢◌, refl, sym, ap, subst, ◌∙◌, ℤ, pos, negsuc, ◌+ℤ◌, true, false, cond, List, [], ◌∷◌, map, ⊎_elim, arith}
use Rattle.std.specs.Prelude.{◌≤ℤ◌}
use mathlib.Core.Logic.{◌⊎◌, inl, inr}
use Rattle.std.specs.List.{AllByRecursion}
use Rattle.std.specs.List.Sorted.{IsStrictlySortedBy}
use Rattle.std.proofs.lemmas.Int.{ints}
use Rattle.std.specs.declared.cmp.Ordering.TheVariants.{Less, Equal, Greater}
use Rattle.std.specs.Ordering.{is_eq, ordering_reverse}
use Rattle.wh_row.specs.Row.{Row, row_cmp, is_row, AreRising}
use Rattle.wh_row.specs.Weigh.{Counted, count_in}
use Rattle.wh_row.specs.Bag.{Bag, count, written}
use Rattle.wh_row.proofs.BagLaws.{rows_total, rows_exact, same_row, each_entry}
use Rattle.wh_maint.specs.Fit.{IsAbsent, IsFirstAbsent}
use Rattle.wh_maint.specs.Refused.{NoneAbsent}
use Rattle.wh_maint.specs.Inner.Refused.{IsFirstAbsentIn}
use lib.IntN.{+ℤ_idl}

abbrev pub rows_of : Counted → List Row
rows_of es = map {A = Row × ℤ} {B = Row} (λ e. e.0) es

-- no row of which too much is taken, and which counts below zero here, was passed
abbrev pub NonePassed : Bag → Bag → Counted → Type 0
NonePassed bag other rest = (q : Row) → count bag q ≤ℤ negsuc 0 → IsAbsent bag other q → count_in rest q ≡ count bag q

-- a row below a row that is below all of these is none of them
none_under : (q r : Row) (es : Counted) → row_cmp q r ≡ Less → AllByRecursion (λ y. row_cmp r y ≡ Less) (rows_of es) → count_in es q ≡ pos 0
none_under q r [] l h = refl
none_under q r (e ∷ es) l h = λ i. cond (is_eq (rows_total.trans q r e.0 l h.0 i)) e.1 (pos 0) +ℤ none_under q r es l h.1 i

pub passed : (bag other : Bag) (e : Row × ℤ) (rest : Counted) → (count bag e.0 ≤ℤ negsuc 0 → ¬ (IsAbsent bag other e.0)) → NonePassed bag other (e ∷ rest) → NonePassed bag other rest
passed bag other e rest n h = λ q b a.
    elim (is_row q e.0) as (λ t. is_row q e.0 ≡ t → cond t e.1 (pos 0) +ℤ count_in rest q ≡ count bag q → count_in rest q ≡ count bag q) [
      | true ↦ λ t _. absurd (n (subst (λ r. count bag r ≤ℤ negsuc 0) (same_row q e.0 t) b) (subst (IsAbsent bag other) (same_row q e.0 t) a))
      | false ↦ λ t x. sym (+ℤ_idl _) ∙ x
    ] refl (h q b a)

pub tail_rises : (e : Row × ℤ) (rest : Counted) → AreRising (rows_of (e ∷ rest)) → AreRising (rows_of rest)
unfolding IsStrictlySortedBy
tail_rises e rest h = h.1

not_both : (z : ℤ) → z ≡ pos 0 → z ≤ℤ negsuc 0 → ⊥
not_both z e l = omega (arith, ints)

pub found : (bag other : Bag) (e : Row × ℤ) (rest : Counted) → AreRising (rows_of (e ∷ rest)) → IsAbsent bag other e.0 → NonePassed bag other (e ∷ rest) → IsFirstAbsentIn bag other e.0
unfolding IsStrictlySortedBy
found bag other e rest rising a h =
    let none : (q : Row) → row_cmp q e.0 ≡ Less → count_in (e ∷ rest) q ≡ pos 0 = λ q l i. cond (is_eq (l i)) e.1 (pos 0) +ℤ none_under q e.0 rest l rising.0 i in
    record {
      absent = a;
      others = λ q l b a. not_both (count bag q) (sym (h q b a) ∙ none q l) b;
    }

turned : (table change : Bag) (q : Row) → IsAbsent table change q → IsAbsent change table q
turned table change q a = omega (arith, ints)

-- of two numbers that are below zero together one is
one_below : (a b : ℤ) → (a +ℤ b) ≤ℤ negsuc 0 → (a ≤ℤ negsuc 0) ⊎ (b ≤ℤ negsuc 0)
one_below (pos n) b l = inr (omega (arith, ints))
one_below (negsuc n) b l = inl (omega (arith, ints))

-- a row that is absent counts below zero in one of the bags
in_one : (table change : Bag) (q : Row) → (count table q ≤ℤ negsuc 0 → ¬ (IsAbsent table change q)) → (count change q ≤ℤ negsuc 0 → ¬ (IsAbsent change table q)) → ¬ (IsAbsent table change q)
in_one table change q one other a =
    ⊎_elim (λ n. one n a) (λ m. other m (turned table change q a)) (one_below (count table q) (count change q) a)

pub none_in_both : (table change : Bag) → ((q : Row) → count table q ≤ℤ negsuc 0 → ¬ (IsAbsent table change q))
    → ((q : Row) → count change q ≤ℤ negsuc 0 → ¬ (IsAbsent change table q)) → NoneAbsent table change
none_in_both table change one other = λ q. in_one table change q (one q) (other q)

pub first_with : (table change : Bag) (first : Row) → IsFirstAbsentIn table change first
    → ((q : Row) → row_cmp q first ≡ Less → count change q ≤ℤ negsuc 0 → ¬ (IsAbsent change table q)) → IsFirstAbsent table change first
first_with table change first is other = record { absent = is.absent; others = λ q l. in_one table change q (is.others q l) (other q l) }

-- whichever bag comes first
pub first_turned : (table change : Bag) (first : Row) → IsFirstAbsent change table first → IsFirstAbsent table change first
first_turned table change first is = record { absent = turned change table first is.absent; others = λ q l a. is.others q l (turned table change q a) }

-- what is below the lesser of two rows is below the other
pub below_both : (q first second : Row) → row_cmp second first ≢ Less → row_cmp q first ≡ Less → row_cmp q second ≡ Less
below_both q first second n l =
    elim (row_cmp first second) as (λ o. row_cmp first second ≡ o → row_cmp q second ≡ Less) [
      | Less ↦ λ e. rows_total.trans q first second l e
      | Equal ↦ λ e. subst (λ r. row_cmp q r ≡ Less) (rows_exact first second e) l
      | Greater ↦ λ e. absurd (n (rows_total.antisymm second first ∙ ap ordering_reverse e))
    ] refl

pub below_lesser : (q first second : Row) → row_cmp second first ≡ Less → row_cmp q second ≡ Less → row_cmp q first ≡ Less
below_lesser q first second less l = rows_total.trans q second first l less

-- each of these records has its row's count
abbrev pub AreTold : Bag → Counted → Type 0
AreTold bag es = AllByRecursion (λ (e : Row × ℤ). count bag e.0 ≡ e.1) es

pub told_written : (bag : Bag) → AreTold bag (written bag)
told_written bag = each_entry (λ q n. count bag q ≡ n) bag (λ q n. refl)

pub absent_by : (x y a : ℤ) → x ≡ a → (a +ℤ y) ≤ℤ negsuc 0 → (x +ℤ y) ≤ℤ negsuc 0
absent_by x y a e l = omega (arith, ints)
