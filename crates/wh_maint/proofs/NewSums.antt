-- Sums that are added to those of one column: first those of new rows, then all others.
use Rattle.std.proofs.Common.{◌≡◌, ◌≢◌, refl, sym, ap, subst, ◌∙◌, ℤ, pos, negsuc, neg_ℤ, ◌+ℤ◌, true, false, cond, [], ◌∷◌, ⊎_elim, to_z, of_z, to_z-of_z, arith}
use Rattle.std.specs.Prelude.{FitsSigned}
use Rattle.std.specs.Int.{w128}
use Rattle.std.specs.List.{AllByRecursion}
use Rattle.std.proofs.lemmas.Int.{ints}
use Rattle.wh_row.specs.Row.{Row, is_row, AreRising}
use Rattle.wh_row.specs.Weigh.{Counted, count_in}
use Rattle.wh_row.specs.Bag.{Bag, plus, count, empty, sum_of, written, HasRowsOf}
use Rattle.wh_row.proofs.BagLaws.{same_bag, same_row, itself, count-plus, count-sum_of, count_in-written, written_lists}
use Rattle.wh_maint.specs.Refused.{SumsTogetherFit}
use Rattle.wh_maint.specs.Inner.NewSums.{AreNewRows}
use Rattle.wh_maint.proofs.BagLemmas.{zero_or_not}
use Rattle.wh_maint.proofs.FirstAbsent.{rows_of}
use Rattle.wh_maint.proofs.BothSums.{once, none_in}
use lib.IntN.{+ℤ_idl, +ℤ_idr}

-- each of these has its row's sum, which is not 0
abbrev pub AreTold : Bag → Counted → Type 0
AreTold b es = AllByRecursion (λ (e : Row × ℤ). (count b e.0 ≡ e.1) × (e.1 ≢ pos 0)) es

pub all_told : (b : Bag) → AreTold b (written b)
all_told b = (written_lists b).counted

pub one_told : (b : Bag) (e : Row × ℤ) (rest : Counted) → AreTold b (e ∷ rest) → count b e.0 ≢ pos 0
one_told b e rest told z = told.0.1 (sym told.0.0 ∙ z)

-- a number that is stored as 0
pub zero_by : (n : ℤ) → FitsSigned w128 n → of_z w128 n ≡ 0 → n ≡ pos 0
zero_by n fits e = sym (to_z-of_z fits) ∙ ap (to_z w128) e

-- what holds of this row, and of all others
pub by_row : (P : Row → Type 0) (r : Row) → P r → ((q : Row) → is_row q r ≡ false → P q) → (q : Row) → P q
by_row P r here other q =
    elim (is_row q r) as (λ t. is_row q r ≡ t → P q) [
      | true ↦ λ t. subst P (sym (same_row q r t)) here
      | false ↦ λ t. other q t
    ] refl

pub past : (e : Row × ℤ) (rest : Counted) (q : Row) → is_row q e.0 ≡ false → count_in (e ∷ rest) q ≡ count_in rest q
past e rest q t = (λ i. cond (t i) e.1 (pos 0) +ℤ count_in rest q) ∙ +ℤ_idl _

pub plus_there : (b new : Bag) (r : Row) (n : ℤ) → new ≡ plus b r n → count new r ≡ n +ℤ count b r
plus_there b new r n is = ap (λ x. count x r) is ∙ count-plus b r n r ∙ (λ i. cond (itself r i) n (pos 0) +ℤ count b r)

pub plus_other : (b new : Bag) (r : Row) (n : ℤ) → new ≡ plus b r n → (q : Row) → is_row q r ≡ false → count new q ≡ count b q
plus_other b new r n is q t = ap (λ x. count x q) is ∙ count-plus b r n q ∙ (λ i. cond (t i) n (pos 0) +ℤ count b q) ∙ +ℤ_idl _

regroup : (x b r : ℤ) → (x +ℤ b) +ℤ r ≡ b +ℤ (x +ℤ r)
regroup x b r = omega (arith, ints)

-- a row that is added is no longer to come
moved : (now new : Bag) (e : Row × ℤ) (rest : Counted) → new ≡ plus now e.0 e.1 → (q : Row) → count new q +ℤ count_in rest q ≡ count now q +ℤ count_in (e ∷ rest) q
moved now new e rest is q =
    (λ i. count (is i) q +ℤ count_in rest q)
    ∙ ap (λ z. z +ℤ count_in rest q) (count-plus now e.0 e.1 q)
    ∙ regroup (cond (is_row q e.0) e.1 (pos 0)) (count now q) (count_in rest q)

cancelled : (now old sum entry more : ℤ) → now +ℤ entry ≡ old +ℤ more → entry ≡ sum → more ≡ sum → now ≡ old
cancelled now old sum entry more e f g = omega (arith, ints)

-- the row that comes next has its sum still to come
still : (now old : ℤ) (others : Bag) (e : Row × ℤ) (rest : Counted) → AreTold others (e ∷ rest) → AreRising (rows_of (e ∷ rest))
    → now +ℤ count_in (e ∷ rest) e.0 ≡ old +ℤ count others e.0 → now ≡ old
still now old others e rest told rising h = cancelled now old e.1 _ _ h (once e rest rising) told.0.0

no_more : (a b : ℤ) → a +ℤ pos 0 ≡ b → a ≡ b
no_more a b h = sym (+ℤ_idr a) ∙ h

-- ---- whether they fit

-- the rows that were passed fit
abbrev pub HaveFit : Bag → Bag → Counted → Type 0
HaveFit sums others es = (q : Row) → count_in es q ≢ count others q → FitsSigned w128 (count sums q +ℤ count others q)

pub fit_first : (sums others : Bag) (es : Counted) → es ≡ written others → HaveFit sums others es
fit_first sums others es all q n = absurd (n (ap (λ x. count_in x q) all ∙ count_in-written others q))

pub fit_next : (sums others : Bag) (e : Row × ℤ) (rest : Counted) → AreTold others (e ∷ rest) → FitsSigned w128 (count sums e.0 +ℤ e.1) → HaveFit sums others (e ∷ rest) → HaveFit sums others rest
fit_next sums others e rest told here before =
    by_row (λ q. count_in rest q ≢ count others q → FitsSigned w128 (count sums q +ℤ count others q)) e.0
    (λ _. subst (λ z. FitsSigned w128 (count sums e.0 +ℤ z)) (sym told.0.0) here)
    (λ q t n. before q (λ h. n (sym (past e rest q t) ∙ h)))

pub fit_all : (sums others : Bag) → ((q : Row) → FitsSigned w128 (count sums q)) → HaveFit sums others [] → SumsTogetherFit sums others
fit_all sums others own passed q =
    ⊎_elim (λ z. subst (FitsSigned w128) (sym (ap (λ n. count sums q +ℤ n) z ∙ +ℤ_idr _)) (own q)) (λ n. passed q (λ h. n (sym h))) (zero_or_not (count others q))

pub fit_not : (sums others : Bag) (e : Row × ℤ) (rest : Counted) → AreTold others (e ∷ rest) → ¬ (FitsSigned w128 (count sums e.0 +ℤ e.1)) → ¬ (SumsTogetherFit sums others)
fit_not sums others e rest told unfit h = unfit (subst (λ z. FitsSigned w128 (count sums e.0 +ℤ z)) told.0.0 (h e.0))

-- ---- the new rows

-- of the rows that were passed, the new ones have their sums
pub record AreFound (sums others new : Bag) (es : Counted) : Type 0 where
  pub there : (q : Row) → count sums q ≡ pos 0 → count new q +ℤ count_in es q ≡ count others q
  pub none : (q : Row) → count sums q ≢ pos 0 → count new q ≡ pos 0

pub found_first : (sums others new : Bag) (es : Counted) → es ≡ written others → new ≡ empty → AreFound sums others new es
found_first sums others new es all e = record {
  there = λ q _. (λ i. count (e i) q +ℤ count_in (all i) q) ∙ (λ i. none_in q i +ℤ count_in-written others q i) ∙ +ℤ_idl _;
  none = λ q _. ap (λ b. count b q) e ∙ none_in q;
}

pub found_none : (sums others new : Bag) (e : Row × ℤ) (rest : Counted) → AreTold others (e ∷ rest) → AreRising (rows_of (e ∷ rest)) → count sums e.0 ≡ pos 0
    → AreFound sums others new (e ∷ rest) → count new e.0 ≡ pos 0
found_none sums others new e rest told rising z found = still (count new e.0) (pos 0) others e rest told rising (found.there e.0 z ∙ sym (+ℤ_idl _))

pub found_new : (sums others now new : Bag) (e : Row × ℤ) (rest : Counted) → count sums e.0 ≡ pos 0 → new ≡ plus now e.0 e.1
    → AreFound sums others now (e ∷ rest) → AreFound sums others new rest
found_new sums others now new e rest z is found = record {
  there = λ q s. moved now new e rest is q ∙ found.there q s;
  none = by_row (λ q. count sums q ≢ pos 0 → count new q ≡ pos 0) e.0 (λ n. absurd (n z)) (λ q t n. plus_other now new e.0 e.1 is q t ∙ found.none q n);
}

pub found_old : (sums others new : Bag) (e : Row × ℤ) (rest : Counted) → count sums e.0 ≢ pos 0 → AreFound sums others new (e ∷ rest) → AreFound sums others new rest
found_old sums others new e rest n found = record {
  there = by_row (λ q. count sums q ≡ pos 0 → count new q +ℤ count_in rest q ≡ count others q) e.0 (λ z. absurd (n z))
      (λ q t z. ap (λ x. count new q +ℤ x) (sym (past e rest q t)) ∙ found.there q z);
  none = found.none;
}

pub found_all : (sums others new : Bag) → AreFound sums others new [] → AreNewRows sums others new
found_all sums others new found = record { there = λ q z. no_more _ _ (found.there q z); none = found.none }

pub brings_one : (sums others : Bag) (e : Row × ℤ) (rest : Counted) → AreTold others (e ∷ rest) → count sums e.0 ≡ pos 0 → ¬ (HasRowsOf sums others)
brings_one sums others e rest told z h = h e.0 (one_told others e rest told) z

-- ---- new rows that get their sums

-- of these rows, those that were passed have their sums, and all others are as they were
pub record AreBeingAdded (old new now : Bag) (es : Counted) : Type 0 where
  pub added : (q : Row) → count now q +ℤ count_in es q ≡ count old q +ℤ count new q
  pub kept : (q : Row) → count new q ≡ pos 0 → count now q ≡ count old q

pub adding_first : (old new : Bag) (es : Counted) → es ≡ written new → AreBeingAdded old new old es
adding_first old new es all = record {
  added = λ q. ap (λ x. count old q +ℤ count_in x q) all ∙ ap (λ z. count old q +ℤ z) (count_in-written new q);
  kept = λ q _. refl;
}

pub adding_none : (old new now : Bag) (e : Row × ℤ) (rest : Counted) → AreTold new (e ∷ rest) → AreRising (rows_of (e ∷ rest))
    → ((q : Row) → count new q ≢ pos 0 → count old q ≡ pos 0) → AreBeingAdded old new now (e ∷ rest) → count now e.0 ≡ pos 0
adding_none old new now e rest told rising apart adding =
    still (count now e.0) (count old e.0) new e rest told rising (adding.added e.0) ∙ apart e.0 (one_told new e rest told)

pub adding_next : (old new now next : Bag) (e : Row × ℤ) (rest : Counted) → AreTold new (e ∷ rest) → next ≡ plus now e.0 e.1
    → AreBeingAdded old new now (e ∷ rest) → AreBeingAdded old new next rest
adding_next old new now next e rest told is adding = record {
  added = λ q. moved now next e rest is q ∙ adding.added q;
  kept = by_row (λ q. count new q ≡ pos 0 → count next q ≡ count old q) e.0 (λ z. absurd (one_told new e rest told z)) (λ q t z. plus_other now next e.0 e.1 is q t ∙ adding.kept q z);
}

pub adding_all : (old new now : Bag) → AreBeingAdded old new now [] → (q : Row) → count now q ≡ count old q +ℤ count new q
adding_all old new now adding q = no_more _ _ (adding.added q)

pub has_one : (b : Bag) (e : Row × ℤ) (rest : Counted) → AreTold b (e ∷ rest) → b ≢ empty
has_one b e rest told z = one_told b e rest told (ap (λ x. count x e.0) z ∙ none_in e.0)

-- ---- new rows that lose their sums

-- of these rows, those that were passed have no sums, and all rows but these are as they were
pub record AreBeingTaken (old new now : Bag) (es : Counted) : Type 0 where
  pub gone : (q : Row) → count_in es q ≢ count new q → count now q ≡ pos 0
  pub kept : (q : Row) → count new q ≡ pos 0 → count now q ≡ count old q

pub taking_first : (old new : Bag) (es : Counted) → es ≡ written new → AreBeingTaken old new old es
taking_first old new es all = record {
  gone = λ q n. absurd (n (ap (λ x. count_in x q) all ∙ count_in-written new q));
  kept = λ q _. refl;
}

pub taking_next : (old new now next : Bag) (e : Row × ℤ) (rest : Counted) → AreTold new (e ∷ rest)
    → ((q : Row) → count next q ≡ cond (is_row q e.0) (pos 0) (count now q)) → AreBeingTaken old new now (e ∷ rest) → AreBeingTaken old new next rest
taking_next old new now next e rest told is taking =
    let other : (q : Row) → is_row q e.0 ≡ false → count next q ≡ count now q = λ q t. is q ∙ ap (λ b. cond b (pos 0) (count now q)) t in
    record {
      gone = by_row (λ q. count_in rest q ≢ count new q → count next q ≡ pos 0) e.0
          (λ _. is e.0 ∙ ap (λ b. cond b (pos 0) (count now e.0)) (itself e.0))
          (λ q t n. other q t ∙ taking.gone q (λ h. n (sym (past e rest q t) ∙ h)));
      kept = by_row (λ q. count new q ≡ pos 0 → count next q ≡ count old q) e.0 (λ z. absurd (one_told new e rest told z)) (λ q t z. other q t ∙ taking.kept q z);
    }

pub taken_all : (old new now : Bag) → AreBeingTaken old new now [] → (q : Row) → count new q ≢ pos 0 → count now q ≡ pos 0
taken_all old new now taking q n = taking.gone q (λ h. n (sym h))

opposite : (n : ℤ) → neg_ℤ n +ℤ n ≡ pos 0
opposite n = omega (arith, ints)

-- a sum and its opposite
pub cancelled_by : (n less : ℤ) → FitsSigned w128 n → FitsSigned w128 (neg_ℤ (to_z w128 (of_z w128 n))) × (less ≡ neg_ℤ (to_z w128 (of_z w128 n))) → to_z w128 (of_z w128 less) +ℤ n ≡ pos 0
cancelled_by n less f g =
    let fits : FitsSigned w128 less = subst (FitsSigned w128) (sym g.1) g.0 in
    ap (λ z. z +ℤ n) (to_z-of_z fits ∙ g.1 ∙ ap neg_ℤ (to_z-of_z f)) ∙ opposite n

-- the one sum without an opposite is the least
least : (n : ℤ) → FitsSigned w128 n → ¬ (FitsSigned w128 (neg_ℤ n)) → pos 170141183460469231731687303715884105727 +ℤ n ≡ negsuc 0
least n f g = grind (arith, ints)

pub least_by : (n : ℤ) → FitsSigned w128 n → ¬ (FitsSigned w128 (neg_ℤ (to_z w128 (of_z w128 n)))) → pos 170141183460469231731687303715884105727 +ℤ n ≡ negsuc 0
least_by n f g = least n f (λ h. g (subst (λ z. FitsSigned w128 (neg_ℤ z)) (sym (to_z-of_z f)) h))

-- a row without its sum
pub taken_row : (old new : Bag) (r : Row) → count new r ≡ pos 0 → ((q : Row) → is_row q r ≡ false → count new q ≡ count old q)
    → (q : Row) → count new q ≡ cond (is_row q r) (pos 0) (count old q)
taken_row old new r none other =
    by_row (λ q. count new q ≡ cond (is_row q r) (pos 0) (count old q)) r
    (none ∙ sym (ap (λ b. cond b (pos 0) (count old r)) (itself r)))
    (λ q t. other q t ∙ sym (ap (λ b. cond b (pos 0) (count old q)) t))

-- ---- all other rows

-- of the others' rows but the new ones, those that were passed are added; the new ones are as they were
pub record AreFilled (old others new now : Bag) (es : Counted) : Type 0 where
  pub added : (q : Row) → count new q ≡ pos 0 → count now q +ℤ count_in es q ≡ count old q +ℤ count others q
  pub kept : (q : Row) → count new q ≢ pos 0 → count now q ≡ count old q

pub filled_first : (old others new : Bag) (es : Counted) → es ≡ written others → AreFilled old others new old es
filled_first old others new es all = record {
  added = λ q _. ap (λ x. count old q +ℤ count_in x q) all ∙ ap (λ z. count old q +ℤ z) (count_in-written others q);
  kept = λ q _. refl;
}

pub filled_there : (old others new now : Bag) (e : Row × ℤ) (rest : Counted) → AreTold others (e ∷ rest) → AreRising (rows_of (e ∷ rest)) → count new e.0 ≡ pos 0
    → AreFilled old others new now (e ∷ rest) → count now e.0 ≡ count old e.0
filled_there old others new now e rest told rising z filled = still (count now e.0) (count old e.0) others e rest told rising (filled.added e.0 z)

pub filled_next : (old others new now next : Bag) (e : Row × ℤ) (rest : Counted) → count new e.0 ≡ pos 0 → next ≡ plus now e.0 e.1
    → AreFilled old others new now (e ∷ rest) → AreFilled old others new next rest
filled_next old others new now next e rest z is filled = record {
  added = λ q n. moved now next e rest is q ∙ filled.added q n;
  kept = by_row (λ q. count new q ≢ pos 0 → count next q ≡ count old q) e.0 (λ n. absurd (n z)) (λ q t n. plus_other now next e.0 e.1 is q t ∙ filled.kept q n);
}

pub filled_past : (old others new now : Bag) (e : Row × ℤ) (rest : Counted) → count new e.0 ≢ pos 0 → AreFilled old others new now (e ∷ rest) → AreFilled old others new now rest
filled_past old others new now e rest n filled = record {
  added = by_row (λ q. count new q ≡ pos 0 → count now q +ℤ count_in rest q ≡ count old q +ℤ count others q) e.0 (λ z. absurd (n z))
      (λ q t z. ap (λ x. count now q +ℤ x) (sym (past e rest q t)) ∙ filled.added q z);
  kept = filled.kept;
}

with_zero : (now old new more : ℤ) → now ≡ old +ℤ more → new ≡ pos 0 → now +ℤ new ≡ old +ℤ more
with_zero now old new more e f = omega (arith, ints)

pub filled_all : (old others new now : Bag) → ((q : Row) → count new q ≢ pos 0 → count new q ≡ count others q) → AreFilled old others new now []
    → (q : Row) → count now q +ℤ count new q ≡ count old q +ℤ count others q
filled_all old others new now among filled q =
    ⊎_elim (λ z. with_zero (count now q) (count old q) (count new q) (count others q) (no_more _ _ (filled.added q z)) z)
    (λ n i. filled.kept q n i +ℤ among q n i)
    (zero_or_not (count new q))

-- ---- all rows, one after another

-- the others' rows that were passed are added
abbrev pub HaveComeBy : Bag → Bag → Bag → Counted → Type 0
HaveComeBy old others now es = (q : Row) → count now q +ℤ count_in es q ≡ count old q +ℤ count others q

pub come_first : (old others : Bag) (es : Counted) → es ≡ written others → HaveComeBy old others old es
come_first old others es all q = ap (λ x. count old q +ℤ count_in x q) all ∙ ap (λ z. count old q +ℤ z) (count_in-written others q)

pub come_there : (old others now : Bag) (e : Row × ℤ) (rest : Counted) → AreTold others (e ∷ rest) → AreRising (rows_of (e ∷ rest))
    → HaveComeBy old others now (e ∷ rest) → count now e.0 ≡ count old e.0
come_there old others now e rest told rising come = still (count now e.0) (count old e.0) others e rest told rising (come e.0)

pub come_next : (old others now next : Bag) (e : Row × ℤ) (rest : Counted) → next ≡ plus now e.0 e.1 → HaveComeBy old others now (e ∷ rest) → HaveComeBy old others next rest
come_next old others now next e rest is come q = moved now next e rest is q ∙ come q

pub come_all : (old others now : Bag) → HaveComeBy old others now [] → now ≡ sum_of old others
come_all old others now come = same_bag now (sum_of old others) (λ q. no_more _ _ (come q) ∙ sym (count-sum_of old others q))

-- ---- one column

pub apart : (sums others new : Bag) → AreNewRows sums others new → (q : Row) → count new q ≢ pos 0 → count sums q ≡ pos 0
apart sums others new are q n = ⊎_elim (λ z. z) (λ m. absurd (n (are.none q m))) (zero_or_not (count sums q))

pub among : (sums others new : Bag) → AreNewRows sums others new → (q : Row) → count new q ≢ pos 0 → count new q ≡ count others q
among sums others new are q n = are.there q (apart sums others new are q n)

pub brings_some : (sums others new : Bag) → AreNewRows sums others new → new ≢ empty → ¬ (HasRowsOf sums others)
brings_some sums others new are some has =
    some (same_bag new empty (λ q. ⊎_elim
    (λ z. are.there q z ∙ ⊎_elim (λ y. y) (λ n. absurd (has q n z)) (zero_or_not (count others q)))
    (λ n. are.none q n) (zero_or_not (count sums q)) ∙ sym (none_in q)))

left_zero : (mid a b : ℤ) → mid ≡ a +ℤ b → a ≡ pos 0 → mid ≡ b
left_zero mid a b e f = omega (arith, ints)

right_zero : (mid a b : ℤ) → mid ≡ a +ℤ b → b ≡ pos 0 → mid ≡ a
right_zero mid a b e f = omega (arith, ints)

pub all_there : (sums others new mid : Bag) → AreNewRows sums others new → ((q : Row) → count mid q ≡ count sums q +ℤ count new q) → HasRowsOf mid others
all_there sums others new mid are is q n z =
    ⊎_elim (λ s. n (sym (left_zero _ _ _ (is q) s ∙ are.there q s) ∙ z)) (λ m. m (sym (right_zero _ _ _ (is q) (are.none q m)) ∙ z)) (zero_or_not (count sums q))

pub rest_fits : (sums others new mid : Bag) → ((q : Row) → count mid q ≡ count sums q +ℤ count new q) → SumsTogetherFit sums others
    → (q : Row) → count new q ≡ pos 0 → FitsSigned w128 (count mid q +ℤ count others q)
rest_fits sums others new mid is fit q z = subst (λ n. FitsSigned w128 (n +ℤ count others q)) (sym (right_zero _ _ _ (is q) z)) (fit q)

both : (all mid new sums more : ℤ) → all +ℤ new ≡ mid +ℤ more → mid ≡ sums +ℤ new → all ≡ sums +ℤ more
both all mid new sums more e f = omega (arith, ints)

pub column_added : (sums others new mid all : Bag) → ((q : Row) → count mid q ≡ count sums q +ℤ count new q)
    → ((q : Row) → count all q +ℤ count new q ≡ count mid q +ℤ count others q) → all ≡ sum_of sums others
column_added sums others new mid all is then =
    same_bag all (sum_of sums others) (λ q. both (count all q) (count mid q) (count new q) (count sums q) (count others q) (then q) (is q) ∙ sym (count-sum_of sums others q))

-- new rows that got their sums, all or some of them, and lost them again
pub taken_back : (sums new mid all : Bag) → ((q : Row) → count new q ≢ pos 0 → count sums q ≡ pos 0) → ((q : Row) → count new q ≡ pos 0 → count mid q ≡ count sums q)
    → ((q : Row) → count new q ≢ pos 0 → count all q ≡ pos 0) → ((q : Row) → count new q ≡ pos 0 → count all q ≡ count mid q) → all ≡ sums
taken_back sums new mid all apart same gone kept =
    same_bag all sums (λ q. ⊎_elim (λ z. kept q z ∙ same q z) (λ n. gone q n ∙ sym (apart q n)) (zero_or_not (count new q)))

pub others_same : (sums new mid : Bag) → ((q : Row) → count mid q ≡ count sums q +ℤ count new q) → (q : Row) → count new q ≡ pos 0 → count mid q ≡ count sums q
others_same sums new mid is q z = right_zero _ _ _ (is q) z
