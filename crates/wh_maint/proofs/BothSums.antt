-- The columns of two Comps together, column by column.
use Rattle.std.proofs.Common.{◌≡◌, ℕ, zero, suc, ◌+◌, refl, sym, ap, subst, ◌∙◌, ℤ, pos, ◌+ℤ◌, cond, List, [], ◌∷◌, ◌++◌, map, length, take, drop, arith}
use Rattle.std.specs.Prelude.{FitsSigned, Result, Ok, Err, OnOk}
use Rattle.std.specs.Int.{w128}
use Rattle.std.specs.List.{AllByRecursion, range_with_len}
use Rattle.std.specs.FinMap as fin
use Rattle.std.proofs.Math.Seq.{take-length}
use Rattle.std.proofs.lemmas.List.{append-nil}
use Rattle.std.specs.List.Sorted.{IsStrictlySortedBy}
use Rattle.std.proofs.lemmas.Int.{ints}
use Rattle.std.specs.declared.cmp.Ordering.TheVariants.{Less}
use Rattle.std.specs.Ordering.{is_eq}
use Rattle.wh_row.specs.Row.{Row, row_cmp, AreRising}
use Rattle.wh_row.specs.Weigh.{Counted, count_in}
use Rattle.wh_row.specs.Bag.{Bag, count, empty, number, sum_of, SumFits, HasRowsOf}
use Rattle.wh_row.specs.declared.fault.BagFault as bag
use Rattle.wh_row.specs.declared.fault.BagFault.TheVariants as bag_fault
use Rattle.wh_row.proofs.BagLaws.{itself, count-sum_of}
use Rattle.wh_maint.specs.Comp.{bag_at, merged, PendingOf}
use Rattle.wh_maint.specs.Inner.Fault.{bag_fault_of}
use Rattle.wh_maint.specs.Refused.{SumsTogetherFit, MergedFit, BringsNothing, IsMergeFault}
use Rattle.wh_maint.specs.declared.fault.MaintFault.{MaintFault}
use Rattle.wh_maint.proofs.FirstAbsent.{rows_of}
use lib.IntN.{+ℤ_idr}

-- ---- one row after another

none_after : (r : Row) (es : Counted) → AllByRecursion (λ y. row_cmp r y ≡ Less) (rows_of es) → count_in es r ≡ pos 0
none_after r [] h = refl
none_after r (e ∷ es) h = λ i. cond (is_eq (h.0 i)) e.1 (pos 0) +ℤ none_after r es h.1 i

pub once : (e : Row × ℤ) (rest : Counted) → AreRising (rows_of (e ∷ rest)) → count_in (e ∷ rest) e.0 ≡ e.1
unfolding IsStrictlySortedBy
once e rest rising = (λ i. cond (itself e.0 i) e.1 (pos 0) +ℤ none_after e.0 rest rising.0 i) ∙ +ℤ_idr e.1

pub none_in : (q : Row) → count empty q ≡ pos 0
none_in q = ap number (fin.get-empty row_cmp q)

-- ---- column by column

from_next : (f : ℕ → Bag) (k n : ℕ) → map f (range_with_len (k + 1) n) ≡ map (λ j. f (suc j)) (range_with_len k n)
from_next f k zero = refl
from_next f k (suc n) = let e : k + 1 ≡ suc k = omega arith in λ i. f (e i) ∷ from_next f (k + 1) n i

pub first_merged : (a b : Bag) (xs ys : List Bag) → merged (a ∷ xs) (b ∷ ys) ≡ sum_of a b ∷ merged xs ys
first_merged a b xs ys = ap (λ cs. sum_of a b ∷ cs) (from_next (λ j. sum_of (bag_at (a ∷ xs) j) (bag_at (b ∷ ys) j)) 0 (length xs))

-- one column more
pub column_more : (a b c : Bag) (xs ys us vs ws : List Bag) → us ≡ a ∷ xs → vs ≡ b ∷ ys → c ≡ sum_of a b → ws ≡ merged xs ys → c ∷ ws ≡ merged us vs
column_more a b c xs ys us vs ws e f g h = (λ i. g i ∷ h i) ∙ sym (first_merged a b xs ys) ∙ (λ i. merged (sym e i) (sym f i))

range_length : (f : ℕ → Bag) (k n : ℕ) → length (map f (range_with_len k n)) ≡ n
range_length f k zero = refl
range_length f k (suc n) = ap suc (range_length f (k + 1) n)

pub merged_length : (us vs : List Bag) → length (merged us vs) ≡ length us
merged_length us vs = range_length (λ j. sum_of (bag_at us j) (bag_at vs j)) 0 (length us)

take_whole : (n : ℕ) (xs : List Bag) → n ≡ length xs → take n xs ≡ xs
take_whole n xs e = ap (λ k. take k xs) e ∙ take-length xs

drop_whole : (n : ℕ) (xs : List Bag) → n ≡ length xs → drop n xs ≡ []
drop_whole n [] e = ap (λ k. drop k []) e
drop_whole n (x ∷ xs) e = ap (λ k. drop k (x ∷ xs)) e ∙ drop_whole (length xs) xs refl

-- a list that was lent, and came back with as many members
pub whole : (n : ℕ) (xs ys : List Bag) → length ys ≡ length xs → n ≡ length xs → take n (ys ++ drop (length ys) xs) ≡ ys
whole n xs ys e f = ap (λ zs. take n (ys ++ zs)) (drop_whole (length ys) xs e) ∙ ap (take n) (append-nil ys) ∙ take_whole n ys (f ∙ sym e)

no_columns : (us : List Bag) → length us ≡ 0 → us ≡ []
no_columns [] e = refl
no_columns (u ∷ us) e = absurd (omega arith)

pub none_merged : (us vs : List Bag) → length us ≡ 0 → us ≡ merged us vs
none_merged us vs e = no_columns us e ∙ (λ i. merged (sym (no_columns us e) i) vs)

-- ---- whether they fit

neither_counts : (q : Row) → FitsSigned w128 (count empty q +ℤ count empty q)
neither_counts q =
    let z = none_in q in
    subst (FitsSigned w128) (λ i. sym z i +ℤ sym z i) (let f : FitsSigned w128 (pos 0 +ℤ pos 0) = omega (arith, ints) in f)

pub none_fit : (a b : Bag) (us vs : List Bag) → length us ≡ 0 → length vs ≡ 0 → SumFits a b → MergedFit (a ∷ us) (b ∷ vs)
none_fit a b us vs e f fit =
    subst (λ (xs : List Bag). MergedFit (a ∷ xs) (b ∷ vs)) (sym (no_columns us e))
    (subst (λ (ys : List Bag). MergedFit (a ∷ []) (b ∷ ys)) (sym (no_columns vs f)) (record { counts = fit; sums = λ j. neither_counts }))

at_places : (a b : Bag) (xs ys : List Bag) → SumsTogetherFit a b → ((j : ℕ) → SumsTogetherFit (bag_at xs j) (bag_at ys j)) → (j : ℕ) → SumsTogetherFit (bag_at (a ∷ xs) j) (bag_at (b ∷ ys) j)
at_places a b xs ys f g zero = f
at_places a b xs ys f g (suc j) = g j

pub fit_more : (counts more a b : Bag) (xs ys us vs : List Bag) → us ≡ a ∷ xs → vs ≡ b ∷ ys → SumsTogetherFit a b → MergedFit (counts ∷ xs) (more ∷ ys) → MergedFit (counts ∷ us) (more ∷ vs)
fit_more counts more a b xs ys us vs e f here fit =
    subst (λ (ls : List Bag). MergedFit (counts ∷ ls) (more ∷ vs)) (sym e)
    (subst (λ (ls : List Bag). MergedFit (counts ∷ a ∷ xs) (more ∷ ls)) (sym f) (record { counts = fit.counts; sums = at_places a b xs ys here fit.sums }))

opened : (counts more a b : Bag) (xs ys us vs : List Bag) → us ≡ a ∷ xs → vs ≡ b ∷ ys → MergedFit (counts ∷ us) (more ∷ vs) → MergedFit (counts ∷ a ∷ xs) (more ∷ b ∷ ys)
opened counts more a b xs ys us vs e f fit =
    subst (λ (ls : List Bag). MergedFit (counts ∷ ls) (more ∷ b ∷ ys)) e (subst (λ (ls : List Bag). MergedFit (counts ∷ us) (more ∷ ls)) f fit)

pub fit_here : (counts more a b : Bag) (xs ys us vs : List Bag) → us ≡ a ∷ xs → vs ≡ b ∷ ys → MergedFit (counts ∷ us) (more ∷ vs) → SumsTogetherFit a b
fit_here counts more a b xs ys us vs e f fit = (opened counts more a b xs ys us vs e f fit).sums 0

pub fit_less : (counts more a b : Bag) (xs ys us vs : List Bag) → us ≡ a ∷ xs → vs ≡ b ∷ ys → MergedFit (counts ∷ us) (more ∷ vs) → MergedFit (counts ∷ xs) (more ∷ ys)
fit_less counts more a b xs ys us vs e f fit =
    let all = opened counts more a b xs ys us vs e f fit in
    record { counts = all.counts; sums = λ j. all.sums (suc j) }

pub all_opened : (a b : Bag) (xs ys us vs : List Bag) → us ≡ a ∷ xs → vs ≡ b ∷ ys → ((j : ℕ) → SumsTogetherFit (bag_at us j) (bag_at vs j))
    → (j : ℕ) → SumsTogetherFit (bag_at (a ∷ xs) j) (bag_at (b ∷ ys) j)
all_opened a b xs ys us vs e f fit j =
    subst (λ (ls : List Bag). SumsTogetherFit (bag_at ls j) (bag_at (b ∷ ys) j)) e
    (subst (λ (ls : List Bag). SumsTogetherFit (bag_at us j) (bag_at ls j)) f (fit j))

pub on_ok : {A E : Type 0} (r : Result A E) (P Q : Type 0) → (P → Q) → OnOk r P → OnOk r Q
on_ok (Ok x) P Q f h = f h
on_ok (Err e) P Q f h = h

-- ---- whether rows are new

has_rows : (counts more a b : Bag) (xs ys us vs : List Bag) → us ≡ a ∷ xs → vs ≡ b ∷ ys → BringsNothing (counts ∷ us) (more ∷ vs) → (j : ℕ) → HasRowsOf (bag_at (counts ∷ a ∷ xs) j) (bag_at (more ∷ b ∷ ys) j)
has_rows counts more a b xs ys us vs e f none j =
    subst (λ (ls : List Bag). HasRowsOf (bag_at (counts ∷ ls) j) (bag_at (more ∷ b ∷ ys) j)) e
    (subst (λ (ls : List Bag). HasRowsOf (bag_at (counts ∷ us) j) (bag_at (more ∷ ls) j)) f (none j))

pub nothing_here : (counts more a b : Bag) (xs ys us vs : List Bag) → us ≡ a ∷ xs → vs ≡ b ∷ ys → BringsNothing (counts ∷ us) (more ∷ vs) → HasRowsOf a b
nothing_here counts more a b xs ys us vs e f none = has_rows counts more a b xs ys us vs e f none 1

pub nothing_less : (counts more a b : Bag) (xs ys us vs : List Bag) → us ≡ a ∷ xs → vs ≡ b ∷ ys → BringsNothing (counts ∷ us) (more ∷ vs) → BringsNothing (counts ∷ xs) (more ∷ ys)
nothing_less counts more a b xs ys us vs e f none zero = has_rows counts more a b xs ys us vs e f none 0
nothing_less counts more a b xs ys us vs e f none (suc j) = has_rows counts more a b xs ys us vs e f none (suc (suc j))

-- ---- which fault

pub merge_fault : (view : ℕ) (columns others : List Bag) (fault : bag.BagFault) (m : MaintFault) → m ≡ bag_fault_of view fault → (fault ≡ bag_fault.Large → ¬ (MergedFit columns others)) → IsMergeFault view columns others m
merge_fault view columns others bag_fault.Memory m e h = subst (IsMergeFault view columns others) (sym e) tt
merge_fault view columns others bag_fault.Large m e h = subst (IsMergeFault view columns others) (sym e) (refl, h refl)

-- what a value of this view and these columns shows
pub columns_by : (view : ℕ) (b : Bag) (xs ys : List Bag) (p : PendingOf) → xs ≡ ys → record { view = view; columns = b ∷ ys } ≡ p → b ∷ xs ≡ p.columns
columns_by view b xs ys p e f = ap (λ (bags : List Bag). b ∷ bags) e ∙ ap (λ (shown : PendingOf). shown.columns) f

pub columns_fit : (xs ys us vs : List Bag) → xs ≡ us → ys ≡ vs → MergedFit xs ys → MergedFit us vs
columns_fit xs ys us vs e f fit = subst (λ (bags : List Bag). MergedFit us bags) f (subst (λ (bags : List Bag). MergedFit bags ys) e fit)

pub columns_bring : (xs ys us vs : List Bag) → xs ≡ us → ys ≡ vs → BringsNothing us vs → BringsNothing xs ys
columns_bring xs ys us vs e f none j =
    subst (λ (bags : List Bag). HasRowsOf (bag_at bags j) (bag_at ys j)) (sym e)
    (subst (λ (bags : List Bag). HasRowsOf (bag_at us j) (bag_at bags j)) (sym f) (none j))

-- ---- counts taken in, and then the sums

pub taken_in : (mine others counted all : List Bag) (more : Bag) (sums : List Bag) → more ∷ sums ≡ others
    → bag_at counted 0 ≡ sum_of (bag_at mine 0) more → ((j : ℕ) → bag_at counted (suc j) ≡ bag_at mine (suc j)) → bag_at all 0 ≡ bag_at counted 0
    → ((j : ℕ) (q : Row) → count (bag_at all (suc j)) q ≡ count (bag_at counted (suc j)) q +ℤ count (bag_at sums j) q)
    → (j : ℕ) (q : Row) → count (bag_at all j) q ≡ count (bag_at mine j) q +ℤ count (bag_at others j) q
taken_in mine others counted all more sums is here kept same then zero q =
    ap (λ b. count b q) (same ∙ here) ∙ count-sum_of (bag_at mine 0) more q ∙ (λ i. count (bag_at mine 0) q +ℤ count (bag_at (is i) 0) q)
taken_in mine others counted all more sums is here kept same then (suc j) q =
    then j q ∙ (λ i. count (kept j i) q +ℤ count (bag_at (is i) (suc j)) q)
