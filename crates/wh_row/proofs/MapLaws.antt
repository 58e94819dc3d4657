-- What the entries of a map from rows count.
use Rattle.std.proofs.Common.{◌≡◌, ◌≢◌, refl, sym, ap, subst, ◌∙◌, zero, suc, ℤ, pos, negsuc, ◌+ℤ◌, true, false, cond, Bool, List, [], ◌∷◌, Option, Some, None, T, ◌&&◌, map, FitsSigned, unwrap_or, Result, Ok, Err, OnOk, OnErr}
use lib.IntN.{+ℤ_idl, +ℤ_idr}
use mir.Syntax.{w64}
use Rattle.std.specs.Int.{Width}
use Rattle.std.specs.FinMap as fin
use Rattle.std.specs.Map.{keys_of}
use Rattle.std.specs.List.Sorted.{IsStrictlySortedBy}
use Rattle.std.specs.List.{AllByRecursion}
use Rattle.std.specs.FinMap.Entries.{by_order, put, below_all}
use Rattle.std.specs.Ordering.{is_lt}
use Rattle.std.specs.declared.cmp.Ordering.{Ordering}
use Rattle.std.specs.declared.cmp.Ordering.TheVariants.{Less, Equal, Greater}
use Rattle.wh_pieces.specs.Place.{AreRisingRows}
use Rattle.wh_pieces.specs.Pieces.{found, with_entry, without_entry}
use Rattle.wh_pieces.specs.Merged.{IsCombined, AreMerged, HaveRowsOf as HaveFoundOf}
use Rattle.wh_pieces.proofs.BringLaws.{found-with, found-without, found_first, none_after, rising_tail}
use Rattle.wh_row.specs.Row.{Row, row_cmp, is_row}
use Rattle.wh_row.specs.Weigh.{Counted}
use Rattle.wh_row.specs.Bag.{Bag, number, count, set_count, sum_of, NonZero, more, fewer, whole, written, SumFits, HasRowsOf}
use Rattle.wh_row.specs.Inner.Room.{unless_zero}
use Rattle.wh_row.specs.Stored.{from_counts}
use Rattle.wh_row.specs.Inner.Stored.{AreCountsIn}
use Rattle.wh_row.proofs.RowLaws.{rows_total, same_row, and_first, is_less}
use Rattle.wh_row.proofs.CountLaws.{count-set_count, count-sum_of, same_bag}
use Rattle.wh_row.proofs.WrittenLaws.{entries-empty}

or_zero-cond : (b : Bool) (z : ℤ) (o : Option ℤ) → unwrap_or (cond b (Some z) o) (pos 0) ≡ cond b z (unwrap_or o (pos 0))
or_zero-cond true z o = refl
or_zero-cond false z o = refl

none-cond : (b : Bool) (o : Option ℤ) → unwrap_or (cond b None o) (pos 0) ≡ cond b (pos 0) (unwrap_or o (pos 0))
none-cond true o = refl
none-cond false o = refl

-- the bag counts a row as the map's look-up does
pub count-from_counts : (es : Counted) (q : Row) → count (from_counts es) q ≡ unwrap_or (found q es) (pos 0)
count-from_counts [] q = ap number (fin.get-empty row_cmp q)
count-from_counts (e ∷ es) q =
    count-set_count (from_counts es) e.0 e.1 q
    ∙ ap (cond (is_row q e.0) e.1) (count-from_counts es q)
    ∙ sym (or_zero-cond (is_row q e.0) e.1 _)

-- ---- an entry put in, or taken out

pub from_counts-with : (es : Counted) (r : Row) (v : ℤ) → from_counts (with_entry es r v) ≡ set_count (from_counts es) r v
from_counts-with es r v = same_bag _ _ (λ q.
    count-from_counts (with_entry es r v) q
    ∙ ap (λ o. unwrap_or o (pos 0)) (found-with es r v q)
    ∙ or_zero-cond (is_row q r) v (found q es)
    ∙ ap (cond (is_row q r) v) (sym (count-from_counts es q))
    ∙ sym (count-set_count (from_counts es) r v q))

pub from_counts-without : (es fs : Counted) (r : Row) → fs ≡ without_entry es r → found r fs ≡ None → from_counts fs ≡ set_count (from_counts es) r (pos 0)
from_counts-without es fs r is none = same_bag _ _ (λ q.
    count-from_counts fs q
    ∙ ap (λ o. unwrap_or o (pos 0)) (found-without es fs r is none q)
    ∙ none-cond (is_row q r) (found q es)
    ∙ ap (cond (is_row q r) (pos 0)) (sym (count-from_counts es q))
    ∙ sym (count-set_count (from_counts es) r (pos 0) q))

pub counts-with : (w : Width) (es : Counted) (r : Row) (v : ℤ) → AreCountsIn w es → (v ≢ pos 0) × FitsSigned w v → AreCountsIn w (with_entry es r v)
counts-with w [] r v h fact = (fact, tt)
counts-with w (e ∷ es) r v h fact =
    elim (row_cmp r e.0) as (λ o. AreCountsIn w (Rattle.std.specs.Ordering.match_ordering o ((r, v) ∷ e ∷ es) ((e.0, v) ∷ es) (e ∷ with_entry es r v))) [
      | Less ↦ (fact, h)
      | Equal ↦ (fact, h.1)
      | Greater ↦ (h.0, counts-with w es r v h.1 fact)
    ]

pub counts-without : (w : Width) (es : Counted) (r : Row) → AreCountsIn w es → AreCountsIn w (without_entry es r)
counts-without w [] r h = tt
counts-without w (e ∷ es) r h =
    elim (is_row r e.0) as (λ t. AreCountsIn w (cond t es (e ∷ without_entry es r))) [
      | true ↦ h.1
      | false ↦ (h.0, counts-without w es r h.1)
    ]

-- a row counts in a bag what the map has there
pub seen_count : (es : Counted) (b : Bag) (row : Row) → from_counts es ≡ b → unwrap_or (found row es) (pos 0) ≡ count b row
seen_count es b row seen = sym (count-from_counts es row) ∙ ap (λ x. count x row) seen

-- ---- a map in order, written out

put_first : (k : Row) (n : NonZero) (es : List (Row × NonZero)) → T (below_all row_cmp k es) → put row_cmp k n es ≡ (k, n) ∷ es
put_first k n [] h = refl
put_first k n (e ∷ es) h = ap (λ o. by_order o ((k, n) ∷ e ∷ es) ((e.0, n) ∷ es) (e ∷ put row_cmp k n es)) (is_less (row_cmp k e.0) (and_first _ _ h))

pub nz : ℤ → NonZero
nz (pos zero) = more 0
nz (pos (suc n)) = more n
nz (negsuc n) = fewer n

pub whole-nz : (z : ℤ) → (z ≢ pos 0) → whole (nz z) ≡ z
unfolding nz
whole-nz (pos zero) n = absurd (n refl)
whole-nz (pos (suc n)) h = refl
whole-nz (negsuc n) h = refl

pub entries-set_count : (b : Bag) (k : Row) (z : ℤ) → (z ≢ pos 0) → fin.entries (set_count b k z) ≡ put row_cmp k (nz z) (fin.entries b)
unfolding nz
entries-set_count b k (pos zero) n = absurd (n refl)
entries-set_count b k (pos (suc n)) h = fin.entries-insert rows_total b k (more n)
entries-set_count b k (negsuc n) h = fin.entries-insert rows_total b k (fewer n)

by_number : Counted → List (Row × NonZero)
by_number es = map {A = Row × ℤ} {B = Row × NonZero} (λ e. (e.0, nz e.1)) es

below_from : (k : Row) (es : Counted) → AllByRecursion (λ y. row_cmp k y ≡ Less) (keys_of es) → T (below_all row_cmp k (by_number es))
unfolding by_number
below_from k [] h = tt
below_from k (e ∷ es) h =
    let P : Ordering → Type 0 = λ o. T (is_lt o && below_all row_cmp k (by_number es)) in
    subst P (sym h.0) (below_from k es h.1)

entries-from_counts : (w : Width) (es : Counted) → AreRisingRows es → AreCountsIn w es → fin.entries (from_counts es) ≡ by_number es
unfolding by_number IsStrictlySortedBy
entries-from_counts w [] s h = entries-empty
entries-from_counts w (e ∷ es) s h =
    entries-set_count (from_counts es) e.0 e.1 h.0.0
    ∙ ap (put row_cmp e.0 (nz e.1)) (entries-from_counts w es s.1 h.1)
    ∙ put_first e.0 (nz e.1) _ (below_from e.0 es s.0)

shown : (w : Width) (es : Counted) → AreCountsIn w es → map {A = Row × NonZero} {B = Row × ℤ} (λ e. (e.0, whole e.1)) (by_number es) ≡ es
unfolding by_number
shown w [] h = refl
shown w (e ∷ es) h = λ i. (e.0, whole-nz e.1 h.0.0 i) ∷ shown w es h.1 i

pub written-from_counts : (w : Width) (es : Counted) → AreRisingRows es → AreCountsIn w es → written (from_counts es) ≡ es
written-from_counts w es s h = ap (map {A = Row × NonZero} {B = Row × ℤ} (λ e. (e.0, whole e.1))) (entries-from_counts w es s h) ∙ shown w es h

-- ---- numbers that are known by their rows

-- what each row has, each entry has
pub each_from_found : (P : ℤ → Type 0) (es : Counted) → AreRisingRows es → ((q : Row) (n : ℤ) → found q es ≡ Some n → P n) → AllByRecursion (λ (e : Row × ℤ). P e.1) es
each_from_found P [] s h = tt
each_from_found P (e ∷ es) s h = (
  h e.0 e.1 (found_first e es),
  each_from_found P es (rising_tail e es s) (λ q n is. h q n (elim (is_row q e.0) as (λ t. is_row q e.0 ≡ t → cond t (Some e.1) (found q es) ≡ Some n) [
    | true ↦ λ t. absurd (let bad : None ≡ Some n = sym (ap (λ x. found x es) (same_row q e.0 t) ∙ none_after e es s) ∙ is in cc)
    | false ↦ λ t. is
  ] refl)),
)

-- and what each entry has, each row has
pub found_counts : (w : Width) (es : Counted) → AreCountsIn w es → (q : Row) (n : ℤ) → found q es ≡ Some n → (n ≢ pos 0) × FitsSigned w n
found_counts w [] h q n is = absurd (let bad : None ≡ Some n = is in cc)
found_counts w (e ∷ es) h q n is =
    elim (is_row q e.0) as (λ t. cond t (Some e.1) (found q es) ≡ Some n → (n ≢ pos 0) × FitsSigned w n) [
      | true ↦ λ f. let same : e.1 ≡ n = cc in subst (λ (z : ℤ). (z ≢ pos 0) × FitsSigned w z) same h.0
      | false ↦ λ f. found_counts w es h.1 q n f
    ] is

-- ---- each number fits

pub fits-from_counts : (w : Width) → FitsSigned w (pos 0) → (es : Counted) → AreCountsIn w es → (q : Row) → FitsSigned w (count (from_counts es) q)
fits-from_counts w none es h q = subst (FitsSigned w) (sym (count-from_counts es q)) (fits es h)
  where
    fits : (es : Counted) → AreCountsIn w es → FitsSigned w (unwrap_or (found q es) (pos 0))
    fits [] h = none
    fits (e ∷ es) h = elim (is_row q e.0) as (λ t. FitsSigned w (unwrap_or (cond t (Some e.1) (found q es)) (pos 0))) [ true ↦ h.0.1 | false ↦ fits es h.1 ]

-- ---- either way that a call ended

pub either_way : {A E : Type 0} (r : Result A E) (P Q R : Type 0) → OnOk r P → OnErr r Q → (P → R) → (Q → R) → R
either_way (Ok x) P Q R p q f g = f p
either_way (Err x) P Q R p q f g = g q

pub on_ok : {A E : Type 0} (r : Result A E) (P Q : Type 0) → OnOk r P → (P → Q) → OnOk r Q
on_ok (Ok x) P Q p f = f p
on_ok (Err x) P Q p f = tt

pub on_err : {A E : Type 0} (r : Result A E) (P Q : Type 0) → OnErr r P → (P → Q) → OnErr r Q
on_err (Ok x) P Q p f = tt
on_err (Err x) P Q p f = f p

-- ---- two maps merged

-- a combination of two numbers, where the sum fits, is the sum, and none where it is 0
abbrev pub AddsUp : (ℤ → ℤ → Option ℤ → Type 0) → Type 0
AddsUp allowed = (v n : ℤ) (o : Option ℤ) → allowed v n o → FitsSigned w64 (v +ℤ n) → o ≡ unless_zero (v +ℤ n)

pub or-unless_zero : (n : ℤ) → unwrap_or (unless_zero n) (pos 0) ≡ n
or-unless_zero (pos zero) = refl
or-unless_zero (pos (suc n)) = refl
or-unless_zero (negsuc n) = refl

pub some-unless_zero : (n z : ℤ) → unless_zero n ≡ Some z → (n ≡ z) × (z ≢ pos 0)
some-unless_zero (pos zero) z e = absurd (let bad : None ≡ Some z = e in cc)
some-unless_zero (pos (suc n)) z e = let same : pos (suc n) ≡ z = cc in (same, λ zero. let bad : pos (suc n) ≡ pos 0 = same ∙ zero in cc)
some-unless_zero (negsuc n) z e = let same : negsuc n ≡ z = cc in (same, λ zero. let bad : negsuc n ≡ pos 0 = same ∙ zero in cc)

module _ (allowed : ℤ → ℤ → Option ℤ → Type 0) (adds : AddsUp allowed) where
  combined : (o p r : Option ℤ) → FitsSigned w64 (unwrap_or o (pos 0) +ℤ unwrap_or p (pos 0)) → IsCombined allowed o p r
      → unwrap_or r (pos 0) ≡ unwrap_or o (pos 0) +ℤ unwrap_or p (pos 0)
  combined None p r fits is = ap (λ x. unwrap_or x (pos 0)) is ∙ sym (+ℤ_idl (unwrap_or p (pos 0)))
  combined (Some v) None r fits is = ap (λ x. unwrap_or x (pos 0)) is ∙ sym (+ℤ_idr v)
  combined (Some v) (Some n) r fits is = ap (λ x. unwrap_or x (pos 0)) (adds v n r is fits) ∙ or-unless_zero (v +ℤ n)

  combined_counts : (o p r : Option ℤ) → ((n : ℤ) → o ≡ Some n → (n ≢ pos 0) × FitsSigned w64 n) → ((n : ℤ) → p ≡ Some n → (n ≢ pos 0) × FitsSigned w64 n) → FitsSigned w64 (unwrap_or o (pos 0) +ℤ unwrap_or p (pos 0)) → IsCombined allowed o p r
      → (z : ℤ) → r ≡ Some z → (z ≢ pos 0) × FitsSigned w64 z
  combined_counts None p r f g fits is z e = g z (sym is ∙ e)
  combined_counts (Some v) None r f g fits is z e = f z (sym is ∙ e)
  combined_counts (Some v) (Some n) r f g fits is z e =
      let told = some-unless_zero (v +ℤ n) z (sym (adds v n r is fits) ∙ e) in
      (told.1, subst (FitsSigned w64) told.0 fits)

  module _ (a b es : Counted) (mine others : Bag) (is_mine : from_counts a ≡ mine) (is_others : from_counts b ≡ others) (fits : SumFits mine others) (merged : AreMerged allowed a b es) where
    fits_found : (q : Row) → FitsSigned w64 (unwrap_or (found q a) (pos 0) +ℤ unwrap_or (found q b) (pos 0))
    fits_found q = subst (FitsSigned w64) (λ i. (ap (λ x. count x q) (sym is_mine) ∙ count-from_counts a q) i +ℤ (ap (λ x. count x q) (sym is_others) ∙ count-from_counts b q) i) (fits q)

    pub merged_sum : from_counts es ≡ sum_of mine others
    merged_sum = same_bag _ _ (λ q.
        count-from_counts es q
        ∙ combined (found q a) (found q b) (found q es) (fits_found q) (merged q)
        ∙ (λ i. (sym (count-from_counts a q) ∙ ap (λ x. count x q) is_mine) i +ℤ (sym (count-from_counts b q) ∙ ap (λ x. count x q) is_others) i)
        ∙ sym (count-sum_of mine others q))

    pub merged_counts : AreCountsIn w64 a → AreCountsIn w64 b → AreRisingRows es → AreCountsIn w64 es
    merged_counts stored brought rising = each_from_found (λ n. (n ≢ pos 0) × FitsSigned w64 n) es rising (λ q.
        combined_counts (found q a) (found q b) (found q es) (found_counts w64 a stored q) (found_counts w64 b brought q) (fits_found q) (merged q))

-- ---- rows that count are rows that are found

counted_found : (w : Width) (es : Counted) → AreCountsIn w es → (q : Row) → count (from_counts es) q ≡ pos 0 → found q es ≡ None
counted_found w es h q z = elim (found q es) as (λ o. found q es ≡ o → o ≡ None) [
  | None ↦ λ e. refl
  | Some n ↦ λ e. absurd ((found_counts w es h q n e).0 (ap (λ o. unwrap_or o (pos 0)) (sym e) ∙ sym (count-from_counts es q) ∙ z))
] refl

pub has_found : (a b : Counted) (mine others : Bag) → from_counts a ≡ mine → from_counts b ≡ others → AreCountsIn w64 b → HasRowsOf mine others → HaveFoundOf a b
has_found a b mine others is_mine is_others stored has q none = counted_found w64 b stored q (ap (λ x. count x q) is_others ∙ zero_count (count others q) (λ n. has q n (ap (λ x. count x q) (sym is_mine) ∙ count-from_counts a q ∙ ap (λ o. unwrap_or o (pos 0)) none)))
  where
    zero_count : (z : ℤ) → ((z ≢ pos 0) → ⊥) → z ≡ pos 0
    zero_count (pos zero) h = refl
    zero_count (pos (suc n)) h = absurd (h (λ e. cc))
    zero_count (negsuc n) h = absurd (h (λ e. cc))

-- ---- what a refused call tells

pub told_err : {A E : Type 0} (r : Result A E) (P : Type 0) → P → OnErr r P
told_err (Ok x) P p = tt
told_err (Err x) P p = p
