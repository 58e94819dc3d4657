-- Entries from a place on, and those above a row.
use Rattle.std.proofs.Common.{◌≡◌, refl, sym, ap, subst, ◌∙◌, ℕ, zero, suc, ◌+◌, ◌<◌, ◌≤◌, List, [], ◌∷◌, ◌++◌, length, take, drop, Some, None, cond, slice_get, arith, append_assoc, length-append, length-drop, add-one, true, false, is_lt, is_le}
use Rattle.std.proofs.lemmas.List.{append-nil, drop-drop, take-append-drop, take-append-le, drop-append-le}
use Rattle.std.specs.List.{AllByRecursion}
use Rattle.std.specs.List.Sorted.{IsStrictlySortedBy}
use Rattle.std.specs.Map.{keys_of}
use Rattle.std.specs.declared.cmp.Ordering.{Ordering}
use Rattle.std.specs.declared.cmp.Ordering.TheVariants.{Less, Equal, Greater}
use Rattle.std.specs.Ordering.{is_le}
use Rattle.wh_pieces.specs.Row.{Row, row_cmp}
use Rattle.wh_pieces.specs.Place.{AreRisingRows, IsAbove}
use Rattle.wh_pieces.specs.Inner.Place.{IsBelowFirst, IsFirst, IsAt, IsGapFor}
use Rattle.wh_pieces.specs.Pieces.{all_of, above, from}
use Rattle.wh_pieces.specs.Inner.Pieces.{AreNotEmpty, IsPieceFor, piece_at, BeginsAt}
use Rattle.wh_pieces.proofs.RowLaws.{rows_exact}
use Rattle.wh_pieces.proofs.PieceLaws.{lower_below, rising-back, all-append, all-split, below-append, drop-nth}

-- ---- the first entry, and those after it

drop_here : {T : Type 0} (x s : List (Row × T)) (place : ℕ) (e : Row × T) → slice_get x place ≡ Some e → drop place (x ++ s) ≡ e ∷ drop 1 (drop place (x ++ s))
drop_here [] s place e h = absurd (let bad : None ≡ Some e = h in cc)
drop_here (f ∷ x) s zero e h = let same : f ≡ e = cc in λ i. same i ∷ (x ++ s)
drop_here (f ∷ x) s (suc place) e h = drop_here x s place e h

pub entry_first : {T : Type 0} (ls : List (List (Row × T))) (place : ℕ) (x : List (Row × T)) (e : Row × T) → Some x ≡ slice_get ls 0 → slice_get x place ≡ Some e → drop place (all_of ls) ≡ e ∷ drop 1 (drop place (all_of ls))
entry_first [] place x e h g = absurd (let bad : None ≡ Some x = sym h in cc)
entry_first {T} (y ∷ ls) place x e h g = let same : x ≡ y = cc in drop_here y (all_of ls) place e (subst (λ (z : List (Row × T)). slice_get z place ≡ Some e) same g)

drop_more : {T : Type 0} (es : List (Row × T)) (place : ℕ) → drop (place + 1) es ≡ drop 1 (drop place es)
drop_more es zero = ap (λ n. drop n es) (let z : 0 + 1 ≡ 1 = omega arith in z)
drop_more [] (suc place) = ap (λ n. drop n []) (let z : suc place + 1 ≡ suc (suc place) = omega arith in z)
drop_more (e ∷ es) (suc place) = ap (λ n. drop n (e ∷ es)) (let z : suc place + 1 ≡ suc (place + 1) = omega arith in z) ∙ drop_more es place

pub passed_within : {T : Type 0} (ls : List (List (Row × T))) (place : ℕ) → drop (place + 1) (all_of ls) ≡ drop 1 (drop place (all_of ls))
passed_within ls place = drop_more (all_of ls) place

drop_whole : {T : Type 0} (x s : List (Row × T)) → drop (length x) (x ++ s) ≡ s
drop_whole [] s = refl
drop_whole (e ∷ x) s = drop_whole x s

pub passed_whole : {T : Type 0} (x : List (Row × T)) (ls : List (List (Row × T))) (place : ℕ) → place + 1 ≡ length x → all_of ls ≡ drop 1 (drop place (x ++ all_of ls))
passed_whole x ls place n = sym (drop_whole x (all_of ls)) ∙ ap (λ k. drop k (x ++ all_of ls)) (sym n) ∙ drop_more (x ++ all_of ls) place

-- ---- entries that begin behind the first piece

pub whole_passed : {T : Type 0} (x : List (Row × T)) (ls : List (List (Row × T))) (place : ℕ) → place ≡ length x → all_of ls ≡ drop place (x ++ all_of ls)
whole_passed x ls place n = sym (drop_whole x (all_of ls)) ∙ ap (λ k. drop k (x ++ all_of ls)) (sym n)

-- ---- entries that stand side by side

pub run_within : {T : Type 0} (x s : List (Row × T)) (place k : ℕ) → place + k ≤ length x → drop place (x ++ s) ≡ take k (drop place x) ++ drop (place + k) (x ++ s)
run_within x s place k l =
    let first : take k (drop place (x ++ s)) ≡ take k (drop place x) =
    ap (take k) (drop-append-le place x s (omega arith)) ∙ take-append-le k (drop place x) s (omega (arith, length-drop place x)) in
    sym (take-append-drop k (drop place (x ++ s))) ∙ (λ i. first i ++ drop-drop k place (x ++ s) i)

-- ---- entries in two, at a border of pieces

some_taken : {T : Type 0} (ls : List (List (Row × T))) (k : ℕ) → AreNotEmpty ls → AreNotEmpty (take k ls)
some_taken ls zero a = tt
some_taken [] (suc k) a = tt
some_taken (x ∷ ls) (suc k) a = (a.0, some_taken ls k a.1)

begins_first : {T : Type 0} (ls : List (List (Row × T))) → AreNotEmpty ls → BeginsAt ls 0
begins_first [] a = refl
begins_first (x ∷ ls) a = a

some_left : {T : Type 0} (ls : List (List (Row × T))) (k : ℕ) → AreNotEmpty ls → BeginsAt (drop k ls) 0
some_left ls zero a = begins_first ls a
some_left [] (suc k) a = refl
some_left (x ∷ ls) (suc k) a = some_left ls k a.1

pub front_begins : {T : Type 0} (ls : List (List (Row × T))) (place k : ℕ) → BeginsAt ls place → 0 < k → BeginsAt (take k ls) place
front_begins ls place zero b l = absurd (omega (arith, l))
front_begins [] place (suc k) b l = b
front_begins (x ∷ ls) place (suc k) b l = (b.0, some_taken ls k b.1)

pub back_begins : {T : Type 0} (ls : List (List (Row × T))) (place k : ℕ) → BeginsAt ls place → 0 < k → BeginsAt (drop k ls) 0
back_begins ls place zero b l = absurd (omega (arith, l))
back_begins [] place (suc k) b l = refl
back_begins (x ∷ ls) place (suc k) b l = some_left ls k b.1

pub both_parts : {T : Type 0} (ls : List (List (Row × T))) (place k : ℕ) → BeginsAt ls place → 0 < k → drop place (all_of ls) ≡ drop place (all_of (take k ls)) ++ all_of (drop k ls)
both_parts ls place zero b l = absurd (omega (arith, l))
both_parts [] place (suc k) b l = sym (append-nil (drop place []))
both_parts (x ∷ ls) place (suc k) b l =
    let within : place ≤ length x = omega (arith, b.0) in
    drop-append-le place x (all_of ls) within
    ∙ ap (λ es. drop place x ++ es) (ap all_of (sym (take-append-drop k ls)) ∙ all-append (take k ls) (drop k ls))
    ∙ sym (append_assoc (drop place x) (all_of (take k ls)) (all_of (drop k ls)))
    ∙ ap (λ es. es ++ all_of (drop k ls)) (sym (drop-append-le place x (all_of (take k ls)) within))

-- ---- the entries above a row

all_over : {T : Type 0} (row : Row) (es : List (Row × T)) → AllByRecursion (λ k. row_cmp row k ≡ Less) (keys_of es) → above row es ≡ es
all_over row [] h = refl
all_over row (e ∷ es) h = (λ i. cond (is_lt (h.0 i)) (e ∷ above row es) (above row es)) ∙ ap (λ xs. e ∷ xs) (all_over row es h.1)

over_first : {T : Type 0} (row : Row) (es : List (Row × T)) → IsBelowFirst row es → AreRisingRows es → above row es ≡ es
unfolding IsStrictlySortedBy
over_first row [] h s = refl
over_first row (e ∷ es) h s = all_over row (e ∷ es) (h, lower_below row e.0 es h s.0)

above-gap : {T : Type 0} (row : Row) (es : List (Row × T)) (place : ℕ) → IsAbove row (take place es) → IsBelowFirst row (drop place es) → AreRisingRows es → above row es ≡ drop place es
unfolding IsStrictlySortedBy
above-gap row es zero a b s = over_first row es b s
above-gap row [] (suc place) a b s = refl
above-gap row (e ∷ es) (suc place) a b s = (λ i. cond (is_lt (a.0 i)) (e ∷ above row es) (above row es)) ∙ above-gap row es place a.1 b s.1

above-at : {T : Type 0} (row : Row) (es : List (Row × T)) (place : ℕ) → IsAbove row (take place es) → IsFirst row (drop place es) → AreRisingRows es → above row es ≡ drop (suc place) es
unfolding IsStrictlySortedBy
above-at row [] zero a f s = absurd f
above-at row [] (suc place) a f s = absurd f
above-at row (e ∷ es) zero a f s = (λ i. cond (is_lt (f i)) (e ∷ above row es) (above row es)) ∙ all_over row es (subst (λ (k : Row). AllByRecursion (λ y. row_cmp k y ≡ Less) (keys_of es)) (sym (rows_exact row e.0 f)) s.0)
above-at row (e ∷ es) (suc place) a f s = (λ i. cond (is_lt (a.0 i)) (e ∷ above row es) (above row es)) ∙ above-at row es place a.1 f s.1

above-above : {T : Type 0} (row : Row) (a b : List (Row × T)) → IsAbove row a → above row (a ++ b) ≡ above row b
above-above row [] b h = refl
above-above row (e ∷ a) b h = (λ i. cond (is_lt (h.0 i)) (e ∷ above row (a ++ b)) (above row (a ++ b))) ∙ above-above row a b h.1

-- ---- the entries from a row on

all_from : {T : Type 0} (row : Row) (es : List (Row × T)) → AllByRecursion (λ k. row_cmp row k ≡ Less) (keys_of es) → from row es ≡ es
all_from row [] h = refl
all_from row (e ∷ es) h = (λ i. cond (is_le (h.0 i)) (e ∷ from row es) (from row es)) ∙ ap (λ xs. e ∷ xs) (all_from row es h.1)

from_first : {T : Type 0} (row : Row) (es : List (Row × T)) → IsBelowFirst row es → AreRisingRows es → from row es ≡ es
unfolding IsStrictlySortedBy
from_first row [] h s = refl
from_first row (e ∷ es) h s = all_from row (e ∷ es) (h, lower_below row e.0 es h s.0)

from-gap : {T : Type 0} (row : Row) (es : List (Row × T)) (place : ℕ) → IsAbove row (take place es) → IsBelowFirst row (drop place es) → AreRisingRows es → from row es ≡ drop place es
unfolding IsStrictlySortedBy
from-gap row es zero a b s = from_first row es b s
from-gap row [] (suc place) a b s = refl
from-gap row (e ∷ es) (suc place) a b s = (λ i. cond (is_le (a.0 i)) (e ∷ from row es) (from row es)) ∙ from-gap row es place a.1 b s.1

from-at : {T : Type 0} (row : Row) (es : List (Row × T)) (place : ℕ) → IsAbove row (take place es) → IsFirst row (drop place es) → AreRisingRows es → from row es ≡ drop place es
unfolding IsStrictlySortedBy
from-at row [] zero a f s = absurd f
from-at row [] (suc place) a f s = absurd f
from-at row (e ∷ es) zero a f s = (λ i. cond (is_le (f i)) (e ∷ from row es) (from row es)) ∙ ap (λ xs. e ∷ xs) (all_from row es (subst (λ (k : Row). AllByRecursion (λ y. row_cmp k y ≡ Less) (keys_of es)) (sym (rows_exact row e.0 f)) s.0))
from-at row (e ∷ es) (suc place) a f s = (λ i. cond (is_le (a.0 i)) (e ∷ from row es) (from row es)) ∙ from-at row es place a.1 f s.1

from-above : {T : Type 0} (row : Row) (a b : List (Row × T)) → IsAbove row a → from row (a ++ b) ≡ from row b
from-above row [] b h = refl
from-above row (e ∷ a) b h = (λ i. cond (is_le (h.0 i)) (e ∷ from row (a ++ b)) (from row (a ++ b))) ∙ from-above row a b h.1

module _ {T : Type 0} (row : Row) (ls : List (List (Row × T))) (nth place : ℕ) (at : IsPieceFor row ls nth) (rising : AreRisingRows (all_of ls)) where
  cut : all_of ls ≡ all_of (take nth ls) ++ all_of (drop nth ls)
  cut = ap all_of (sym (take-append-drop nth ls)) ∙ all-append (take nth ls) (drop nth ls)

  rest : all_of (drop nth ls) ≡ piece_at ls nth ++ all_of (drop (suc nth) ls)
  rest = ap all_of (drop-nth ls nth at.within)

  over_rest : above row (all_of ls) ≡ above row (all_of (drop nth ls))
  over_rest = ap (above row) cut ∙ above-above row (all_of (take nth ls)) (all_of (drop nth ls)) at.above

  rising_rest : AreRisingRows (all_of (drop nth ls))
  rising_rest = rising-back (all_of (take nth ls)) (all_of (drop nth ls)) (subst (λ (es : List (Row × T)). AreRisingRows es) cut rising)

  above_taken : place ≤ length (piece_at ls nth) → IsAbove row (take place (piece_at ls nth)) → IsAbove row (take place (all_of (drop nth ls)))
  above_taken l a = subst (λ (es : List (Row × T)). IsAbove row es) (sym (ap (take place) rest ∙ take-append-le place (piece_at ls nth) (all_of (drop (suc nth) ls)) l)) a

  dropped : place ≤ length (piece_at ls nth) → drop place (all_of (drop nth ls)) ≡ drop place (piece_at ls nth) ++ all_of (drop (suc nth) ls)
  dropped l = ap (drop place) rest ∙ drop-append-le place (piece_at ls nth) (all_of (drop (suc nth) ls)) l

  first_in : (a b : List (Row × T)) → IsFirst row a → IsFirst row (a ++ b)
  first_in [] b f = absurd f
  first_in (e ∷ a) b f = f

  pub after_gap : IsGapFor row (piece_at ls nth) place → drop place (all_of (drop nth ls)) ≡ above row (all_of ls)
  after_gap gap = sym (over_rest ∙ above-gap row (all_of (drop nth ls)) place (above_taken gap.within gap.above)
      (subst (λ (es : List (Row × T)). IsBelowFirst row es) (sym (dropped gap.within)) (below-append row (drop place (piece_at ls nth)) (all_of (drop (suc nth) ls)) gap.below at.below))
      rising_rest)

  pub after_at : IsAt row (piece_at ls nth) place → drop (place + 1) (all_of (drop nth ls)) ≡ above row (all_of ls)
  after_at i =
      let l : place ≤ length (piece_at ls nth) = omega (arith, i.within) in
      ap (λ n. drop n (all_of (drop nth ls))) (add-one place)
      ∙ sym (over_rest ∙ above-at row (all_of (drop nth ls)) place (above_taken l i.above)
      (subst (λ (es : List (Row × T)). IsFirst row es) (sym (dropped l)) (first_in (drop place (piece_at ls nth)) (all_of (drop (suc nth) ls)) i.same))
      rising_rest)

  from_rest : from row (all_of ls) ≡ from row (all_of (drop nth ls))
  from_rest = ap (from row) cut ∙ from-above row (all_of (take nth ls)) (all_of (drop nth ls)) at.above

  pub from_gap : IsGapFor row (piece_at ls nth) place → drop place (all_of (drop nth ls)) ≡ from row (all_of ls)
  from_gap gap = sym (from_rest ∙ from-gap row (all_of (drop nth ls)) place (above_taken gap.within gap.above)
      (subst (λ (es : List (Row × T)). IsBelowFirst row es) (sym (dropped gap.within)) (below-append row (drop place (piece_at ls nth)) (all_of (drop (suc nth) ls)) gap.below at.below))
      rising_rest)

  pub from_at : IsAt row (piece_at ls nth) place → drop place (all_of (drop nth ls)) ≡ from row (all_of ls)
  from_at i =
      let l : place ≤ length (piece_at ls nth) = omega (arith, i.within) in
      sym (from_rest ∙ from-at row (all_of (drop nth ls)) place (above_taken l i.above)
      (subst (λ (es : List (Row × T)). IsFirst row es) (sym (dropped l)) (first_in (drop place (piece_at ls nth)) (all_of (drop (suc nth) ls)) i.same))
      rising_rest)

pub above-few : {T : Type 0} (row : Row) (es : List (Row × T)) → length (above row es) ≤ length es
above-few row [] = omega arith
above-few row (e ∷ es) = elim (is_lt (row_cmp row e.0)) as (λ b. length (cond b (e ∷ above row es) (above row es)) ≤ suc (length es)) [
  | true ↦ omega (arith, above-few row es)
  | false ↦ omega (arith, above-few row es)
]

-- a piece is no longer than all
pub piece_short : {T : Type 0} (ls : List (List (Row × T))) (nth : ℕ) → nth < length ls → length (piece_at ls nth) ≤ length (all_of ls)
piece_short ls nth l = omega (arith, ap length (all-split ls nth l), length-append (all_of (take nth ls)) (piece_at ls nth ++ all_of (drop (suc nth) ls)), length-append (piece_at ls nth) (all_of (drop (suc nth) ls)))

-- no entry is from the row on where the row is above all, and there alone
pub none_from : {T : Type 0} (row : Row) (es : List (Row × T)) → IsAbove row es → from row es ≡ []
none_from row [] h = refl
none_from row (e ∷ es) h = (λ i. cond (is_le (h.0 i)) (e ∷ from row es) (from row es)) ∙ none_from row es h.1

pub no_length : {T : Type 0} (e : Row × T) (es : List (Row × T)) → e ∷ es ≡ [] → ⊥
no_length e es n = omega (arith, ap length n)

pub above_none : {T : Type 0} (row : Row) (es : List (Row × T)) → from row es ≡ [] → IsAbove row es
above_none row [] h = tt
above_none {T} row (e ∷ es) h =
    let P : Ordering → Type 0 = λ o. cond (is_le o) (e ∷ from row es) (from row es) ≡ [] → row_cmp row e.0 ≡ o → IsAbove row (e ∷ es) in
    elim (row_cmp row e.0) as P [
      | Less ↦ λ n is. absurd (no_length e (from row es) n)
      | Equal ↦ λ n is. absurd (no_length e (from row es) n)
      | Greater ↦ λ n is. (is, above_none row es n)
    ] h refl
