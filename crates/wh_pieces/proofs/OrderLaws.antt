-- Entries in order, and what stands before and after a place.
use Rattle.std.proofs.Common.{◌≡◌, sym, ap, subst, ◌∙◌, ℕ, zero, suc, ◌<◌, List, [], ◌∷◌, length, take, drop, Some, None, slice_get}
use Rattle.std.specs.List.{AllByRecursion}
use Rattle.std.specs.List.Sorted.{IsStrictlySortedBy}
use Rattle.std.specs.Map.{keys_of}
use Rattle.std.specs.Ordering.{ordering_reverse}
use Rattle.std.specs.declared.cmp.Ordering.{Ordering}
use Rattle.std.specs.declared.cmp.Ordering.TheVariants.{Less, Equal, Greater}
use Rattle.wh_pieces.specs.Row.{Row, row_cmp}
use Rattle.wh_pieces.proofs.RowLaws.{rows_total, rows_exact}
use Rattle.wh_pieces.specs.Place.{AreRisingRows, IsAbove}
use Rattle.wh_pieces.specs.Inner.Place.{IsBelowFirst, IsFirst, IsAt}

pub turned : (x y : Row) (o : Ordering) → row_cmp x y ≡ o → row_cmp y x ≡ ordering_reverse o
turned x y o h = rows_total.antisymm y x ∙ ap ordering_reverse h

-- what is below a row is below each row above it
pub still_above : (row r e : Row) → row_cmp row r ≡ Greater → row_cmp e r ≡ Less → row_cmp row e ≡ Greater
still_above row r e h l = turned e row Less (rows_total.trans e r row l (turned row r Greater h))

at_key : {T : Type 0} (P : Row → Type 0) (es : List (Row × T)) (k : ℕ) (r : Row) → AllByRecursion P (keys_of es) → slice_get (keys_of es) k ≡ Some r → P r
at_key P [] k r h e = absurd (let bad : None ≡ Some r = e in cc)
at_key P (x ∷ es) zero r h e = let same : x.0 ≡ r = cc in subst P same h.0
at_key P (x ∷ es) (suc k) r h e = at_key P es k r h.1 e

pub below_key : {T : Type 0} (es : List (Row × T)) (m : ℕ) (r : Row) → AreRisingRows es → slice_get (keys_of es) m ≡ Some r → AllByRecursion (λ e. row_cmp e.0 r ≡ Less) (take m es)
unfolding IsStrictlySortedBy
below_key es zero r s e = tt
below_key [] (suc m) r s e = tt
below_key (x ∷ es) (suc m) r s e = (at_key (λ y. row_cmp x.0 y ≡ Less) es m r s.0 e, below_key es m r s.1 e)

all_above : {T : Type 0} (row r : Row) (es : List (Row × T)) → row_cmp row r ≡ Greater → AllByRecursion (λ e. row_cmp e.0 r ≡ Less) es → IsAbove row es
all_above row r [] h a = tt
all_above row r (e ∷ es) h a = (still_above row r e.0 h a.0, all_above row r es h a.1)

-- up to and with a lower row
pub above_to : {T : Type 0} (row : Row) (es : List (Row × T)) (m : ℕ) (r : Row) → AreRisingRows es → slice_get (keys_of es) m ≡ Some r → row_cmp row r ≡ Greater → IsAbove row (take (suc m) es)
unfolding IsStrictlySortedBy
above_to row [] m r s e h = tt
above_to row (x ∷ es) zero r s e h = let same : x.0 ≡ r = cc in (subst (λ (y : Row). row_cmp row y ≡ Greater) (sym same) h, tt)
above_to row (x ∷ es) (suc m) r s e h = (still_above row r x.0 h (at_key (λ y. row_cmp x.0 y ≡ Less) es m r s.0 e), above_to row es m r s.1 e h)

pub below_from : {T : Type 0} (row : Row) (es : List (Row × T)) (m : ℕ) (r : Row) → slice_get (keys_of es) m ≡ Some r → row_cmp row r ≡ Less → IsBelowFirst row (drop m es)
below_from row [] m r e h = absurd (let bad : None ≡ Some r = e in cc)
below_from row (x ∷ es) zero r e h = let same : x.0 ≡ r = cc in subst (λ (y : Row). row_cmp row y ≡ Less) (sym same) h
below_from row (x ∷ es) (suc m) r e h = below_from row es m r e h

first_at : {T : Type 0} (row : Row) (es : List (Row × T)) (m : ℕ) (r : Row) → slice_get (keys_of es) m ≡ Some r → row_cmp row r ≡ Equal → IsFirst row (drop m es)
first_at row [] m r e h = absurd (let bad : None ≡ Some r = e in cc)
first_at row (x ∷ es) zero r e h = let same : x.0 ≡ r = cc in subst (λ (y : Row). row_cmp row y ≡ Equal) (sym same) h
first_at row (x ∷ es) (suc m) r e h = first_at row es m r e h

above_itself : {T : Type 0} (row : Row) (es : List (Row × T)) → AllByRecursion (λ e. row_cmp e.0 row ≡ Less) es → IsAbove row es
above_itself row [] a = tt
above_itself row (e ∷ es) a = (turned e.0 row Less a.0, above_itself row es a.1)

pub is_at : {T : Type 0} (row : Row) (es : List (Row × T)) (m : ℕ) (r : Row) → m < length es → AreRisingRows es → slice_get (keys_of es) m ≡ Some r → row_cmp row r ≡ Equal → IsAt row es m
is_at row es m r l s e h =
    let same : row ≡ r = rows_exact row r h in
    record {
      within = l;
      above = above_itself row (take m es) (below_key es m row s (e ∙ ap Some (sym same)));
      same = first_at row es m r e h;
    }
