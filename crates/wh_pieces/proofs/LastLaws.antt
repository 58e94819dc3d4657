-- A row above the last one.
use Rattle.std.proofs.Common.{◌≡◌, refl, sym, ap, subst, ◌∙◌, ℕ, suc, ◌-◌, ◌<◌, List, [], ◌∷◌, ◌++◌, length, take, Some, None, slice_get, arith}
use Rattle.std.proofs.lemmas.List.{take_all, append-nil}
use Rattle.std.specs.Map.{keys_of}
use Rattle.std.specs.declared.cmp.Ordering.TheVariants.{Less, Greater}
use Rattle.wh_pieces.specs.Row.{Row, row_cmp}
use Rattle.wh_pieces.specs.Place.{IsAbove}
use Rattle.wh_pieces.specs.Pieces.{found, with_entry, all_of}
use Rattle.wh_pieces.specs.Inner.Pieces.{ArePieces, piece_at}
use Rattle.wh_pieces.proofs.OrderLaws.{above_to}
use Rattle.wh_pieces.proofs.PieceLaws.{above-append, above_piece, found-above, rising-nth, some-at, take-suc_piece, with-above}

-- is above them all
pub above_last : {T : Type 0} (row r : Row) (ls : List (List (Row × T))) (nth : ℕ) → suc nth ≡ length ls → ArePieces ls
    → slice_get (keys_of (piece_at ls nth)) (length (piece_at ls nth) - 1) ≡ Some r → row_cmp row r ≡ Greater → IsAbove row (all_of ls)
above_last {T} row r ls nth end are last greater =
    let x = piece_at ls nth in
    let within : nth < length ls = omega arith in
    let some : 0 < length x = some-at ls nth within are.some in
    let next : suc (length x - 1) ≡ length x = omega arith in
    let inside : IsAbove row x = subst (λ (es : List (Row × T)). IsAbove row es) (take_all (suc (length x - 1)) x (omega arith)) (above_to row x (length x - 1) r (rising-nth ls nth within are.rising) last greater) in
    let whole : all_of (take nth ls) ++ x ≡ all_of ls = sym (take-suc_piece ls nth within) ∙ ap all_of (take_all (suc nth) ls (omega arith)) in
    subst (λ (es : List (Row × T)). IsAbove row es) whole (above-append row (all_of (take nth ls)) x (front x refl some inside) inside)
  where
    front : (x : List (Row × T)) → piece_at ls nth ≡ x → 0 < length x → IsAbove row x → IsAbove row (all_of (take nth ls))
    front [] is l above = absurd (omega arith)
    front (e ∷ es) is l above =
        above_piece row ls nth e.0 (omega arith) are.rising (ap (λ (y : List (Row × T)). slice_get (keys_of y) 0) is)
        (λ less. let bad : Greater ≡ Less = sym above.0 ∙ less in cc)

-- and is found nowhere, and put behind them
pub found_above : {T : Type 0} (row : Row) (es : List (Row × T)) → IsAbove row es → found row es ≡ None
found_above {T} row es h = ap (found row) (sym (append-nil es)) ∙ found-above row es [] h

pub with_above : {T : Type 0} (row : Row) (v : T) (es : List (Row × T)) → IsAbove row es → with_entry es row v ≡ es ++ (row, v) ∷ []
with_above {T} row v es h = ap (λ (xs : List (Row × T)). with_entry xs row v) (sym (append-nil es)) ∙ with-above row v es [] h
