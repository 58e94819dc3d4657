use Rattle.std.proofs.Common.{◌≡◌, List, length, drop, ap, subst, sym, ◌∙◌, arith}
use Rattle.std.proofs.lemmas.List.{take_rest}
use Rattle.wh_pieces.specs.Row.{Row}
use Rattle.wh_pieces.specs.Place.{AreRisingRows}
use Rattle.wh_pieces.specs.Inner.Place.{IsAt, IsGapFor}
use Rattle.wh_pieces.specs.Pieces.{all_of, above}
use Rattle.wh_pieces.proofs.PieceLaws.{piece_read, rising-nth}
use Rattle.wh_pieces.proofs.EntryLaws.{after_gap, after_at, above-few, piece_short}
use Rattle.wh_pieces.proofs.pieces.RowMap.entries_after.Goals as goal
use Rattle.wh_pieces.proofs.pieces.RowMap.entries_after.Goals.{in-Ok, in-Err}

pub find-requires : goal.find-requires
find-requires g c =
    let ls = c.self.inside.pieces.items in
    let nth = c.find_piece-nth.result in
    let at = c.find_piece-nth.ensures in
    subst (λ (x : List (Row × g.row.T.Denot)). AreRisingRows x) (sym (piece_read ls nth c.index.result.now at.within c.index.ensures)) (rising-nth ls nth at.within c.self.invariant.pieces.rising)

pub overflow_add-place : goal.overflow_add-place
overflow_add-place g c =
    let ls = c.self.inside.pieces.items in
    let nth = c.find_piece-nth.result in
    let at = c.find_piece-nth.ensures in
    omega (arith, c.in-Ok.ensures.within, ap length (piece_read ls nth c.index.result.now at.within c.index.ensures), piece_short ls nth at.within, c.self.invariant.exact, c.self.invariant.small)

pub returns-clause-entries : goal.returns-clause-entries
returns-clause-entries g c =
    let ls = c.self.inside.pieces.items in
    let row = c.args.row.now in
    let nth = c.find_piece-nth.result in
    let at = c.find_piece-nth.ensures in
    let rising = c.self.invariant.pieces.rising in
    let x = c.index.result.now in
    let is = piece_read ls nth x at.within c.index.ensures in
    let over : drop c.match-find.place (all_of (drop nth ls)) ≡ above row (all_of ls) = elim c.match-find.branch [
      | in-Ok w ↦ ap (λ n. drop n (all_of (drop nth ls))) w.place-is ∙ after_at row ls nth w.in-Ok.place at rising (subst (λ (y : List (Row × g.row.T.Denot)). IsAt row y w.in-Ok.place) is w.in-Ok.ensures)
      | in-Err w ↦ ap (λ n. drop n (all_of (drop nth ls))) w.place-is ∙ after_gap row ls nth w.in-Err.place at rising (subst (λ (y : List (Row × g.row.T.Denot)). IsGapFor row y w.in-Err.place) is w.in-Err.ensures)
    ] in
    c.new.ensures
    ∙ ap (λ (xs : List (List (Row × g.row.T.Denot))). drop c.match-find.place (all_of xs)) (take_rest c.deref.result.now nth ∙ ap (drop nth) c.deref.ensures.value)
    ∙ over
    ∙ ap (above row) c.self.view_is

pub returns-clause-few : goal.returns-clause-few
returns-clause-few g c = omega (arith, ap length (returns-clause-entries g c), above-few c.args.row.now c.args.self.now, ap length c.self.view_is, c.self.invariant.exact, c.self.invariant.small)
