use Rattle.std.proofs.Common.{◌≡◌, List, drop, ap, subst, sym, ◌∙◌}
use Rattle.std.proofs.lemmas.List.{take_rest}
use Rattle.wh_pieces.specs.Row.{Row}
use Rattle.wh_pieces.specs.Place.{AreRisingRows}
use Rattle.wh_pieces.specs.Inner.Place.{IsAt, IsGapFor}
use Rattle.wh_pieces.specs.Pieces.{all_of, from}
use Rattle.wh_pieces.proofs.PieceLaws.{piece_read, rising-nth}
use Rattle.wh_pieces.proofs.EntryLaws.{from_gap, from_at}
use Rattle.wh_pieces.proofs.pieces.RowMap.entries_from.Goals as goal
use Rattle.wh_pieces.proofs.pieces.RowMap.entries_from.Goals.{in-Ok, in-Err}

pub find-requires : goal.find-requires
find-requires g c =
    let ls = c.self.inside.pieces.items in
    let nth = c.find_piece-nth.result in
    let at = c.find_piece-nth.ensures in
    subst (λ (x : List (Row × g.row.T.Denot)). AreRisingRows x) (sym (piece_read ls nth c.index.result.now at.within c.index.ensures)) (rising-nth ls nth at.within c.self.invariant.pieces.rising)

pub returns : goal.returns
returns g c =
    let ls = c.self.inside.pieces.items in
    let row = c.args.row.now in
    let nth = c.find_piece-nth.result in
    let at = c.find_piece-nth.ensures in
    let rising = c.self.invariant.pieces.rising in
    let x = c.index.result.now in
    let is = piece_read ls nth x at.within c.index.ensures in
    let over : drop c.match-find.place (all_of (drop nth ls)) ≡ from row (all_of ls) = elim c.match-find.branch [
      | in-Ok w ↦ ap (λ n. drop n (all_of (drop nth ls))) w.place-is ∙ from_at row ls nth w.in-Ok.place at rising (subst (λ (y : List (Row × g.row.T.Denot)). IsAt row y w.in-Ok.place) is w.in-Ok.ensures)
      | in-Err w ↦ ap (λ n. drop n (all_of (drop nth ls))) w.place-is ∙ from_gap row ls nth w.in-Err.place at rising (subst (λ (y : List (Row × g.row.T.Denot)). IsGapFor row y w.in-Err.place) is w.in-Err.ensures)
    ] in
    c.new.ensures
    ∙ ap (λ (xs : List (List (Row × g.row.T.Denot))). drop c.match-find.place (all_of xs)) (take_rest c.deref.result.now nth ∙ ap (drop nth) c.deref.ensures.value)
    ∙ over
    ∙ ap (from row) c.self.view_is
