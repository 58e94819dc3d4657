use Rattle.std.proofs.Common.{List, ap, subst, sym, ◌∙◌, slice_get}
use Rattle.wh_pieces.specs.Row.{Row}
use Rattle.wh_pieces.specs.Place.{AreRisingRows}
use Rattle.wh_pieces.specs.Inner.Place.{IsAt, IsGapFor}
use Rattle.wh_pieces.specs.Pieces.{found}
use Rattle.wh_pieces.proofs.PieceLaws.{piece_read, rising-nth, found_there, found_nowhere}
use Rattle.wh_pieces.proofs.pieces.RowMap.get.Goals as goal

pub find-requires : goal.find-requires
find-requires g c =
    let ls = c.self.inside.pieces.items in
    let at = c.find_piece.ensures in
    subst (λ (x : List (Row × g.row.T.Denot)). AreRisingRows x) (sym (piece_read ls c.find_piece.result c.index-piece.result.now at.within c.index-piece.ensures)) (rising-nth ls c.find_piece.result at.within c.self.invariant.pieces.rising)

pub returns-in-Ok : goal.returns-in-Ok
returns-in-Ok g c =
    let ls = c.self.inside.pieces.items in
    let at = c.find_piece.ensures in
    let row = c.args.row.now in
    let is = piece_read ls c.find_piece.result c.index-piece.result.now at.within c.index-piece.ensures in
    sym (found_there row ls c.find_piece.result c.in-Ok.place at c.get.result.0.now c.get.result.1 (subst (λ (x : List (Row × g.row.T.Denot)). IsAt row x c.in-Ok.place) is c.in-Ok.ensures) (ap (λ (x : List (Row × g.row.T.Denot)). slice_get x c.in-Ok.place) (sym is) ∙ c.get.ensures))
    ∙ ap (found row) c.self.view_is

pub returns-in-Err : goal.returns-in-Err
returns-in-Err g c =
    let ls = c.self.inside.pieces.items in
    let at = c.find_piece.ensures in
    let row = c.args.row.now in
    let is = piece_read ls c.find_piece.result c.index-piece.result.now at.within c.index-piece.ensures in
    sym (found_nowhere row ls c.find_piece.result c.in-Err.field-0 at (subst (λ (x : List (Row × g.row.T.Denot)). IsGapFor row x c.in-Err.field-0) is c.in-Err.ensures) c.self.invariant.pieces.rising)
    ∙ ap (found row) c.self.view_is
