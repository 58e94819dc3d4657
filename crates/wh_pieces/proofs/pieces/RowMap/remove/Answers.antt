use Rattle.std.proofs.Common.{List, ap, subst, sym, ◌∙◌, slice_get}
use Rattle.wh_pieces.specs.Row.{Row}
use Rattle.wh_pieces.specs.Place.{AreRisingRows}
use Rattle.wh_pieces.specs.Inner.Place.{IsAt, IsGapFor}
use Rattle.wh_pieces.specs.Pieces.{found, without_entry}
use Rattle.wh_pieces.proofs.PieceLaws.{piece_read, rising-nth, found_there, found_nowhere, without_there, without_nowhere, counted_less}
use Rattle.wh_pieces.proofs.BringLaws.{gone_without}
use Rattle.wh_pieces.proofs.pieces.RowMap.remove.Goals as goal

pub find-requires : goal.find-requires
find-requires g c =
    let ls = c.self.inside.pieces.items in
    let nth = c.find_piece-nth.result in
    let at = c.find_piece-nth.ensures in
    subst (λ (x : List (Row × g.row.T.Denot)). AreRisingRows x) (sym (piece_read ls nth c.index.result.now at.within c.index.ensures)) (rising-nth ls nth at.within c.self.invariant.pieces.rising)

pub invariant_of-self : goal.invariant_of-self
invariant_of-self g c =
    let ls = c.self.inside.pieces.items in
    let nth = c.find_piece-nth.result in
    let at = c.find_piece-nth.ensures in
    let row = c.args.row.now in
    let place = c.in-Ok.place in
    let i = subst (λ (x : List (Row × g.row.T.Denot)). IsAt row x place) (piece_read ls nth c.index.result.now at.within c.index.ensures) c.in-Ok.ensures in
    counted_less row ls c.take_from.new.pieces.items nth place c.self.inside.len c.self.invariant at i c.take_from.ensures.all c.take_from.ensures.some

pub returns-in-Ok-clause-gives : goal.returns-in-Ok-clause-gives
returns-in-Ok-clause-gives g c =
    let ls = c.self.inside.pieces.items in
    let nth = c.find_piece-nth.result in
    let at = c.find_piece-nth.ensures in
    let row = c.args.row.now in
    let place = c.in-Ok.place in
    let i = subst (λ (x : List (Row × g.row.T.Denot)). IsAt row x place) (piece_read ls nth c.index.result.now at.within c.index.ensures) c.in-Ok.ensures in
    let is = piece_read ls nth c.index-in-Ok.result.now at.within c.index-in-Ok.ensures in
    sym (found_there row ls nth place at c.get-old.result.0.now c.get-old.result.1 i (ap (λ (x : List (Row × g.row.T.Denot)). slice_get x place) (sym is) ∙ c.get-old.ensures))
    ∙ ap (found row) c.self.view_is

pub returns-in-Ok-clause-entries : goal.returns-in-Ok-clause-entries
returns-in-Ok-clause-entries g c =
    let ls = c.self.inside.pieces.items in
    let nth = c.find_piece-nth.result in
    let at = c.find_piece-nth.ensures in
    let row = c.args.row.now in
    let place = c.in-Ok.place in
    let i = subst (λ (x : List (Row × g.row.T.Denot)). IsAt row x place) (piece_read ls nth c.index.result.now at.within c.index.ensures) c.in-Ok.ensures in
    c.take_from.ensures.all
    ∙ sym (without_there row ls nth place at i)
    ∙ ap (λ (es : List (Row × g.row.T.Denot)). without_entry es row) c.self.view_is

pub returns-in-Err-clause-gives : goal.returns-in-Err-clause-gives
returns-in-Err-clause-gives g c =
    let ls = c.self.inside.pieces.items in
    let nth = c.find_piece-nth.result in
    let at = c.find_piece-nth.ensures in
    let row = c.args.row.now in
    let place = c.in-Err.field-0 in
    let gap = subst (λ (x : List (Row × g.row.T.Denot)). IsGapFor row x place) (piece_read ls nth c.index.result.now at.within c.index.ensures) c.in-Err.ensures in
    sym (found_nowhere row ls nth place at gap c.self.invariant.pieces.rising)
    ∙ ap (found row) c.self.view_is

pub returns-in-Err-clause-entries : goal.returns-in-Err-clause-entries
returns-in-Err-clause-entries g c =
    let ls = c.self.inside.pieces.items in
    let nth = c.find_piece-nth.result in
    let at = c.find_piece-nth.ensures in
    let row = c.args.row.now in
    let place = c.in-Err.field-0 in
    let gap = subst (λ (x : List (Row × g.row.T.Denot)). IsGapFor row x place) (piece_read ls nth c.index.result.now at.within c.index.ensures) c.in-Err.ensures in
    sym c.self.view_is
    ∙ sym (without_nowhere row ls nth place at gap c.self.invariant.pieces.rising)
    ∙ ap (λ (es : List (Row × g.row.T.Denot)). without_entry es row) c.self.view_is

pub returns-in-Ok-clause-gone : goal.returns-in-Ok-clause-gone
returns-in-Ok-clause-gone g c =
    ap (found c.args.row.now) (returns-in-Ok-clause-entries g c)
    ∙ gone_without c.args.row.now c.args.self.now (subst (λ (es : List (Row × g.row.T.Denot)). AreRisingRows es) c.self.view_is c.self.invariant.pieces.rising)

pub returns-in-Err-clause-gone : goal.returns-in-Err-clause-gone
returns-in-Err-clause-gone g c = sym (returns-in-Err-clause-gives g c)
