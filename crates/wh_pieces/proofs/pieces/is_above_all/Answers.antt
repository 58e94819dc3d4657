use Rattle.std.proofs.Common.{◌≡◌, ◌<◌, ◌-◌, length, List, ap, sym, ◌∙◌, arith, slice_get, Some}
use Rattle.std.specs.Map.{keys_of}
use Rattle.wh_pieces.specs.Row.{Row}
use Rattle.wh_pieces.specs.Inner.Pieces.{piece_at}
use Rattle.wh_pieces.proofs.PieceLaws.{piece_read}
use Rattle.wh_pieces.proofs.LastLaws.{above_last}
use Rattle.wh_pieces.proofs.pieces.is_above_all.Goals as goal

pub returns-in-Greater-clause-above : goal.returns-in-Greater-clause-above
returns-in-Greater-clause-above g c = λ _.
    let ls = c.args.pieces.now.items in
    let nth = c.len-count.result - 1 in
    let within : nth < length ls = omega arith in
    let is = piece_read ls nth c.index-last.result.now within c.index-last.ensures in
    let last : slice_get (keys_of (piece_at ls nth)) (length (piece_at ls nth) - 1) ≡ Some c.row.result.now =
    ap (λ (x : List (Row × g.row.T.Denot)). slice_get (keys_of x) (length x - 1)) (sym is) ∙ ap (λ n. slice_get (keys_of c.index-last.result.now) (n - 1)) (sym c.len.ensures) ∙ c.row.ensures in
    above_last c.args.row.now c.row.result.now ls nth (omega arith) c.requires.pieces last (sym c.cmp.ensures ∙ c.in-Greater.is)
