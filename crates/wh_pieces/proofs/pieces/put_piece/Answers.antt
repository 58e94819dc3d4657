use Rattle.std.proofs.Common.{◌++◌, take, drop, ap, ◌∙◌}
use Rattle.wh_pieces.specs.Pieces.{all_of}
use Rattle.wh_pieces.proofs.PieceLaws.{all-insert}
use Rattle.wh_pieces.proofs.pieces.put_piece.Goals as goal

pub returns-clause-ok : goal.returns-clause-ok
returns-clause-ok g c =
    let ls = c.args.pieces.now.items in
    ap all_of c.in-Ok.ensures.items
    ∙ all-insert ls c.args.nth c.in_ok-piece.piece
    ∙ ap (λ x. all_of (take c.args.nth ls) ++ (x ++ all_of (drop c.args.nth ls))) c.in_ok-piece.ensures
