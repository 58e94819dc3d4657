use Rattle.std.proofs.Common.{length, ap, arith}
use Rattle.wh_pieces.proofs.FlatLaws.{length-flat}
use Rattle.wh_pieces.proofs.piece.Piece.len.Goals as goal

pub returns : goal.returns
returns g c =
    let s = c.self.inside in
    omega (arith, length-flat s.width s.cells.items s.values.items, ap length c.self.view_is, s.values.ok.0, c.len.ensures)
