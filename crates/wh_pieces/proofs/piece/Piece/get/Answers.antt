use Rattle.std.proofs.Common.{◌<◌, length, ap, sym, ◌∙◌, arith, slice_get}
use Rattle.std.specs.Map.{keys_of}
use Rattle.wh_pieces.proofs.FlatLaws.{length-flat, get-flat, got}
use Rattle.wh_pieces.proofs.piece.Piece.get.Goals as goal

pub index-requires : goal.index-requires
index-requires g c =
    let s = c.self.inside in
    omega (arith, length-flat s.width s.cells.items s.values.items, ap length c.self.view_is, s.values.ok.0)

pub returns : goal.returns
returns g c =
    let s = c.self.inside in
    let within : c.args.place < length s.values.items = omega (arith, length-flat s.width s.cells.items s.values.items, ap length c.self.view_is) in
    ap (λ es. slice_get es c.args.place) (sym c.self.view_is)
    ∙ get-flat s.width s.cells.items s.values.items c.args.place c.row.result.now c.index.result.now
    (ap (λ es. slice_get (keys_of es) c.args.place) c.self.view_is ∙ c.row.ensures)
    (got s.values.items c.args.place c.index.result.now within c.index.ensures)
