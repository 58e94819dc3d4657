use Rattle.std.proofs.Common.{◌≡◌, ◌≤◌, length, take, ◌*◌, ap, sym, ◌∙◌, arith}
use Rattle.wh_pieces.specs.Flat.{flat}
use Rattle.wh_pieces.proofs.FlatLaws.{length-flat, place_within, take-flat}
use Rattle.wh_pieces.proofs.piece.Piece.truncate.Goals as goal

pub overflow_mul-self-inside : goal.overflow_mul-self-inside
overflow_mul-self-inside g c =
    let s = c.self.inside in
    let inv : length s.cells.items ≡ s.width * length s.values.items = c.self.invariant in
    let fits : c.args.place ≤ length s.values.items = omega (arith, length-flat s.width s.cells.items s.values.items, ap length c.self.view_is) in
    let cells = place_within s.width c.args.place (length s.values.items) fits in
    omega (arith, s.cells.small, s.cells.ok)

pub returns : goal.returns
returns g c =
    let s = c.self.inside in
    (λ i. flat s.width (c.truncate.ensures.items i) (c.truncate-2.ensures.items i))
    ∙ sym (take-flat s.width s.cells.items s.values.items c.args.place)
    ∙ ap (take c.args.place) c.self.view_is
