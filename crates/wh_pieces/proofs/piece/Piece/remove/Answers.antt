use Rattle.std.proofs.Common.{◌≡◌, ◌<◌, ◌≤◌, length, ◌*◌, ap, sym, ◌∙◌, arith}
use Rattle.std.specs.List.{remove}
use Rattle.wh_pieces.specs.Flat.{flat}
use Rattle.wh_pieces.proofs.FlatLaws.{length-flat, place_within, row_within, remove-flat, remove-cells}
use Rattle.wh_pieces.proofs.piece.Piece.remove.Goals as goal

pub overflow_mul-self-inside : goal.overflow_mul-self-inside
overflow_mul-self-inside g c =
    let s = c.self.inside in
    let inv : length s.cells.items ≡ s.width * length s.values.items = c.self.invariant in
    let fits : c.args.place ≤ length s.values.items = omega (arith, length-flat s.width s.cells.items s.values.items, ap length c.self.view_is) in
    let cells = place_within s.width c.args.place (length s.values.items) fits in
    omega (arith, s.cells.small, s.cells.ok)

pub take_out-requires : goal.take_out-requires
take_out-requires g c =
    let s = c.self.inside in
    let inv : length s.cells.items ≡ s.width * length s.values.items = c.self.invariant in
    let fits : c.args.place ≤ length s.values.items = omega (arith, length-flat s.width s.cells.items s.values.items, ap length c.self.view_is) in
    let cells = place_within s.width c.args.place (length s.values.items) fits in
    omega (arith, s.cells.ok, row_within s.width c.args.place (length s.values.items) (omega (arith, length-flat s.width s.cells.items s.values.items, ap length c.self.view_is)))

pub remove-requires : goal.remove-requires
remove-requires g c =
    let s = c.self.inside in
    let inv : length s.cells.items ≡ s.width * length s.values.items = c.self.invariant in
    let fits : c.args.place ≤ length s.values.items = omega (arith, length-flat s.width s.cells.items s.values.items, ap length c.self.view_is) in
    let cells = place_within s.width c.args.place (length s.values.items) fits in
    omega (arith, s.values.ok, length-flat s.width s.cells.items s.values.items, ap length c.self.view_is)

pub invariant_of-self : goal.invariant_of-self
invariant_of-self g c =
    let s = c.self.inside in
    let inv : length s.cells.items ≡ s.width * length s.values.items = c.self.invariant in
    let fits : c.args.place < length s.values.items = omega (arith, length-flat s.width s.cells.items s.values.items, ap length c.self.view_is) in
    ap length c.take_out.ensures
    ∙ remove-cells s.width s.cells.items s.values.items c.args.place inv fits
    ∙ ap (λ xs. s.width * length xs) (sym c.remove.ensures.items)

pub returns : goal.returns
returns g c =
    let s = c.self.inside in
    let inv : length s.cells.items ≡ s.width * length s.values.items = c.self.invariant in
    let fits : c.args.place < length s.values.items = omega (arith, length-flat s.width s.cells.items s.values.items, ap length c.self.view_is) in
    (λ i. flat s.width (c.take_out.ensures i) (c.remove.ensures.items i))
    ∙ remove-flat s.width s.cells.items s.values.items c.args.place inv fits
    ∙ ap (λ es. remove es c.args.place) c.self.view_is
