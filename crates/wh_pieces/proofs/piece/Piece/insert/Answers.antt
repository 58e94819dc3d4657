use Rattle.std.proofs.Common.{◌≡◌, ◌≤◌, length, ◌*◌, ap, sym, ◌∙◌, arith}
use Rattle.std.specs.List.{insert}
use Rattle.wh_pieces.specs.Flat.{flat}
use Rattle.wh_pieces.proofs.FlatLaws.{length-flat, place_within, insert-flat, insert-cells}
use Rattle.wh_pieces.proofs.piece.Piece.insert.Goals as goal

pub overflow_mul-self-inside : goal.overflow_mul-self-inside
overflow_mul-self-inside g c =
    let s = c.self.inside in
    let inv : length s.cells.items ≡ s.width * length s.values.items = c.self.invariant in
    let fits : c.args.place ≤ length s.values.items = omega (arith, length-flat s.width s.cells.items s.values.items, ap length c.self.view_is) in
    let cells = place_within s.width c.args.place (length s.values.items) fits in
    omega (arith, s.cells.small, s.cells.ok)

pub put_in-requires : goal.put_in-requires
put_in-requires g c =
    let s = c.self.inside in
    let inv : length s.cells.items ≡ s.width * length s.values.items = c.self.invariant in
    let fits : c.args.place ≤ length s.values.items = omega (arith, length-flat s.width s.cells.items s.values.items, ap length c.self.view_is) in
    let cells = place_within s.width c.args.place (length s.values.items) fits in
    omega (arith, s.cells.ok)

pub insert-requires : goal.insert-requires
insert-requires g c =
    let s = c.self.inside in
    let inv : length s.cells.items ≡ s.width * length s.values.items = c.self.invariant in
    let fits : c.args.place ≤ length s.values.items = omega (arith, length-flat s.width s.cells.items s.values.items, ap length c.self.view_is) in
    let cells = place_within s.width c.args.place (length s.values.items) fits in
    omega (arith, s.values.ok, c.reserve.ensures.len)

pub invariant_of-self-2 : goal.invariant_of-self-2
invariant_of-self-2 g c =
    let s = c.self.inside in
    let inv : length s.cells.items ≡ s.width * length s.values.items = c.self.invariant in
    let fits : c.args.place ≤ length s.values.items = omega (arith, length-flat s.width s.cells.items s.values.items, ap length c.self.view_is) in
    let vs : c.insert.new.self.items ≡ insert s.values.items c.args.place c.args.value = c.in-Ok.ensures.items ∙ ap (λ xs. insert xs c.args.place c.args.value) c.reserve.ensures.items in
    ap length c.in_ok-put_in.ensures.ok
    ∙ insert-cells s.width s.cells.items s.values.items c.args.place c.args.row.now c.args.value inv fits c.if-row-self.false
    ∙ ap (λ xs. s.width * length xs) (sym vs)

pub returns : goal.returns
returns g c =
    let s = c.self.inside in
    let inv : length s.cells.items ≡ s.width * length s.values.items = c.self.invariant in
    let fits : c.args.place ≤ length s.values.items = omega (arith, length-flat s.width s.cells.items s.values.items, ap length c.self.view_is) in
    let vs : c.insert.new.self.items ≡ insert s.values.items c.args.place c.args.value = c.in-Ok.ensures.items ∙ ap (λ xs. insert xs c.args.place c.args.value) c.reserve.ensures.items in
    (λ i. flat s.width (c.in_ok-put_in.ensures.ok i) (vs i))
    ∙ insert-flat s.width s.cells.items s.values.items c.args.place c.args.row.now c.args.value inv fits c.if-row-self.false
    ∙ ap (λ es. insert es c.args.place (c.args.row.now, c.args.value)) c.self.view_is
