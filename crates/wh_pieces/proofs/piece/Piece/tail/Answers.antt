use Rattle.std.proofs.Common.{rules, List, ◌≡◌, ◌≤◌, length, drop, ◌*◌, ap, sym, ◌∙◌, arith}
use Rattle.std.proofs.lemmas.List.{take_rest}
use Rattle.wh_pieces.specs.Flat.{flat}
use Rattle.wh_pieces.proofs.FlatLaws.{length-flat, place_within, drop-flat, drop-cells}
use Rattle.wh_pieces.proofs.piece.Piece.tail.Given as given
use Rattle.wh_pieces.proofs.piece.Piece.tail.Goals as goal

pub overflow_mul-self-inside : goal.overflow_mul-self-inside
overflow_mul-self-inside g c =
    let s = c.self.inside in
    let inv : length s.cells.items ≡ s.width * length s.values.items = c.self.invariant in
    let fits : c.args.place ≤ length s.values.items = omega (arith, length-flat s.width s.cells.items s.values.items, ap length c.self.view_is) in
    let cells = place_within s.width c.args.place (length s.values.items) fits in
    omega (arith, s.cells.small, s.cells.ok)

pub offset_bounds-deref-self-inside : goal.offset_bounds-deref-self-inside
offset_bounds-deref-self-inside g c =
    let s = c.self.inside in
    let inv : length s.cells.items ≡ s.width * length s.values.items = c.self.invariant in
    let fits : c.args.place ≤ length s.values.items = omega (arith, length-flat s.width s.cells.items s.values.items, ap length c.self.view_is) in
    let cells = place_within s.width c.args.place (length s.values.items) fits in
    omega (arith, s.cells.small, s.cells.ok)

pub slice_bounds-with_room-count : goal.slice_bounds-with_room-count
slice_bounds-with_room-count g c =
    let s = c.self.inside in
    let inv : length s.cells.items ≡ s.width * length s.values.items = c.self.invariant in
    let fits : c.args.place ≤ length s.values.items = omega (arith, length-flat s.width s.cells.items s.values.items, ap length c.self.view_is) in
    let cells = place_within s.width c.args.place (length s.values.items) fits in
    omega (arith, ap length c.deref.ensures.value)

pub slice_bounds-with_room-start : goal.slice_bounds-with_room-start
slice_bounds-with_room-start g c =
    let s = c.self.inside in
    let inv : length s.cells.items ≡ s.width * length s.values.items = c.self.invariant in
    let fits : c.args.place ≤ length s.values.items = omega (arith, length-flat s.width s.cells.items s.values.items, ap length c.self.view_is) in
    let cells = place_within s.width c.args.place (length s.values.items) fits in
    let len = ap length c.deref.ensures.value in
    search rules

pub offset_bounds-deref-place : goal.offset_bounds-deref-place
offset_bounds-deref-place g c =
    let s = c.self.inside in
    let inv : length s.cells.items ≡ s.width * length s.values.items = c.self.invariant in
    let fits : c.args.place ≤ length s.values.items = omega (arith, length-flat s.width s.cells.items s.values.items, ap length c.self.view_is) in
    let cells = place_within s.width c.args.place (length s.values.items) fits in
    omega (arith, ap length c.deref-2.ensures.value)

pub slice_bounds-with_room-count-2 : goal.slice_bounds-with_room-count-2
slice_bounds-with_room-count-2 g c =
    let s = c.self.inside in
    let inv : length s.cells.items ≡ s.width * length s.values.items = c.self.invariant in
    let fits : c.args.place ≤ length s.values.items = omega (arith, length-flat s.width s.cells.items s.values.items, ap length c.self.view_is) in
    let cells = place_within s.width c.args.place (length s.values.items) fits in
    omega (arith, ap length c.deref-2.ensures.value)

pub slice_bounds-with_room-start-2 : goal.slice_bounds-with_room-start-2
slice_bounds-with_room-start-2 g c =
    let s = c.self.inside in
    let inv : length s.cells.items ≡ s.width * length s.values.items = c.self.invariant in
    let fits : c.args.place ≤ length s.values.items = omega (arith, length-flat s.width s.cells.items s.values.items, ap length c.self.view_is) in
    let cells = place_within s.width c.args.place (length s.values.items) fits in
    let len = ap length c.deref-2.ensures.value in
    search rules

cells_are : (g : given.Over) (c : goal.In_ok-values g) → c.in_ok-cells.cells.items ≡ drop (c.self.inside.width * c.args.place) c.self.inside.cells.items
cells_are g c = c.in_ok-cells.ensures.items ∙ take_rest c.deref.result.now (c.self.inside.width * c.args.place) ∙ ap (drop (c.self.inside.width * c.args.place)) c.deref.ensures.value

values_are : (g : given.Over) (c : goal.In_ok-values g) → c.in_ok-values.values.items ≡ drop c.args.place c.self.inside.values.items
values_are g c = c.in_ok-values.ensures.items ∙ take_rest c.deref-2.result.now c.args.place ∙ ap (drop c.args.place) c.deref-2.ensures.value

pub invariant_of-result : goal.invariant_of-result
invariant_of-result g c =
    let s = c.self.inside in
    let inv : length s.cells.items ≡ s.width * length s.values.items = c.self.invariant in
    let fits : c.args.place ≤ length s.values.items = omega (arith, length-flat s.width s.cells.items s.values.items, ap length c.self.view_is) in
    ap length (cells_are g c) ∙ drop-cells s.width s.cells.items s.values.items c.args.place inv fits ∙ ap (λ (vs : List g.row.T.Denot). s.width * length vs) (sym (values_are g c))

pub returns : goal.returns
returns g c =
    let s = c.self.inside in
    (λ i. flat s.width (cells_are g c i) (values_are g c i))
    ∙ sym (drop-flat s.width s.cells.items s.values.items c.args.place)
    ∙ ap (drop c.args.place) c.self.view_is
