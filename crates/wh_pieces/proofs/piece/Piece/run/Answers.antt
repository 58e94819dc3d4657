use Rattle.std.proofs.Common.{rules, ◌≡◌, ◌≤◌, ◌+◌, ◌-◌, length, take, drop, ◌*◌, ap, ◌∙◌, arith}
use Rattle.wh_pieces.specs.Flat.{flat}
use Rattle.wh_pieces.proofs.FlatLaws.{length-flat, place_within, mul_add, run-flat}
use Rattle.wh_pieces.proofs.piece.Piece.run.Goals as goal

pub overflow_mul-start : goal.overflow_mul-start
overflow_mul-start g c =
    let s = c.self.inside in
    let inv : length s.cells.items ≡ s.width * length s.values.items = c.self.invariant in
    let fits : c.args.place + c.args.count ≤ length s.values.items = omega (arith, length-flat s.width s.cells.items s.values.items, ap length c.self.view_is) in
    let cells = place_within s.width (c.args.place + c.args.count) (length s.values.items) fits in
    let parts = mul_add s.width c.args.place c.args.count in
    omega (arith, s.cells.small, s.cells.ok)

pub overflow_add-end : goal.overflow_add-end
overflow_add-end g c =
    let s = c.self.inside in
    let inv : length s.cells.items ≡ s.width * length s.values.items = c.self.invariant in
    let fits : c.args.place + c.args.count ≤ length s.values.items = omega (arith, length-flat s.width s.cells.items s.values.items, ap length c.self.view_is) in
    let cells = place_within s.width (c.args.place + c.args.count) (length s.values.items) fits in
    let parts = mul_add s.width c.args.place c.args.count in
    omega (arith, s.values.small, s.values.ok)

pub overflow_mul-cells : goal.overflow_mul-cells
overflow_mul-cells g c =
    let s = c.self.inside in
    let inv : length s.cells.items ≡ s.width * length s.values.items = c.self.invariant in
    let fits : c.args.place + c.args.count ≤ length s.values.items = omega (arith, length-flat s.width s.cells.items s.values.items, ap length c.self.view_is) in
    let cells = place_within s.width (c.args.place + c.args.count) (length s.values.items) fits in
    let parts = mul_add s.width c.args.place c.args.count in
    omega (arith, s.cells.small, s.cells.ok)

pub offset_bounds-deref-start : goal.offset_bounds-deref-start
offset_bounds-deref-start g c =
    let s = c.self.inside in
    let inv : length s.cells.items ≡ s.width * length s.values.items = c.self.invariant in
    let fits : c.args.place + c.args.count ≤ length s.values.items = omega (arith, length-flat s.width s.cells.items s.values.items, ap length c.self.view_is) in
    let cells = place_within s.width (c.args.place + c.args.count) (length s.values.items) fits in
    let parts = mul_add s.width c.args.place c.args.count in
    omega (arith, s.cells.small, s.cells.ok)

pub slice_bounds-cells-count : goal.slice_bounds-cells-count
slice_bounds-cells-count g c =
    let s = c.self.inside in
    let inv : length s.cells.items ≡ s.width * length s.values.items = c.self.invariant in
    let fits : c.args.place + c.args.count ≤ length s.values.items = omega (arith, length-flat s.width s.cells.items s.values.items, ap length c.self.view_is) in
    let cells = place_within s.width (c.args.place + c.args.count) (length s.values.items) fits in
    let parts = mul_add s.width c.args.place c.args.count in
    omega (arith)

pub slice_bounds-cells-start : goal.slice_bounds-cells-start
slice_bounds-cells-start g c =
    let s = c.self.inside in
    let inv : length s.cells.items ≡ s.width * length s.values.items = c.self.invariant in
    let fits : c.args.place + c.args.count ≤ length s.values.items = omega (arith, length-flat s.width s.cells.items s.values.items, ap length c.self.view_is) in
    let cells = place_within s.width (c.args.place + c.args.count) (length s.values.items) fits in
    let parts = mul_add s.width c.args.place c.args.count in
    let len = ap length c.deref.ensures.value in
    search rules

pub slice_bounds-cells-end : goal.slice_bounds-cells-end
slice_bounds-cells-end g c =
    let s = c.self.inside in
    let inv : length s.cells.items ≡ s.width * length s.values.items = c.self.invariant in
    let fits : c.args.place + c.args.count ≤ length s.values.items = omega (arith, length-flat s.width s.cells.items s.values.items, ap length c.self.view_is) in
    let cells = place_within s.width (c.args.place + c.args.count) (length s.values.items) fits in
    let parts = mul_add s.width c.args.place c.args.count in
    let len = ap length c.deref.ensures.value in
    search rules

pub offset_bounds-deref-place : goal.offset_bounds-deref-place
offset_bounds-deref-place g c =
    let s = c.self.inside in
    let inv : length s.cells.items ≡ s.width * length s.values.items = c.self.invariant in
    let fits : c.args.place + c.args.count ≤ length s.values.items = omega (arith, length-flat s.width s.cells.items s.values.items, ap length c.self.view_is) in
    let cells = place_within s.width (c.args.place + c.args.count) (length s.values.items) fits in
    let parts = mul_add s.width c.args.place c.args.count in
    omega (arith, ap length c.deref-2.ensures.value)

pub slice_bounds-result-end : goal.slice_bounds-result-end
slice_bounds-result-end g c =
    let s = c.self.inside in
    let inv : length s.cells.items ≡ s.width * length s.values.items = c.self.invariant in
    let fits : c.args.place + c.args.count ≤ length s.values.items = omega (arith, length-flat s.width s.cells.items s.values.items, ap length c.self.view_is) in
    let cells = place_within s.width (c.args.place + c.args.count) (length s.values.items) fits in
    let parts = mul_add s.width c.args.place c.args.count in
    let len = ap length c.deref-2.ensures.value in
    search rules

pub returns-clause-rows : goal.returns-clause-rows
returns-clause-rows g c =
    let s = c.self.inside in
    let inv : length s.cells.items ≡ s.width * length s.values.items = c.self.invariant in
    let fits : c.args.place + c.args.count ≤ length s.values.items = omega (arith, length-flat s.width s.cells.items s.values.items, ap length c.self.view_is) in
    let cells = place_within s.width (c.args.place + c.args.count) (length s.values.items) fits in
    let parts = mul_add s.width c.args.place c.args.count in
    let n : s.width * (c.args.place + c.args.count) - s.width * c.args.place ≡ s.width * c.args.count = omega (arith, parts) in
    let k : c.args.place + c.args.count - c.args.place ≡ c.args.count = omega arith in
    (λ i. flat s.width (take (s.width * (c.args.place + c.args.count) - s.width * c.args.place) (drop (s.width * c.args.place) (c.deref.ensures.value i))) (take (k i) (drop c.args.place (c.deref-2.ensures.value i))))
    ∙ run-flat s.width s.cells.items s.values.items c.args.place c.args.count (s.width * (c.args.place + c.args.count) - s.width * c.args.place) n
    ∙ ap (λ es. take c.args.count (drop c.args.place es)) c.self.view_is
