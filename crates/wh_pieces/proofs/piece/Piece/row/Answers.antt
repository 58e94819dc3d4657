use Rattle.std.proofs.Common.{rules, ◌≡◌, ◌<◌, ◌+◌, ◌-◌, ◌*◌, length, sym, ap, ◌∙◌, arith, Some, take, drop, slice_get}
use Rattle.std.specs.Map.{keys_of}
use Rattle.wh_pieces.proofs.FlatLaws.{length-flat, row-flat, row_within}
use Rattle.wh_pieces.proofs.piece.Piece.row.Goals as goal

pub overflow_mul-start : goal.overflow_mul-start
overflow_mul-start g c =
    let cells = c.self.inside.cells in
    let vs = c.self.inside.values.items in
    let w = c.self.inside.width in
    let inv : length cells.items ≡ w * length vs = c.self.invariant in
    let within : c.args.place < length vs = omega (arith, length-flat w cells.items vs, ap length c.self.view_is) in
    omega (arith, row_within w c.args.place (length vs) within, cells.small, cells.ok)

pub overflow_add-result : goal.overflow_add-result
overflow_add-result g c =
    let cells = c.self.inside.cells in
    let vs = c.self.inside.values.items in
    let w = c.self.inside.width in
    let inv : length cells.items ≡ w * length vs = c.self.invariant in
    let within : c.args.place < length vs = omega (arith, length-flat w cells.items vs, ap length c.self.view_is) in
    omega (arith, row_within w c.args.place (length vs) within, cells.small, cells.ok)

pub offset_bounds-deref-start : goal.offset_bounds-deref-start
offset_bounds-deref-start g c =
    let cells = c.self.inside.cells in
    let vs = c.self.inside.values.items in
    let w = c.self.inside.width in
    let inv : length cells.items ≡ w * length vs = c.self.invariant in
    let within : c.args.place < length vs = omega (arith, length-flat w cells.items vs, ap length c.self.view_is) in
    omega (arith, row_within w c.args.place (length vs) within, cells.small, cells.ok)

pub slice_bounds-result-end : goal.slice_bounds-result-end
slice_bounds-result-end g c =
    let cells = c.self.inside.cells in
    let vs = c.self.inside.values.items in
    let w = c.self.inside.width in
    let inv : length cells.items ≡ w * length vs = c.self.invariant in
    let within : c.args.place < length vs = omega (arith, length-flat w cells.items vs, ap length c.self.view_is) in
    let fits = row_within w c.args.place (length vs) within in
    let is : c.deref.result.now ≡ cells.items = c.deref.ensures.value in
    let len = ap length is in
    search rules

pub returns : goal.returns
returns g c =
    let cells = c.self.inside.cells.items in
    let vs = c.self.inside.values.items in
    let w = c.self.inside.width in
    let within : c.args.place < length vs = omega (arith, length-flat w cells vs, ap length c.self.view_is) in
    let is : c.deref.result.now ≡ cells = c.deref.ensures.value in
    let wide : w ≡ w * c.args.place + w - w * c.args.place = omega arith in
    ap (λ es. slice_get (keys_of es) c.args.place) (sym c.self.view_is)
    ∙ row-flat w cells vs c.args.place within
    ∙ (λ i. Some (take (wide i) (drop (w * c.args.place) (sym is i))))
