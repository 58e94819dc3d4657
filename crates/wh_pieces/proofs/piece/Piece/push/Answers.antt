use Rattle.std.proofs.Common.{◌≡◌, ◌+◌, ◌*◌, [], ◌∷◌, ◌++◌, length, length-append, ap, sym, ◌∙◌, arith}
use Rattle.wh_pieces.specs.Flat.{flat}
use Rattle.wh_pieces.proofs.FlatLaws.{flat-append, flat-one}
use Rattle.wh_pieces.proofs.piece.Piece.push.Goals as goal

pub invariant_of-self-2 : goal.invariant_of-self-2
invariant_of-self-2 g c =
    let s = c.self.inside in
    let v = c.args.value in
    let inv : length s.cells.items ≡ s.width * length s.values.items = c.self.invariant in
    let vs : c.push.new.self.items ≡ s.values.items ++ v ∷ [] = c.in-Ok.ensures.items ∙ ap (λ xs. xs ++ v ∷ []) c.reserve.ensures.items in
    let wide : length c.args.row.now ≡ s.width = c.if-row-self.false in
    let more : length (s.cells.items ++ c.args.row.now) ≡ s.width * (length s.values.items + 1) = omega (arith, length-append s.cells.items c.args.row.now) in
    ap length c.in_ok-extend_from_slice.ensures.items
    ∙ more
    ∙ ap (λ n. s.width * n) (sym (length-append s.values.items (v ∷ [])))
    ∙ ap (λ xs. s.width * length xs) (sym vs)

pub returns : goal.returns
returns g c =
    let s = c.self.inside in
    let v = c.args.value in
    let row = c.args.row.now in
    let inv : length s.cells.items ≡ s.width * length s.values.items = c.self.invariant in
    let vs : c.push.new.self.items ≡ s.values.items ++ v ∷ [] = c.in-Ok.ensures.items ∙ ap (λ xs. xs ++ v ∷ []) c.reserve.ensures.items in
    (λ i. flat s.width (c.in_ok-extend_from_slice.ensures.items i) (vs i))
    ∙ flat-append s.width s.cells.items row s.values.items (v ∷ []) inv
    ∙ (λ i. c.self.view_is i ++ flat-one s.width row v c.if-row-self.false i)
