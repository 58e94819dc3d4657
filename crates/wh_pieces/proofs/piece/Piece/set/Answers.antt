use Rattle.std.proofs.Common.{◌*◌, length, ap, sym, ◌∙◌, arith}
use Rattle.std.proofs.lemmas.List.{length-set}
use Rattle.wh_pieces.specs.Inner.Place.{set_at}
use Rattle.wh_pieces.proofs.FlatLaws.{length-flat, set-flat}
use Rattle.wh_pieces.proofs.piece.Piece.set.Goals as goal

pub index_mut-requires : goal.index_mut-requires
index_mut-requires g c =
    let s = c.self.inside in
    omega (arith, length-flat s.width s.cells.items s.values.items, ap length c.self.view_is, s.values.ok.0)

pub invariant_of-self : goal.invariant_of-self
invariant_of-self g c =
    let s = c.self.inside in
    c.self.invariant ∙ ap (λ n. s.width * n) (sym (length-set s.values.items c.args.place c.args.value))

pub returns : goal.returns
returns g c =
    let s = c.self.inside in
    set-flat s.width s.cells.items s.values.items c.args.place c.args.value ∙ ap (λ es. set_at es c.args.place c.args.value) c.self.view_is
