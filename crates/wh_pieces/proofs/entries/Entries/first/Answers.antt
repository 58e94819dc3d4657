use Rattle.std.proofs.Common.{◌∷◌, drop, ap, sym, ◌∙◌}
use Rattle.wh_pieces.specs.Lent.{lent}
use Rattle.wh_pieces.proofs.EntryLaws.{entry_first}
use Rattle.wh_pieces.proofs.entries.Entries.first.Goals as goal

pub returns : goal.returns
returns g c =
    let s = c.self.inside in
    let e = lent c.get.result in
    sym c.self.view_is
    ∙ entry_first s.pieces.now s.place c.in_ok-piece.piece.now e c.in_ok-piece.ensures.value c.get.ensures
    ∙ ap (λ es. e ∷ drop 1 es) c.self.view_is
