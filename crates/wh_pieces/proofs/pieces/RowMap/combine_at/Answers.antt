use Rattle.std.proofs.Common.{rules}
use Rattle.wh_pieces.proofs.BringLaws.{found-remade}
use Rattle.wh_pieces.proofs.pieces.RowMap.combine_at.Goals as goal

pub returns : goal.returns
returns g c = λ v h.
    let made = c.in-Ok.ensures.there v h in
    (made.0, search (rules, made.1), found-remade c.args.self.now c.insert_or.new.self c.args.row.now made.0 made.2 made.3)
