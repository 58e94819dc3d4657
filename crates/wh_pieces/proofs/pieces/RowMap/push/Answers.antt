use Rattle.std.proofs.Common.{◌<◌, ◌+◌, ◌^◌, List, sym, subst, arith}
use Rattle.wh_pieces.specs.Row.{Row}
use Rattle.wh_pieces.specs.Place.{IsAbove}
use Rattle.wh_pieces.proofs.PieceLaws.{counted_pushed}
use Rattle.wh_pieces.proofs.pieces.RowMap.push.Goals as goal

pub invariant_of-self-2 : goal.invariant_of-self-2
invariant_of-self-2 g c =
    let s = c.self.inside in
    let small : s.len + 1 < 2 ^ 63 = omega arith in
    counted_pushed c.args.row.now c.args.value s.pieces.items c.put_last.new.pieces.items s.len c.self.invariant
    (subst (λ (es : List (Row × g.row.T.Denot)). IsAbove c.args.row.now es) (sym c.self.view_is) c.requires)
    c.in_ok-put_last.ensures.ok c.in_ok-put_last.ensures.some small
