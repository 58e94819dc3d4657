use Rattle.std.proofs.Common.{List, subst, sym}
use Rattle.wh_pieces.specs.Row.{Row}
use Rattle.wh_pieces.specs.Inner.Pieces.{AreCounted}
use Rattle.wh_pieces.proofs.PieceLaws.{none_counted}
use Rattle.wh_pieces.proofs.pieces.RowMap.with_most.Goals as goal

pub invariant_of-result : goal.invariant_of-result
invariant_of-result g c = subst (λ (ls : List (List (Row × g.row.T.Denot))). AreCounted ls 0) (sym c.new.ensures.items) (none_counted g.row.T.Denot)
