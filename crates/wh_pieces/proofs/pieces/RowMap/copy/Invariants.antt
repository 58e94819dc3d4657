use Rattle.std.proofs.Common.{◌≡◌, take}
use Rattle.wh_pieces.proofs.pieces.RowMap.copy.Given as goal

abbrev pub invariant-loop-piece : goal.invariant-loop-piece
invariant-loop-piece g l = l.pieces.items ≡ take l.piece-index l.self-inside.pieces.items
