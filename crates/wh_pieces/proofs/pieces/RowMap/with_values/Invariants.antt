use Rattle.std.proofs.Common.{take}
use Rattle.wh_pieces.specs.Pieces.{AreRevalued}
use Rattle.wh_pieces.specs.Inner.Pieces.{AreMade}
use Rattle.wh_pieces.proofs.pieces.RowMap.with_values.Given as goal

abbrev pub invariant-loop-piece : goal.invariant-loop-piece
invariant-loop-piece g l = AreMade (AreRevalued (λ old new. g.F.Fn.post l.value_of (old, tt) new)) (take l.piece-index l.self-inside.pieces.items) l.pieces.items
