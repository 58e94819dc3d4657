use Rattle.std.proofs.Common.{take}
use Rattle.wh_pieces.specs.Inner.Pieces.{AreMade}
use Rattle.wh_pieces.proofs.piece.Piece.with_values.Given as goal

abbrev pub invariant-loop-value : goal.invariant-loop-value
invariant-loop-value g l = AreMade (λ old new. g.F.Fn.post l.value_of (old, tt) new) (take l.value-index l.self-inside.values.items) l.values.items
