use Rattle.std.proofs.Common.{take}
use Rattle.wh_pieces.specs.Pieces.{AreWide, all_of}
use Rattle.wh_pieces.proofs.pieces.RowMap.has_width.Given as goal

abbrev pub invariant-loop-place : goal.invariant-loop-place
invariant-loop-place g l = AreWide l.width (all_of (take l.place l.self-inside.pieces.items))
