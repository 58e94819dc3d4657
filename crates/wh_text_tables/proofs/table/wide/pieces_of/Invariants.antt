use Rattle.std.proofs.Common.{◌≡◌, ◌++◌}
use Rattle.std.specs.Prelude.{flat_map}
use Rattle.wh_text_tables.specs.Records.{records_of}
use Rattle.wh_text_tables.proofs.table.wide.pieces_of.Given as goal

-- the records of the pieces so far, and of what is left
abbrev pub invariant-loop-piece : goal.invariant-loop-piece
invariant-loop-piece l = records_of l.fn.text ≡ flat_map (λ piece. records_of piece.now) l.pieces.items ++ records_of l.rest
