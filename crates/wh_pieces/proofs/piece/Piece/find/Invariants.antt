use Rattle.std.proofs.Common.{◌≤◌, ◌-◌, length, take, drop}
use Rattle.wh_pieces.specs.Place.{IsAbove}
use Rattle.wh_pieces.specs.Inner.Place.{IsBelowFirst}
use Rattle.wh_pieces.proofs.piece.Piece.find.Given as goal

abbrev pub invariant-loop-low : goal.invariant-loop-low
invariant-loop-low g l =
    record {
      low : l.low ≤ l.high;
      high : l.high ≤ length l.self;
      above : IsAbove l.row (take l.low l.self);
      below : IsBelowFirst l.row (drop l.high l.self);
    }

abbrev pub decreases-loop-low : goal.decreases-loop-low
decreases-loop-low g l = l.high - l.low
