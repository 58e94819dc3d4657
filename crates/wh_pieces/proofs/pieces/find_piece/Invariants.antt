use Rattle.std.proofs.Common.{◌<◌, ◌≤◌, ◌-◌, length, take, drop}
use Rattle.wh_pieces.specs.Place.{IsAbove}
use Rattle.wh_pieces.specs.Inner.Place.{IsBelowFirst}
use Rattle.wh_pieces.specs.Pieces.{all_of}
use Rattle.wh_pieces.proofs.pieces.find_piece.Given as goal

abbrev pub invariant-loop-high : goal.invariant-loop-high
invariant-loop-high g l =
    record {
      low : l.low < l.high;
      high : l.high ≤ length l.pieces.items;
      above : IsAbove l.row (all_of (take l.low l.pieces.items));
      below : IsBelowFirst l.row (all_of (drop l.high l.pieces.items));
    }

abbrev pub decreases-loop-high : goal.decreases-loop-high
decreases-loop-high g l = l.high - l.low
