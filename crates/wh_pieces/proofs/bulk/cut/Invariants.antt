use Rattle.std.proofs.Common.{◌≡◌, ◌≤◌, ◌*◌, ◌++◌, length}
use Rattle.wh_pieces.specs.Flat.{flat}
use Rattle.wh_pieces.specs.Pieces.{all_of}
use Rattle.wh_pieces.specs.Inner.Pieces.{AreNotEmpty}
use Rattle.wh_pieces.proofs.bulk.cut.Given as goal

abbrev pub invariant-loop-cells : goal.invariant-loop-cells
invariant-loop-cells g l =
    record {
      even : length l.cells ≡ l.width * length l.values;
      all : all_of l.pieces.items ++ flat l.width l.cells l.values ≡ flat l.width l.fn.cells l.fn.values;
      some : AreNotEmpty l.pieces.items;
      within : length l.values ≤ length l.fn.values;
    }

abbrev pub decreases-loop-cells : goal.decreases-loop-cells
decreases-loop-cells g l = length l.values
