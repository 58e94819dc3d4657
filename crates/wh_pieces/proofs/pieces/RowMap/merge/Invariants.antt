use Rattle.std.proofs.Common.{◌≡◌}
use Rattle.wh_pieces.specs.Row.{Row}
use Rattle.wh_pieces.specs.Inner.Merged.{lacking}
use Rattle.wh_pieces.specs.Place.{AreRisingRows}
use Rattle.wh_pieces.specs.Pieces.{found}
use Rattle.wh_pieces.proofs.BringLaws.{IsBringing}
use Rattle.wh_pieces.proofs.pieces.RowMap.merge.Given as goal

abbrev pub invariant-loop-row : goal.invariant-loop-row
invariant-loop-row g l =
    record {
      next : (goal.iterator-loop-row g).can_next l.row-iterator × (goal.iterator-loop-row g).is_finite l.row-iterator;
      bringing : IsBringing (goal.F-post g l.combine) l.fn.self l.other l.self l.row-iterator;
      rising : AreRisingRows l.left;
      beside : (q : Row) → found q l.left ≡ lacking (found q l.fn.self) (found q l.row-iterator);
    }
