use Rattle.std.proofs.Common.{◌≡◌}
use Rattle.wh_pieces.specs.Row.{Row}
use Rattle.wh_pieces.specs.Pieces.{found}
use Rattle.wh_pieces.specs.Inner.Merged.{without}
use Rattle.wh_pieces.proofs.pieces.RowMap.take_rows.Given as goal

abbrev pub invariant-loop-row : goal.invariant-loop-row
invariant-loop-row g l =
    record {
      next : (goal.iterator-loop-row g).can_next l.row-iterator × (goal.iterator-loop-row g).is_finite l.row-iterator;
      so_far : (q : Row) → without (found q l.row-iterator) (found q l.self) ≡ without (found q l.more) (found q l.fn.self);
    }
