use Rattle.std.proofs.Common.{◌≡◌}
use Rattle.wh_pieces.specs.Row.{Row}
use Rattle.wh_pieces.specs.Place.{AreRisingRows}
use Rattle.wh_pieces.specs.Pieces.{found}
use Rattle.wh_versions.specs.Inner.Tables.{begun, for_touched}
use Rattle.wh_versions.proofs.writing.drop_unread.Given as goal

abbrev pub invariant-loop-row : goal.invariant-loop-row
invariant-loop-row g l =
    record {
      next : (goal.iterator-loop-row g).can_next l.row-iterator × (goal.iterator-loop-row g).is_finite l.row-iterator;
      rising : AreRisingRows l.row-iterator;
      so_far : (q : Row) → for_touched (begun g.row.N l.version) (found q l.row-iterator) (found q l.rows) ≡ for_touched (begun g.row.N l.version) (found q l.touched) (found q l.fn.rows);
    }
