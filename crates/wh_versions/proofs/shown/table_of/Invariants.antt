use Rattle.wh_pieces.specs.Place.{AreRisingRows}
use Rattle.wh_versions.proofs.TableOfLaws.{IsPart}
use Rattle.wh_versions.proofs.shown.table_of.Given as goal

abbrev pub invariant-loop-row : goal.invariant-loop-row
invariant-loop-row g l =
    record {
      next : (goal.iterator-loop-row g).can_next l.row-iterator × (goal.iterator-loop-row g).is_finite l.row-iterator;
      rising : AreRisingRows l.row-iterator;
      part : IsPart l.version l.rows l.row-iterator l.table;
    }
