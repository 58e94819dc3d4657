use Rattle.wh_pieces.proofs.NotedLaws.{IsNoting}
use Rattle.wh_pieces.proofs.pieces.RowMap.bring.Given as goal

abbrev pub invariant-loop-row : goal.invariant-loop-row
invariant-loop-row g l =
    record {
      next : (goal.iterator-loop-row g).can_next l.row-iterator × (goal.iterator-loop-row g).is_finite l.row-iterator;
      noting : IsNoting l.fn.self l.other l.self l.brought l.row-iterator;
    }
