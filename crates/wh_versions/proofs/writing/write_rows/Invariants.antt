use Rattle.std.proofs.Common.{◌≡◌, ◌≢◌, None, drop, true}
use Rattle.wh_pieces.specs.Row.{Row}
use Rattle.wh_pieces.specs.Pieces.{found}
use Rattle.wh_row.specs.Stored.{plain}
use Rattle.wh_versions.specs.Tables.{HaveCounts, is_given, written}
use Rattle.wh_versions.proofs.writing.write_rows.Given as goal

abbrev pub invariant-loop-row : goal.invariant-loop-row
invariant-loop-row g l =
    record {
      there : (q : Row) → is_given q (plain (drop l.row-index l.given)) ≡ true → found q l.rows ≢ None;
      counts : HaveCounts (plain (drop l.row-index l.given));
      so_far : (q : Row) → written g.row.N l.version (plain (drop l.row-index l.given)) q (found q l.rows) ≡ written g.row.N l.version (plain l.given) q (found q l.fn.rows);
    }
