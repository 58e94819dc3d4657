use Rattle.std.proofs.Common.{All, map}
use Rattle.wh_text_catalogue.specs.Definitions.{shown_view}
use Rattle.wh_load.specs.Inner.ReadingRows.{IsAheadOf, shown_rows}
use Rattle.wh_load.proofs.reading.ahead.read_views.Given as goal

abbrev pub invariant-loop-view : goal.invariant-loop-view
invariant-loop-view l = All (IsAheadOf (shown_rows l.rows) l.bundle l.known.names.now (map shown_view l.known.views.now)) l.all.items
