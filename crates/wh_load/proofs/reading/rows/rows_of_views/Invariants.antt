use Rattle.std.proofs.Common.{◌≡◌, [], All, drop, map, vec_len}
use Rattle.wh_text_catalogue.specs.Definitions.{shown_view}
use Rattle.wh_load.specs.Inner.ReadingRows.{IsAheadOf, shown_rows}
use Rattle.wh_load.specs.ReadingNight.{rows_after}
use Rattle.wh_load.proofs.reading.rows.rows_of_views.Given as goal

abbrev pub invariant-loop-view : goal.invariant-loop-view
invariant-loop-view g l = record {
  read : rows_after (shown_rows l.rows) l.bundle l.known.names.now [] (map shown_view l.known.views.now) l.initial.texts
      ≡ rows_after (shown_rows l.rows) l.bundle l.known.names.now l.all.items (map shown_view (drop l.view-index l.known.views.now)) l.texts;
  numbered : vec_len l.all ≡ l.view-index;
  ahead : All (IsAheadOf (shown_rows l.rows) l.bundle l.known.names.now (map shown_view l.known.views.now)) l.ahead.items;
}
