use Rattle.std.proofs.Common.{◌≡◌, [], drop, map, vec_len}
use Rattle.wh_text_catalogue.specs.Definitions.{shown_view}
use Rattle.wh_load.specs.ReadingNight.{TableRows, rows_after}
use Rattle.wh_opening.proofs.tables.rows_of_views.Given as goal

abbrev pub invariant-loop-view : goal.invariant-loop-view
invariant-loop-view g l = record {
  read : rows_after TableRows l.bundle l.opened.names.now [] (map shown_view l.opened.views.now) l.initial.texts
      ≡ rows_after TableRows l.bundle l.opened.names.now l.all.items (map shown_view (drop l.view-index l.opened.views.now)) l.texts;
  numbered : vec_len l.all ≡ l.view-index;
}
