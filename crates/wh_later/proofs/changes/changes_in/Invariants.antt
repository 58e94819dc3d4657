use Rattle.std.proofs.Common.{◌≡◌, [], drop, map, vec_len}
use Rattle.wh_text.specs.Inner.Dict.{BeginsWith}
use Rattle.wh_text_catalogue.specs.Definitions.{shown_view}
use Rattle.wh_load.specs.ReadingNight.{ChangeRows, rows_after}
use Rattle.wh_later.proofs.changes.changes_in.Given as goal

abbrev pub invariant-loop-view : goal.invariant-loop-view
invariant-loop-view g l = record {
  read : rows_after (ChangeRows 0) l.bundle l.standing.names.now [] (map shown_view l.standing.views.now) l.initial.texts
      ≡ rows_after (ChangeRows 0) l.bundle l.standing.names.now l.all.items (map shown_view (drop l.view-index l.standing.views.now)) l.texts;
  numbered : vec_len l.all ≡ l.view-index;
  begins : BeginsWith l.initial.texts l.texts;
}
