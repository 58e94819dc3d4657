use Rattle.std.proofs.Common.{◌≡◌, [], drop, map, vec_len}
use Rattle.toml.specs.View.{view}
use Rattle.wh_text.specs.Inner.Dict.{Grows}
use Rattle.wh_text_catalogue.specs.Definitions.{shown_view, views_after}
use Rattle.wh_text_catalogue.proofs.definitions.views_after.Given as goal

abbrev pub invariant-loop-table : goal.invariant-loop-table
invariant-loop-table l = record {
  read : views_after l.shape [] (map view l.tables) l.initial.texts ≡ views_after l.shape (map shown_view l.views.items) (map view (drop l.table-index l.tables)) l.texts;
  grows : Grows l.initial.texts l.texts;
  numbered : vec_len l.views ≡ l.table-index;
}
