use Rattle.std.proofs.Common.{◌≡◌, [], drop, map}
use Rattle.std.specs.Cow.{cow_slice_items}
use Rattle.wh_text_catalogue.specs.Definitions.{shown_view}
use Rattle.wh_load.specs.ReadingReplay.{AreReadNights, nights_after}
use Rattle.wh_load.specs.ReadingShown.{shown_given}
use Rattle.wh_load.proofs.reading.replay.nights_in.Given as goal

abbrev pub invariant-loop-strategy : goal.invariant-loop-strategy
invariant-loop-strategy g l = record {
  read : nights_after l.bundle l.known.names.now (map shown_view l.known.views.now) [] (map cow_slice_items l.strategies) l.initial.texts
      ≡ nights_after l.bundle l.known.names.now (map shown_view l.known.views.now) (map shown_given l.nights.items) (map cow_slice_items (drop l.strategy-index l.strategies)) l.texts;
  fit : AreReadNights (map shown_view l.known.views.now) (map shown_given l.nights.items);
}
