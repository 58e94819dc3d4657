use Rattle.std.proofs.Common.{◌≡◌, length, map}
use Rattle.wh_maint.specs.Comp.{bag_at}
use Rattle.wh_row.specs.Bag.{difference_of}
use Rattle.wh_text_catalogue.specs.Definitions.{shown_view}
use Rattle.whview.specs.Inner.NightOutput.{AtDerivedBelow}
use Rattle.whview.proofs.night.shown.changes.Given as goal

abbrev pub invariant-loop-place : goal.invariant-loop-place
invariant-loop-place g l = record { each : length l.changes.items ≡ l.place; at_views : AtDerivedBelow l.place (map shown_view l.views) (λ k. bag_at l.changes.items k ≡ difference_of (bag_at l.new k) (bag_at l.old k)) }
