use Rattle.std.proofs.Common.{◌≡◌, ℕ, ◌<◌}
use Rattle.std.specs.Prelude.{map, slice_index}
use Rattle.wh_text_catalogue.specs.Definitions.{shown_view}
use Rattle.wh_stay.specs.Standing.{widths_of}
use Rattle.test_stay.proofs.given.have_widths.Given as goal

abbrev pub invariant-loop-view : goal.invariant-loop-view
invariant-loop-view l = (u : ℕ) → u < l.view → slice_index (widths_of (map shown_view l.views)) u ≡ slice_index l.catalog.widths u
