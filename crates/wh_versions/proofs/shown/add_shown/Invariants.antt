use Rattle.std.proofs.Common.{◌≡◌, ◌≤◌, ◌+◌, ◌-◌, ◌++◌, length, drop}
use Rattle.wh_pieces.specs.Flat.{flat}
use Rattle.wh_versions.specs.Pages.{shown_of}
use Rattle.wh_versions.proofs.shown.add_shown.Given as goal

abbrev pub invariant-loop-from : goal.invariant-loop-from
invariant-loop-from g l =
    record {
      within : l.from ≤ length l.pairs + 1;
      so_far : l.rows ++ shown_of l.version (drop l.from (flat l.width l.cells l.pairs)) ≡ l.initial.rows ++ shown_of l.version (flat l.width l.cells l.pairs);
      longer : length l.initial.rows ≤ length l.rows;
    }

abbrev pub decreases-loop-from : goal.decreases-loop-from
decreases-loop-from g l = length l.pairs - l.from
