use Rattle.std.proofs.Common.{◌≡◌, ◌≤◌, ◌++◌, length}
use Rattle.wh_versions.specs.Pages.{shown_of}
use Rattle.wh_versions.proofs.shown.shown_by_runs.Given as goal

abbrev pub invariant-loop-rows : goal.invariant-loop-rows
invariant-loop-rows g l =
    record {
      few : length l.rows ≤ l.limit;
      so_far : l.rows ++ shown_of l.version l.entries ≡ shown_of l.version l.fn.entries;
    }

abbrev pub decreases-loop-rows : goal.decreases-loop-rows
decreases-loop-rows g l = length l.entries
