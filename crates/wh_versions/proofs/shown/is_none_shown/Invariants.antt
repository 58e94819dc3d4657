use Rattle.std.proofs.Common.{◌≡◌}
use Rattle.wh_versions.specs.Pages.{shown_of}
use Rattle.wh_versions.proofs.shown.is_none_shown.Given as goal

abbrev pub invariant-loop-pairs : goal.invariant-loop-pairs
invariant-loop-pairs g l =
    record {
      next : (goal.iterator-loop-pairs g).can_next l.pairs-iterator × (goal.iterator-loop-pairs g).is_finite l.pairs-iterator;
      so_far : shown_of l.version l.pairs-iterator ≡ shown_of l.version l.fn.entries;
    }
