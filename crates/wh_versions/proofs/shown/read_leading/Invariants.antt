use Rattle.std.proofs.Common.{◌≡◌, ◌++◌, length, take, drop}
use Rattle.wh_versions.specs.Inner.Pages.{leading}
use Rattle.wh_versions.proofs.shown.read_leading.Given as goal

abbrev pub invariant-loop-place : goal.invariant-loop-place
invariant-loop-place g l =
    record {
      room : length l.counts ≡ length l.initial.counts;
      so_far : take l.place l.counts ++ leading l.version (drop l.place l.pairs) ≡ leading l.version l.pairs;
    }
