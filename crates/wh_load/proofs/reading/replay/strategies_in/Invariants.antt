use Rattle.std.proofs.Common.{◌≡◌, ◌-◌, map, vec_len}
use Rattle.std.specs.Cow.{cow_slice_items}
use Rattle.wh_load.specs.ReadingReplay.{strategies_after, strategies_in}
use Rattle.wh_load.proofs.reading.replay.strategies_in.Given as goal

abbrev pub invariant-loop-night : goal.invariant-loop-night
invariant-loop-night l = record {
  read : strategies_in l.bundle ≡ strategies_after l.bundle (map cow_slice_items l.texts.items) (l.night-end - l.night);
  numbered : vec_len l.texts ≡ l.night;
}
