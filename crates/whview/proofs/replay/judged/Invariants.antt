use Rattle.std.proofs.Common.{◌≡◌, ◌++◌, map}
use Rattle.std.specs.Vec.Iter.{into_iter_items}
use Rattle.wh_core.specs.Standing.{nights_of}
use Rattle.wh_load.specs.ReadingShown.{shown_given}
use Rattle.whview.specs.Inner.FitReplay.{AreJudgedRightly}
use Rattle.whview.specs.ReplayOutput.{AreCorrect, night_of_machine}
use Rattle.whview.proofs.replay.judged.Given as goal

abbrev pub invariant-loop-night : goal.invariant-loop-night
invariant-loop-night l = record {
  nights : nights_of l.judged.items ≡ map night_of_machine (map shown_given l.yielded);
  judged : AreJudgedRightly l.shape.children l.judged.items;
  correct : AreCorrect l.shape.children (map shown_given l.yielded);
  all : l.yielded ++ into_iter_items l.night-iterator ≡ into_iter_items l.initial.night-iterator;
}
