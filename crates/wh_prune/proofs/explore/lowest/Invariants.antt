use Rattle.std.proofs.Common.{drop}
use Rattle.wh_prune.specs.Inner.Searching.{AreLeft, DecidesLowerFirst}
use Rattle.wh_prune.proofs.explore.lowest.Given as goal

abbrev pub invariant-loop-couple : goal.invariant-loop-couple
invariant-loop-couple l = record { left : AreLeft l.shape.children l.decided (drop l.couple-index l.couples); lower : DecidesLowerFirst l.decided }
