use Rattle.std.proofs.Common.{◌≡◌, ◌++◌, drop}
use Rattle.wh_versions.proofs.writing.copy_sets.Given as goal

abbrev pub invariant-loop-set : goal.invariant-loop-set
invariant-loop-set l = l.copy.items ++ drop l.set-index l.sets ≡ l.sets
