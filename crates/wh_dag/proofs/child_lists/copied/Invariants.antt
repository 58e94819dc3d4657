use Rattle.std.proofs.Common.{◌≡◌, take}
use Rattle.wh_dag.specs.Lists.{lists_of}
use Rattle.wh_dag.proofs.child_lists.copied.Given as goal

abbrev pub invariant-loop-own : goal.invariant-loop-own
invariant-loop-own l = lists_of l.copy.items ≡ lists_of (take l.own-index l.lists)
