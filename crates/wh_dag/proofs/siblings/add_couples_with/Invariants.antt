use Rattle.std.proofs.Common.{◌≡◌, ◌++◌, filter}
use Rattle.wh_dag.specs.Siblings.{is_couple, pairs_with}
use Rattle.wh_dag.proofs.siblings.add_couples_with.Given as goal

abbrev pub invariant-loop-higher : goal.invariant-loop-higher
invariant-loop-higher l = record {
  added : l.couples.items ≡ l.fn.couples.items ++ filter (is_couple l.fn.shape) (pairs_with l.fn.lower l.higher);
}
