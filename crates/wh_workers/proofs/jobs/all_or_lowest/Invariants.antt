use Rattle.std.proofs.Common.{◌≡◌, ◌++◌, length, map, reverse}
use Rattle.std.specs.Prelude.{Ok}
use Rattle.wh_workers.proofs.jobs.all_or_lowest.Given as goal

-- those before the rest, which stand the other way round, are no refusals
abbrev pub invariant-loop-outcome : goal.invariant-loop-outcome
invariant-loop-outcome g l = l.fn.outcomes.items ≡ map Ok l.values.items ++ reverse l.outcomes.items

abbrev pub decreases-loop-outcome : goal.decreases-loop-outcome
decreases-loop-outcome g l = length l.outcomes.items
