use Rattle.wh_minwork.proofs.Sorting.{sorted_is_correct, sorted_is_one_way, sorted_costs, sorted_costs_decided, sorted_has_no_cycle}
use Rattle.wh_minwork.proofs.minwork.sorted_is_a_strategy.Goals as goal

pub returns-clause-correct : goal.returns-clause-correct
returns-clause-correct c shape decided list sh da so = (sorted_is_correct shape decided list sh so da, sorted_is_one_way shape decided list so)

pub returns-clause-ordered : goal.returns-clause-ordered
returns-clause-ordered c shape sizes prices list sh so = sorted_costs shape sizes prices so.0 list sh so.2 so.1.0 so.1.1

pub returns-clause-decided : goal.returns-clause-decided
returns-clause-decided c shape sizes prices decided list sh da so = sorted_costs_decided shape sizes prices decided list sh so da

pub returns-clause-acyclic : goal.returns-clause-acyclic
returns-clause-acyclic c = sorted_has_no_cycle
