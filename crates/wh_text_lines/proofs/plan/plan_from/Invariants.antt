use Rattle.std.proofs.Common.{◌≡◌}
use Rattle.std.specs.List.{flat_map}
use Rattle.wh_text_lines.specs.PlanText.{listed_in, nodes_in, pairs_in}
use Rattle.wh_text_lines.proofs.plan.plan_from.Given as goal

-- the expressions, the pairs and the nodes so far
abbrev pub invariant-loop-line : goal.invariant-loop-line
invariant-loop-line l =
    (l.list.items ≡ flat_map listed_in l.yielded) × (l.pairs.items ≡ flat_map pairs_in l.yielded) × (l.nodes.items ≡ flat_map nodes_in l.yielded)
