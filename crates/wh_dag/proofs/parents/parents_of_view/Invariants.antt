use Rattle.std.proofs.Common.{◌≡◌}
use Rattle.std.specs.Prelude.{filter}
use Rattle.std.specs.List.{range_with_len}
use Rattle.wh_dag.specs.Shape.{has, children_of}
use Rattle.wh_dag.proofs.parents.parents_of_view.Given as goal

abbrev pub invariant-loop-parent : goal.invariant-loop-parent
invariant-loop-parent l = l.parents.items ≡ filter (λ parent. has (children_of l.shape parent) l.view) (range_with_len 0 l.parent)
