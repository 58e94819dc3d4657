use Rattle.std.proofs.Common.{◌≡◌, ◌&&◌, ℕ, ltb}
use Rattle.wh_dag.specs.Shape.{has, children_of}
use Rattle.wh_cert.specs.Relations.{related}
use Rattle.wh_cert.proofs.relation.Relation.of_children.Given as goal

abbrev pub invariant-loop-view : goal.invariant-loop-view
invariant-loop-view l = (a b : ℕ) → related l.over a b ≡ (ltb a l.view && has (children_of l.children a) b)
